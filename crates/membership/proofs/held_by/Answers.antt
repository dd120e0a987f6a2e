use Rattle.std.proofs.Common.{◌≡◌, ◌/◌, ◌%◌, ◌^◌, eqb, get_or, ◌∙◌, rules}
use Rattle.bits.specs.Bit.{bit, bit_test}
use Rattle.membership.proofs.held_by.Goals as goal

pub returns : goal.returns
returns c =
    let both = c.list_where.ensures (λ e. bit e c.args.r)
    (λ i b inside h. let is : b ≡ eqb (get_or c.args.entries.now i 0 / 2 ^ c.args.r % 2) 1 = search rules in is ∙ bit_test _ _)
    in
    record { value = both.0; list_after = both.1 }
