use Rattle.std.proofs.Common.{◌≡◌, ◌/◌, ◌%◌, ◌^◌, eqb, get_or, ◌∙◌, rules}
use Rattle.bits.specs.Bit.{bit, bit_test}
use Rattle.special_maps.specs.Special.{subset_from}
use Rattle.special_maps.proofs.subset_of.Goals as goal

pub returns : goal.returns
unfolding subset_from
returns c =
    c.pack.ensures.value (λ r. bit (get_or c.args.maps.now r 0) c.args.i)
    (λ r b inside h. let is : b ≡ eqb (get_or c.args.maps.now r 0 / 2 ^ c.args.i % 2) 1 = search rules in is ∙ bit_test _ _)
