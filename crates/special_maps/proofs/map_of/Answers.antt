use Rattle.std.proofs.Common.{◌≡◌, ◌/◌, ◌%◌, ◌^◌, eqb, get_or, ◌∙◌, rules}
use Rattle.bits.specs.Bit.{bit, bit_test}
use Rattle.special_maps.specs.Special.{map_of}
use Rattle.special_maps.proofs.map_of.Goals as goal

pub returns : goal.returns
unfolding map_of
returns c =
    c.pack.ensures.value (λ i. bit (get_or c.args.subsets.now i 0) c.args.r)
    (λ i b inside h. let is : b ≡ eqb (get_or c.args.subsets.now i 0 / 2 ^ c.args.r % 2) 1 = search rules in is ∙ bit_test _ _)
