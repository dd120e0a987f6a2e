use mathlib.Core.Path.{sym}
use borrow.Author.Rules.{rules}
use native.Mathlib.Nat.{lt_of_lt_of_le}
use lib.Pow.{pow_mono}
use Rattle.bits.specs.Bit.{bit_test, bit-above}
use Rattle.attribute_set.specs.AttrSet.{has_attribute}
use Rattle.attribute_set.proofs.AttrSet.has.Goals as goal

pub returns-then-a-lt16 : goal.returns-then-a-lt16
unfolding has_attribute
returns-then-a-lt16 c = bit_test _ _

pub returns-else-a-lt16 : goal.returns-else-a-lt16
unfolding has_attribute
returns-else-a-lt16 c = sym (bit-above _ _ (lt_of_lt_of_le (search rules) (pow_mono c.if-a-lt16.false)))
