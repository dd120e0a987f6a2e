use borrow.Author.Tests.{eq-eqb, ne_eqb}
use Rattle.bits.specs.Bit.{bit-first}
use Rattle.attribute_set.specs.AttrSet.{from_bits, set_of}
use Rattle.attribute_set.proofs.AttrSet.build.Goals as goal

pub returns-then-bits-eq1 : goal.returns-then-bits-eq1
unfolding from_bits
returns-then-bits-eq1 c = simp (bit-first, eq-eqb _ _ c.if-bits-eq1.true)

pub returns : goal.returns
unfolding from_bits set_of
returns c = simp (bit-first, ne_eqb _ _ c.if-bits-eq1.false)
