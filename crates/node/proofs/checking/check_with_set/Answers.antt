use borrow.Author.Tests.{le-ltb, lt-leb, eq-eqb, ne_eqb}
use Rattle.refusal.specs.Chain.{refuse, chain}
use Rattle.node.specs.Legal.{first_bit}
use Rattle.node.specs.ReadNode.{check_fields, size_of}
use Rattle.node.proofs.checking.check_with_set.Goals as goal

pub returns-then-bytes-lt5 : goal.returns-then-bytes-lt5
unfolding check_fields size_of refuse
returns-then-bytes-lt5 c = search chain

pub returns-then-k-bytes : goal.returns-then-k-bytes
unfolding check_fields size_of refuse
returns-then-k-bytes c = search chain

pub returns-then-not-in_range : goal.returns-then-not-in_range
unfolding check_fields size_of refuse
returns-then-not-in_range c =
    simp (le-ltb _ _ c.if-bytes-lt5.false, lt-leb _ _ c.if-k-bytes.false, ← c.in_range.ensures, c.if-not-in_range.true)

pub returns-then-bytes-eq1 : goal.returns-then-bytes-eq1
unfolding check_fields size_of refuse
returns-then-bytes-eq1 c =
    simp (le-ltb _ _ c.if-bytes-lt5.false, lt-leb _ _ c.if-k-bytes.false, ← c.in_range.ensures, c.if-not-in_range.false, first_bit, eq-eqb _ _ c.if-bytes-eq1.true)

pub returns : goal.returns
unfolding check_fields size_of refuse
returns c =
    simp (le-ltb _ _ c.if-bytes-lt5.false, lt-leb _ _ c.if-k-bytes.false, ← c.in_range.ensures, c.if-not-in_range.false, first_bit, ne_eqb _ _ c.if-bytes-eq1.false)
