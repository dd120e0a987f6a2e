use borrow.Author.Tests.{le-ltb, lt-leb}
use Rattle.refusal.specs.Chain.{refuse, chain}
use Rattle.node.specs.ReadNode.{check_fields, size_of}
use Rattle.node.proofs.checking.check_renaming.Goals as goal

pub returns-then-bytes-lt4 : goal.returns-then-bytes-lt4
unfolding check_fields size_of refuse
returns-then-bytes-lt4 c = search chain

pub returns-then-k-bytes : goal.returns-then-k-bytes
unfolding check_fields size_of refuse
returns-then-k-bytes c = search chain

pub returns-then-not-is_special : goal.returns-then-not-is_special
unfolding check_fields size_of refuse
returns-then-not-is_special c =
    simp (le-ltb _ _ c.if-bytes-lt4.false, lt-leb _ _ c.if-k-bytes.false, ← c.is_special.ensures, c.if-not-is_special.true)

pub returns-then-not-is_special-2 : goal.returns-then-not-is_special-2
unfolding check_fields size_of refuse
returns-then-not-is_special-2 c =
    simp (le-ltb _ _ c.if-bytes-lt4.false, lt-leb _ _ c.if-k-bytes.false, ← c.is_special.ensures, c.if-not-is_special.false, ← c.is_special-2.ensures, c.if-not-is_special-2.true)

pub returns : goal.returns
unfolding check_fields size_of refuse
returns c =
    simp (le-ltb _ _ c.if-bytes-lt4.false, lt-leb _ _ c.if-k-bytes.false, ← c.is_special.ensures, c.if-not-is_special.false, ← c.is_special-2.ensures, c.if-not-is_special-2.false)
