use borrow.Author.Tests.{le-ltb, lt-leb}
use Rattle.refusal.specs.Chain.{refuse, chain}
use Rattle.node.specs.ReadNode.{check_fields, size_of}
use Rattle.node.proofs.checking.check_binary.Goals as goal

pub returns-then-bytes-lt4 : goal.returns-then-bytes-lt4
unfolding check_fields size_of refuse
returns-then-bytes-lt4 c = search chain

pub returns-then-k-bytes : goal.returns-then-k-bytes
unfolding check_fields size_of refuse
returns-then-k-bytes c = search chain

pub returns-then-k-bytes-2 : goal.returns-then-k-bytes-2
unfolding check_fields size_of refuse
returns-then-k-bytes-2 c = search chain

pub returns-then-not-in_range : goal.returns-then-not-in_range
unfolding check_fields size_of refuse
returns-then-not-in_range c =
    simp (le-ltb _ _ c.if-bytes-lt4.false, lt-leb _ _ c.if-k-bytes.false, lt-leb _ _ c.if-k-bytes-2.false, ← c.in_range.ensures, c.if-not-in_range.true)

pub returns : goal.returns
unfolding check_fields size_of refuse
returns c =
    simp (le-ltb _ _ c.if-bytes-lt4.false, lt-leb _ _ c.if-k-bytes.false, lt-leb _ _ c.if-k-bytes-2.false, ← c.in_range.ensures, c.if-not-in_range.false)
