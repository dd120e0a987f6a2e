use borrow.Author.Tests.{lt-leb, le-leb}
use Rattle.bits.specs.Range.{in_range}
use Rattle.bits.proofs.in_range.Goals as goal

pub returns-then-low-x : goal.returns-then-low-x
unfolding in_range
returns-then-low-x c = simp (le-leb _ _ c.if-low-x.true)

pub returns-else-low-x : goal.returns-else-low-x
unfolding in_range
returns-else-low-x c = simp (lt-leb _ _ c.if-low-x.false)
