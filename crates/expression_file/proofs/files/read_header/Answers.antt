use borrow.Author.Tests.{le-ltb}
use Rattle.refusal.specs.Chain.{refuse, chain}
use Rattle.expression_file.specs.ReadFile.{header}
use Rattle.expression_file.proofs.files.read_header.Goals as goal

pub returns-then-file-lt2 : goal.returns-then-file-lt2
unfolding header refuse
returns-then-file-lt2 c = search chain

pub returns-then-not-in_range : goal.returns-then-not-in_range
unfolding header refuse
returns-then-not-in_range c = simp (le-ltb _ _ c.if-file-lt2.false, ← c.in_range.ensures, c.if-not-in_range.true)

pub returns-then-not-in_range-2 : goal.returns-then-not-in_range-2
unfolding header refuse
returns-then-not-in_range-2 c =
    simp (le-ltb _ _ c.if-file-lt2.false, ← c.in_range.ensures, c.if-not-in_range.false, ← c.in_range-2.ensures, c.if-not-in_range-2.true)

pub returns : goal.returns
unfolding header refuse
returns c =
    simp (le-ltb _ _ c.if-file-lt2.false, ← c.in_range.ensures, c.if-not-in_range.false, ← c.in_range-2.ensures, c.if-not-in_range-2.false)
