use native.Mathlib.Nat.{le_trans}
use Rattle.instantiation_reader.proofs.AppendedEntries.{adding-room, adding-more, adding-end}
use native.Mathlib.Omega.{arith}
use mathlib.Core.Logic.{inl, inr}
use Rattle.instantiation_reader.proofs.appending.append.Goals as goal

pub bounds-items-at : goal.bounds-items-at
bounds-items-at c =
    adding-room (c.requires) _ c.loop-i.invariant c.loop-i-test.true
    (le_trans c.if-at-ge256.false (omega arith))

pub loop-i-preserved : goal.loop-i-preserved
loop-i-preserved c =
    adding-more (c.requires) _ c.loop-i.invariant c.loop-i-test.true
    (le_trans c.if-at-ge256.false (omega arith)) c.word_at.ensures

pub returns-then-at-ge256 : goal.returns-then-at-ge256
returns-then-at-ge256 c = adding-end c.requires _ c.loop-i.invariant (inr c.if-at-ge256.true)

pub returns : goal.returns
returns c = adding-end c.requires _ c.loop-i.invariant (inl c.loop-i-test.false)
