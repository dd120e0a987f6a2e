use mathlib.Core.Path.{sym, ◌∙◌}
use Rattle.listing_entries.specs.Naming.{joined-start, joined-with, joined-without, joined-done}
use Rattle.listing_entries.proofs.naming.join.Goals as goal
use Rattle.listing_entries.proofs.naming.join.Goals.{then-has, else-has}

pub loop-a-init : goal.loop-a-init
loop-a-init c = joined-start _ _

pub loop-a-preserved : goal.loop-a-preserved
loop-a-preserved c =
    elim c.if-has.branch [
      | then-has w ↦ rw (w.all-is, w.add-all.ensures) (joined-with _ _ _ _ c.loop-a.invariant (sym c.has.ensures ∙ w.if-has.true))
      | else-has w ↦ rw w.all-is (joined-without _ _ _ _ c.loop-a.invariant (sym c.has.ensures ∙ w.if-has.false))
    ]

pub returns : goal.returns
returns c = joined-done _ _ _ _ c.loop-a-test.false c.loop-a.invariant
