use mathlib.Core.Path.{◌≡◌}
use native.Mathlib.Omega.{arith}
use Rattle.entry_columns.specs.EntryColumns.{stacking-first, stacking-next}
use Rattle.entry_columns.proofs.stack.Goals as goal

pub loop-j-init : goal.loop-j-init
loop-j-init g c = let args = c.args in (omega arith, λ list s from fits gives. stacking-first list s from _ fits)

pub loop-j-preserved : goal.loop-j-preserved
loop-j-preserved g c = (omega arith, λ list s from fits gives. stacking-next list s from _ fits _ _ _ (omega arith) c.loop-j.invariant.0 (gives _ _ (omega arith) c.byte.ensures) (c.loop-j.invariant.1 list s from fits gives))

pub returns : goal.returns
returns g c =
    let all : c.loop-j.j ≡ 0 = omega arith in
    λ list s from fits gives. rw all at (c.loop-j.invariant.1 list s from fits gives)
