use Prim.Native.Nat.{◌-◌, ◌*◌, ◌%◌, ◌<◌}
use mathlib.Core.Path.{◌≡◌}
use Rattle.cover_rows.specs.Tried.{Reached, Through}
use Rattle.cover_rows.proofs.rows.try_low.Given as goal

abbrev pub invariant-loop-s : goal.invariant-loop-s
invariant-loop-s l = (l.s % 16 ≡ l.low) × (l.s < 272) × Reached l.column l.next (l.blocks * 16) l.count (Through l.low l.s) l.row

abbrev pub decreases-loop-s : goal.decreases-loop-s
decreases-loop-s l = 272 - l.s
