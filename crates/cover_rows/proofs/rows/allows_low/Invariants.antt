use Prim.Native.Nat.{◌-◌, ◌%◌, ◌<◌}
use mathlib.Core.Path.{◌≡◌}
use Rattle.cover_rows.specs.Tried.{NoneAllowed}
use Rattle.cover_rows.proofs.rows.allows_low.Given as goal

abbrev pub invariant-loop-s : goal.invariant-loop-s
invariant-loop-s l = (l.s % 16 ≡ l.low) × (l.s < 272) × NoneAllowed l.column l.low l.count l.s

abbrev pub decreases-loop-s : goal.decreases-loop-s
decreases-loop-s l = 272 - l.s
