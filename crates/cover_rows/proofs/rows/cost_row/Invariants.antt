use Prim.Native.Nat.{◌*◌}
use Rattle.cover_rows.specs.Tried.{Reached, Before}
use Rattle.cover_rows.proofs.rows.cost_row.Given as goal

abbrev pub invariant-loop-low : goal.invariant-loop-low
invariant-loop-low l = Reached l.column l.next (l.blocks * 16) l.count (Before l.low) l.row
