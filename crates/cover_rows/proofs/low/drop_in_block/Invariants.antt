use Prim.Native.Nat.{◌*◌, ◌≤◌}
use Rattle.cover_rows.specs.Blocks.{WrittenAt}
use Rattle.cover_rows.specs.LowEntries.{dropped_entry}
use Rattle.cover_rows.proofs.low.drop_in_block.Given as goal

abbrev pub invariant-loop-n : goal.invariant-loop-n
invariant-loop-n l = (l.n ≤ 16) × WrittenAt (dropped_entry l.initial.table l.relation (l.h * 16)) (l.h * 16) l.n l.initial.table l.table
