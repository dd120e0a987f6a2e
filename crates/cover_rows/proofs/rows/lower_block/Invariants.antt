use Prim.Native.Nat.{◌≤◌}
use Rattle.cover_rows.specs.Blocks.{WrittenAt, lowered_entry}
use Rattle.cover_rows.proofs.rows.lower_block.Given as goal

abbrev pub invariant-loop-n : goal.invariant-loop-n
invariant-loop-n l = (l.n ≤ 16) × WrittenAt (lowered_entry l.initial.row l.table l.to l.from l.members) l.to l.n l.initial.row l.row
