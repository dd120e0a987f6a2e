use Prim.Native.Nat.{◌*◌, ◌≤◌}
use mathlib.Core.Path.{◌≡◌}
use lib.ListN.{length}
use Rattle.bits.specs.Written.{Written}
use Rattle.cover_rows.specs.Blocks.{lowered_row}
use Rattle.cover_rows.proofs.rows.lower_row.Given as goal

abbrev pub invariant-loop-h : goal.invariant-loop-h
invariant-loop-h l =
    (l.h ≤ l.blocks) × (length l.row ≡ 256) × Written (lowered_row l.initial.row l.table l.high l.members) (l.h * 16) l.initial.row l.row
