use Prim.Native.Nat.{◌*◌, ◌≤◌}
use Rattle.bits.specs.Written.{Written}
use Rattle.cover_rows.specs.LowEntries.{low_entry}
use Rattle.cover_rows.proofs.low.drop_relation.Given as goal

abbrev pub invariant-loop-h : goal.invariant-loop-h
invariant-loop-h l = (l.h ≤ l.blocks) × Written (low_entry l.initial.table l.relation) (l.h * 16) l.initial.table l.table
