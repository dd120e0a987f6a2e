use Prim.Native.Nat.{◌+◌, ◌*◌, ◌≤◌}
use mathlib.Core.Path.{◌≡◌}
use lib.ListN.{length}
use Rattle.set_cover.specs.Cost.{cost}
use Rattle.verdict_answer.specs.First.{allowed_at}
use Rattle.cover_table.specs.Table.{IsRow, TableHolds}
use Rattle.cover_table.proofs.table.fill_table.Given as goal

abbrev pub invariant-loop-k : goal.invariant-loop-k
invariant-loop-k l =
    (l.k ≤ 15) × (length l.table ≡ length l.initial.table) × TableHolds l.count (allowed_at l.formula 0) (l.blocks * 16) (l.k + 1) l.table × IsRow l.count (cost l.count (allowed_at l.formula 0) l.k) l.row
