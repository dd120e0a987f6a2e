use Rattle.std.proofs.Common.{◌≡◌, ℕ, ◌<◌, List}
use Rattle.stored_formula.specs.ColumnPlace.{column_at}
use Rattle.stored_formula.specs.WrittenColumns.{ColumnLoop}
use Rattle.node_columns.proofs.fill_combined.Given as goal

abbrev pub invariant-loop-c : goal.invariant-loop-c
invariant-loop-c g l =
    (column : ℕ → List ℕ)
    → ((c : ℕ) (y : _) → c < 16 → goal.F-post g l.make (column_at l.initial.work l.l c) (column_at l.initial.work l.r c) y → y ≡ column c)
    → ColumnLoop column l.k l.c l.initial.work l.work
