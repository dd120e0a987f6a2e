-- How the work space is filled, node by node, from the front.
use Rattle.std.specs.Prelude.{ℕ, ◌+◌, ◌-◌, ◌*◌, ◌/◌, ◌%◌, ◌^◌, ◌≤◌, ◌<◌, ◌≡◌, List, length, get_or}
use Rattle.std.proofs.Common.{sym, ap, ◌∙◌, inl, inr, arith}
use Rattle.std.proofs.Math.Decide.{dec_le}
use Rattle.bits.specs.Tab.{over}
use Rattle.bits.specs.Written.{Written, written_all}
use Rattle.node.specs.Legal.{LegalNode}
use Rattle.expression_file.specs.ReadFile.{node_at}
use Rattle.algebra.specs.Expression.{Expression}
use Rattle.stored_formula.specs.ColumnPlace.{column_at}
use Rattle.stored_formula.specs.ColumnPlaceLaws.{column-is}
use Rattle.stored_formula.specs.WrittenColumns.{Columns}
use Rattle.column.specs.ColumnLaws.{column-length}
use Rattle.node_expression.specs.NodeExpression.{expression_at, expression-is}
use Rattle.stored_formula.specs.NodeColumn.{node_columns, node-cells}
use Rattle.stored_formula.specs.FormulaBytes.{cell_column, stored_byte, formulas_of}
use Rattle.admission.specs.Admission.{formula_size}

-- the first p bytes of the work space are those of the formulas, the rest is as it was
abbrev pub FilledTo : List ℕ → ℕ → ℕ → List ℕ → List ℕ → Type 0
FilledTo file m p old work = Written (stored_byte file m) p old work

-- ---- a column

pub cell-length : (m : ℕ) (e : Expression) (c : ℕ) → length (cell_column m e c) ≡ 64
unfolding cell_column
cell-length m e c = column-length _ _

-- the byte at place i of column c of node k
pub stored_at : (file : List ℕ) (m k c i : ℕ) → c < 16 → i < 64 → stored_byte file m (k * formula_size + c * 64 + i) ≡ get_or (cell_column m (expression_at file k) c) i 0
unfolding stored_byte
stored_at file m k c i hc hi =
    let node : (k * formula_size + c * 64 + i) / formula_size ≡ k = omega arith in
    let column : (k * formula_size + c * 64 + i) % formula_size / 64 ≡ c = omega arith in
    let place : (k * formula_size + c * 64 + i) % 64 ≡ i = omega arith in
    rw (node, column, place)

-- a column that was filled is read back
pub filled-column : (file : List ℕ) (m p : ℕ) (old work : List ℕ) (l c : ℕ) → FilledTo file m p old work → p ≤ length work → l * formula_size + formula_size ≤ p → c < 16 → column_at work l c ≡ cell_column m (expression_at file l) c
filled-column file m p old work l c filled fits within hc =
    column-is work l c (cell_column m (expression_at file l) c) (omega arith) (cell-length m (expression_at file l) c)
    (λ i h. filled.front (l * formula_size + c * 64 + i) (omega arith) ∙ stored_at file m l c i hc h)

-- the next column of a node, from the columns that stand there already
next-column :
    (file : List ℕ) (m : ℕ) (work : List ℕ) (k c : ℕ)
    → c < 16
    → LegalNode m k (node_at file k)
    → k * formula_size ≤ length work
    → FilledTo file m (k * formula_size) work work
    → node_columns (2 ^ m) (node_at file k) work c ≡ cell_column m (expression_at file k) c
next-column file m work k c hc legal fits filled =
    node-cells m k c (node_at file k) (λ l. column_at work l c) (expression_at file) hc legal
    (λ l below. filled-column file m (k * formula_size) work work l c filled fits (omega arith) hc)
    ∙ ap (λ (e : Expression). cell_column m e c) (sym (expression-is file m k legal))

-- one node more
pub node-filled :
    (file : List ℕ) (m k : ℕ) (work next : List ℕ)
    → LegalNode m k (node_at file k)
    → k * formula_size + formula_size ≤ length work
    → FilledTo file m (k * formula_size) work work
    → Columns (node_columns (2 ^ m) (node_at file k) work) (k * formula_size) 16 work next
    → FilledTo file m (k * formula_size + formula_size) work next
node-filled file m k work next legal fits filled written =
    record {
      size = written.size;
      front = λ i h. front i h (dec_le (k * formula_size) i);
      back = λ i h. written.outside i (inr (omega arith));
    }
  where
    front : (i : ℕ) → i < k * formula_size + formula_size → Dec (k * formula_size ≤ i) → get_or next i 0 ≡ stored_byte file m i
    front i h (yes above) =
        let c : (i - k * formula_size) / 64 < 16 = omega arith in
        let place : (i - k * formula_size) % 64 < 64 = omega arith in
        let whole : k * formula_size + (i - k * formula_size) / 64 * 64 + (i - k * formula_size) % 64 ≡ i = omega arith in
        ap (λ (j : ℕ). get_or next j 0) (sym whole)
        ∙ written.inside ((i - k * formula_size) / 64) ((i - k * formula_size) % 64) c place
        ∙ ap (λ (column : List ℕ). get_or column ((i - k * formula_size) % 64) 0) (next-column file m work k ((i - k * formula_size) / 64) c legal (omega arith) filled)
        ∙ sym (stored_at file m k ((i - k * formula_size) / 64) ((i - k * formula_size) % 64) c place)
        ∙ ap (stored_byte file m) whole
    front i h (no below) = written.outside i (inl (omega arith)) ∙ filled.front i (omega arith)

-- all nodes
pub filled-all : (file : List ℕ) (m n : ℕ) (old work : List ℕ) → n * formula_size ≤ length old → FilledTo file m (n * formula_size) old work → work ≡ over (formulas_of file m n) old
unfolding formulas_of
filled-all file m n old work fits filled = written_all (stored_byte file m) (n * formula_size) old work fits filled
