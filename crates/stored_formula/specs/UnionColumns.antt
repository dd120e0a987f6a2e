-- What Formula leaves in the columns of a union or a difference (FORMAT 3.13): for every accepted file, every such node,
-- every column and every subset, by what stands in the columns of the operands. A reader needs, besides this page:
--   node_at           the node with a number                                  (crate expression_file, ReadFile)
--   column_at         where a column lies in the work space                   (ColumnPlace)
--   allowed_in, output_in   the two bits of a subset in a column               (crate column, Column)
--   formula_space     what Formula leaves, by its contract                    (Formula)
use Rattle.std.specs.Prelude.{ℕ, ◌*◌, ◌^◌, ◌≤◌, ◌<◌, ◌≡◌, Bool, not, ◌&&◌, List, ◌⊎◌, length}
use Rattle.std.proofs.Common.{sym, ap, ◌∙◌, ⊎_elim}
use Rattle.bits.specs.Bit.{differs}
use Rattle.bits.specs.Tab.{over}
use Rattle.node.specs.declared.nodes.Node.{Node}
use Rattle.node.specs.declared.nodes.Node.TheVariants.{Binary}
use Rattle.node.specs.declared.nodes.BinaryOp.TheVariants.{Union, Difference}
use Rattle.expression_file.specs.ReadFile.{node_at, acceptance, Accepted}
use Rattle.column.specs.declared.steps.Combination.TheVariants.{Agreeing}
use Rattle.column.specs.Column.{allowed_in, output_in, combined_column}
use Rattle.column.specs.ColumnLaws.{combined-allowed, combined-output}
use Rattle.stored_formula.specs.ColumnPlace.{column_at}
use Rattle.stored_formula.specs.NodeColumn.{node_columns}
use Rattle.stored_formula.specs.FormulaBytes.{formulas_of}
use Rattle.stored_formula.specs.Formula.{formula_space}
use Rattle.stored_formula.specs.FormulaLaws.{answer-filled, space-filled}
use Rattle.stored_formula.specs.StoredFormula.{stored-node}
use Rattle.admission.specs.Admission.{formula_size}

-- an accepted file with m relations and n nodes, and a work space that is long enough
module _ (file : List ℕ) (m n : ℕ) (accepted : acceptance file ≡ Accepted m n) (work : List ℕ) (enough : n * formula_size ≤ length work) where
  -- the work space as Formula leaves it
  abbrev pub space : List ℕ
  space = formula_space file work

  -- node k is the union or the difference of the nodes l and r
  module _ (k l r : ℕ) (node : k < n) (is : (node_at file k ≡ Binary Union l r) ⊎ (node_at file k ≡ Binary Difference l r)) where
    agreeing : (filled : List ℕ) (c : ℕ) → node_columns (2 ^ m) (node_at file k) filled c ≡ combined_column Agreeing (column_at filled l c) (column_at filled r c)
    agreeing filled c = ⊎_elim (ap (λ (x : Node). node_columns (2 ^ m) x filled c)) (ap (λ (x : Node). node_columns (2 ^ m) x filled c)) is

    union-column : (c : ℕ) → c < 16 → column_at space k c ≡ combined_column Agreeing (column_at space l c) (column_at space r c)
    union-column c h =
        rw (space-filled file work m n (answer-filled file (length work) m n accepted enough))
        (stored-node file m n accepted work enough k node c h ∙ agreeing (over (formulas_of file m n) work) c)

    module _ (c s : ℕ) (column : c < 16) (subset : s < 256) where
      -- allowed where both operands allow and their outputs agree
      pub union-allowed : allowed_in (column_at space k c) s ≡ allowed_in (column_at space l c) s && allowed_in (column_at space r c) s && not (differs (output_in (column_at space l c) s) (output_in (column_at space r c) s))
      union-allowed =
          ap (λ (x : List ℕ). allowed_in x s) (union-column c column) ∙ combined-allowed Agreeing (column_at space l c) (column_at space r c) s subset

      -- output where that and the left output stand
      pub union-output : output_in (column_at space k c) s ≡ allowed_in (column_at space k c) s && output_in (column_at space l c) s
      union-output =
          ap (λ (x : List ℕ). output_in x s) (union-column c column)
          ∙ combined-output Agreeing (column_at space l c) (column_at space r c) s subset
          ∙ ap (λ (b : Bool). b && output_in (column_at space l c) s) (sym union-allowed)
