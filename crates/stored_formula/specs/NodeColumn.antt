-- The column of a node, from the columns of its operands; and that it is the column of the node's cells.
use Rattle.std.specs.Prelude.{ℕ, zero, suc, ◌^◌, ◌<◌, ◌≡◌, refl, Bool, true, not, ◌&&◌, List, eqb, ltb}
use Rattle.std.proofs.Common.{sym, ap, ap₂, ◌∙◌, arith}
use Rattle.std.proofs.Math.Bool.{and-true}
use Rattle.bits.specs.Bit.{bit}
use Rattle.attribute_set.specs.AttrSet.{has_attribute}
use Rattle.algebra.specs.Expression.{Expression, relation, binary, with_set, renaming, projecting_out}
use Rattle.algebra.specs.Cell.{plain, out, ok}
use Rattle.states.specs.Coded.{plain_code, value_at, plain_value, plain-values, bit-back}
use Rattle.planes.specs.Planes.{stepped_column, stepped_column2}
use Rattle.planes.specs.Steps.{UnaryStep, stored_bits, cell_column as planes_column}
use Rattle.planes.proofs.Steps.{column-of-cells, binary-cells as planes-binary, unary-cells as planes-unary}
use Rattle.node.specs.declared.nodes.BinaryOp.{BinaryOp}
use Rattle.node.specs.declared.nodes.Node.{Node}
use Rattle.node.specs.declared.nodes.Node.TheVariants.{Relation, Binary, WithSet, Renaming, ProjectingOut}
use Rattle.node.specs.Legal.{LegalNode}
use Rattle.column.specs.declared.steps.Unary.{Unary}
use Rattle.column.specs.Steps.{set_step, renaming_step, projecting_out_step, combination_of, unary_step, combined_step}
use Rattle.column.specs.Column.{allowed_in, output_in, relation_column, unary_column, combined_column}
use Rattle.column.specs.ColumnLaws.{pair, plain-column, plain-relation, plain-unary, plain-combined, allowed-in, output-in}
use Rattle.stored_formula.specs.StepCells.{binary-step, set-step, renaming-step, projecting-out-step}
use Rattle.node_expression.specs.NodeExpression.{named-is, operator_of, set_operator_of, named, of_node}
use Rattle.stored_formula.specs.ColumnPlace.{column_at}
use Rattle.stored_formula.specs.FormulaBytes.{allowed_bit, output_bit, cell_column}

-- FORMAT 3.11: column c of a node, where there are `count` subsets and `operand l` is column c of node l
abbrev pub node_column : ℕ → Node → ℕ → (ℕ → List ℕ) → List ℕ
node_column count (Relation r) c operand = relation_column count r
node_column count (Binary op l r) c operand = combined_column (combination_of op) (operand l) (operand r)
node_column count (WithSet op l s) c operand = unary_column (set_step op (has_attribute s c)) (operand l)
node_column count (Renaming l old new) c operand = unary_column (renaming_step (eqb c old) (eqb c new)) (operand l)
node_column count (ProjectingOut l old) c operand = unary_column (projecting_out_step (eqb c old)) (operand l)

-- the columns of a node whose operands' formulas stand in the work space
abbrev pub node_columns : ℕ → Node → List ℕ → ℕ → List ℕ
node_columns count node work c = node_column count node c (λ l. column_at work l c)

-- ---- columns

-- what stands in the column of an expression's cells
pub cell-allowed : (m : ℕ) (e : Expression) (c s : ℕ) → s < 256 → allowed_in (cell_column m e c) s ≡ allowed_bit m e c s
unfolding cell_column
cell-allowed m e c s h = allowed-in (allowed_bit m e c) (output_bit m e c) s h

pub cell-output : (m : ℕ) (e : Expression) (c s : ℕ) → s < 256 → output_in (cell_column m e c) s ≡ output_bit m e c s
unfolding cell_column
cell-output m e c s h = output-in (allowed_bit m e c) (output_bit m e c) s h

-- ---- as columns of two planes

cells_are : (m : ℕ) (e : Expression) (c : ℕ) → cell_column m e c ≡ planes_column plain_code m e c
unfolding cell_column allowed_bit output_bit
cells_are m e c = plain-column _ _ ∙ column-of-cells plain_code m c e _ at
  where
    at :
        (p s : ℕ)
        → p < 2
        → s < 256
        → pair (λ s. ltb s (2 ^ m) && ok plain e c (bit s)) (λ s. ltb s (2 ^ m) && ok plain e c (bit s) && out plain e c (bit s)) p s
        ≡ stored_bits plain_code (ltb s (2 ^ m)) (ok plain e c (value_at plain_code s)) (out plain e c (value_at plain_code s)) p
    at zero s hp hs = rw (plain-values s) (sym (and-true (ltb s (2 ^ m) && ok plain e c (value_at plain_code s))))
    at (suc zero) s hp hs = rw (plain-values s) (ap (λ (b : Bool). ltb s (2 ^ m) && ok plain e c (value_at plain_code s) && b) (sym (bit-back (out plain e c (value_at plain_code s)))))
    at (suc (suc p)) s hp hs = absurd (omega arith)

relation-cells : (m r c : ℕ) → relation_column (2 ^ m) r ≡ cell_column m (relation r) c
relation-cells m r c = plain-relation (2 ^ m) r ∙ column-of-cells plain_code m c (relation r) _ at ∙ sym (cells_are m (relation r) c)
  where
    at : (p s : ℕ) → p < 2 → s < 256 → pair (λ s. ltb s (2 ^ m)) (λ s. ltb s (2 ^ m) && bit s r) p s ≡ stored_bits plain_code (ltb s (2 ^ m)) true (value_at plain_code s r) p
    at zero s hp hs = sym (and-true (ltb s (2 ^ m) && true) ∙ and-true (ltb s (2 ^ m)))
    at (suc zero) s hp hs = ap₂ ◌&&◌ (sym (and-true (ltb s (2 ^ m)))) (sym (plain_value s r) ∙ sym (bit-back (value_at plain_code s r)))
    at (suc (suc p)) s hp hs = absurd (omega arith)

binary-cells : (m : ℕ) (op : BinaryOp) (e f : Expression) (c : ℕ) → combined_column (combination_of op) (cell_column m e c) (cell_column m f c) ≡ cell_column m (binary (operator_of op) e f) c
binary-cells m op e f c =
    plain-combined (combination_of op) (cell_column m e c) (cell_column m f c)
    ∙ ap₂ (stepped_column2 2 (combined_step (combination_of op))) (cells_are m e c) (cells_are m f c)
    ∙ planes-binary plain_code m c e f (operator_of op) (combined_step (combination_of op)) (binary-step op)
    ∙ sym (cells_are m (binary (operator_of op) e f) c)

unary-cells : (m : ℕ) (e g : Expression) (c : ℕ) (u : Unary) (broken given : Bool → Bool) → UnaryStep plain_code broken given (unary_step u)
    → ((held : ℕ → Bool) → ok plain g c held ≡ ok plain e c held && not (broken (out plain e c held)))
    → ((held : ℕ → Bool) → out plain g c held ≡ given (out plain e c held))
    → unary_column u (cell_column m e c) ≡ cell_column m g c
unary-cells m e g c u broken given step is_ok is_out =
    plain-unary u (cell_column m e c)
    ∙ ap (stepped_column 2 (unary_step u)) (cells_are m e c)
    ∙ planes-unary plain_code m c e g broken given (unary_step u) step is_ok is_out
    ∙ sym (cells_are m g c)

-- over operands' columns of cells, a node's column is that of its cells
pub node-cells :
    (m k c : ℕ) (node : Node) (operand : ℕ → List ℕ) (e : ℕ → Expression)
    → c < 16
    → LegalNode m k node
    → ((l : ℕ) → l < k → operand l ≡ cell_column m (e l) c)
    → node_column (2 ^ m) node c operand ≡ cell_column m (of_node node e) c
node-cells m k c (Relation r) operand e h legal same = relation-cells m r c
node-cells m k c (Binary op l r) operand e h legal same = rw (same l legal.0, same r legal.1) (binary-cells m op (e l) (e r) c)
node-cells m k c (WithSet op l s) operand e h legal same =
    rw (same l legal.0, ← named-is s c legal.1 h)
    (unary-cells m (e l) (with_set (set_operator_of op) (named s) (e l)) c (set_step op (named s c)) _ _ (set-step op (named s c)) (λ held. refl) (λ held. refl))
node-cells m k c (Renaming l old new) operand e h legal same =
    rw (same l legal.0)
    (unary-cells m (e l) (renaming old new (e l)) c (renaming_step (eqb c old) (eqb c new)) _ _ (renaming-step (eqb c old) (eqb c new)) (λ held. refl) (λ held. refl))
node-cells m k c (ProjectingOut l old) operand e h legal same =
    rw (same l legal.0)
    (unary-cells m (e l) (projecting_out old (e l)) c (projecting_out_step (eqb c old)) _ _ (projecting-out-step (eqb c old)) (λ held. refl) (λ held. refl))
