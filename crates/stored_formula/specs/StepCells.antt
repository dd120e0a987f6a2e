-- The bytes' steps are the cells' steps: what an operator does to the bits of one attribute is what the algebra's cell
-- says, by one test that is computed for each operator.
use Rattle.std.specs.Prelude.{◌≡◌, refl, Bool, true, false}
use Rattle.algebra.specs.Cell.{plain, breaks_set, yields_set, breaks_renaming, yields_renaming, breaks_out, yields_out}
use Rattle.states.specs.Coded.{plain_code}
use Rattle.planes.specs.Steps.{BinaryStep, UnaryStep, binary_test, unary_test, binary-tested, unary-tested}
use Rattle.node.specs.declared.nodes.BinaryOp.{BinaryOp}
use Rattle.node.specs.declared.nodes.BinaryOp.TheVariants.{Union, Difference, Join, Product}
use Rattle.node.specs.declared.nodes.SetOp.{SetOp}
use Rattle.node.specs.declared.nodes.SetOp.TheVariants.{Selection, Projection}
use Rattle.column.specs.declared.steps.Unary.{Unary}
use Rattle.column.specs.Steps.{set_step, renaming_step, projecting_out_step, combination_of, unary_step, combined_step}
use Rattle.column.specs.StepLaws.{unary-local, combined-local, unary-clear, left-clear, right-clear}
use Rattle.node_expression.specs.NodeExpression.{operator_of, set_operator_of}

-- ---- operators of two operands

binary_test_lem : (op : BinaryOp) → binary_test plain_code (operator_of op) (combined_step (combination_of op)) ≡ true
binary_test_lem Union = refl
binary_test_lem Difference = refl
binary_test_lem Join = refl
binary_test_lem Product = refl

pub binary-step : (op : BinaryOp) → BinaryStep plain_code (operator_of op) (combined_step (combination_of op))
binary-step op =
    record {
      coded = binary-tested plain_code (operator_of op) (combined_step (combination_of op)) (binary_test_lem op);
      left_clear = left-clear (combination_of op);
      right_clear = right-clear (combination_of op);
      local = combined-local (combination_of op);
    }

-- ---- operators of one operand

unary-by : (u : Unary) (broken given : Bool → Bool) → unary_test plain_code broken given (unary_step u) ≡ true → UnaryStep plain_code broken given (unary_step u)
unary-by u broken given test = record { coded = unary-tested plain_code broken given (unary_step u) test; clear = unary-clear u; local = unary-local u }

pub set-step : (op : SetOp) (n : Bool) → UnaryStep plain_code (breaks_set plain (set_operator_of op) n) (yields_set plain (set_operator_of op) n) (unary_step (set_step op n))
set-step Selection true = unary-by (set_step Selection true) _ _ refl
set-step Selection false = unary-by (set_step Selection false) _ _ refl
set-step Projection true = unary-by (set_step Projection true) _ _ refl
set-step Projection false = unary-by (set_step Projection false) _ _ refl

pub renaming-step : (is_old is_new : Bool) → UnaryStep plain_code (breaks_renaming plain is_old is_new) (yields_renaming plain is_old is_new) (unary_step (renaming_step is_old is_new))
renaming-step true true = unary-by (renaming_step true true) _ _ refl
renaming-step true false = unary-by (renaming_step true false) _ _ refl
renaming-step false true = unary-by (renaming_step false true) _ _ refl
renaming-step false false = unary-by (renaming_step false false) _ _ refl

pub projecting-out-step : (is_old : Bool) → UnaryStep plain_code (breaks_out plain is_old) (yields_out plain is_old) (unary_step (projecting_out_step is_old))
projecting-out-step true = unary-by (projecting_out_step true) _ _ refl
projecting-out-step false = unary-by (projecting_out_step false) _ _ refl
