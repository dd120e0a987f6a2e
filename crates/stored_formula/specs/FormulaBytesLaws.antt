-- What stands at a node's column of a work space that is filled, and what a bit of it says.
use Rattle.std.specs.Prelude.{ℕ, ◌*◌, ◌^◌, ◌≤◌, ◌<◌, ◌≡◌, Bool, true, false, ◌&&◌, List, ltb, length}
use Rattle.std.proofs.Math.Path.{ap}
use Rattle.std.proofs.Common.{◌∙◌, arith}
use borrow.Author.Tests.{lt-ltb, le-ltb, ltb-true}
use Rattle.bits.specs.Bit.{bit}
use Rattle.bits.specs.Booleans.{and_left, and_right}
use Rattle.bits.specs.Tab.{tab, length-tab, get_or-tab, over, over-length, over-front, over-back}
use Rattle.algebra.specs.Expression.{Expression}
use Rattle.algebra.specs.Cell.{plain, out, ok}
use Rattle.node_expression.specs.NodeExpression.{expression_at}
use Rattle.stored_formula.specs.ColumnPlace.{column_at}
use Rattle.stored_formula.specs.FormulaBytes.{allowed_bit, output_bit, cell_column, stored_byte, formulas_of}
use Rattle.stored_formula.specs.FilledNodes.{filled-column}
use Rattle.admission.specs.Admission.{formula_size}

-- column c of node k is the column of its expression's cells
pub stored-column : (file work : List ℕ) (m n : ℕ) → n * formula_size ≤ length work → (k c : ℕ) → k < n → c < 16 → column_at (over (formulas_of file m n) work) k c ≡ cell_column m (expression_at file k) c
unfolding formulas_of
stored-column file work m n fits k c hk hc =
    let size = length-tab (n * formula_size) (stored_byte file m) in
    let whole = over-length (tab (n * formula_size) (stored_byte file m)) work (omega arith) in
    filled-column file m (n * formula_size) work (over (tab (n * formula_size) (stored_byte file m)) work) k c
    (record {
      size = whole;
      front = λ i h. over-front (tab (n * formula_size) (stored_byte file m)) work i 0 (omega arith) ∙ get_or-tab (n * formula_size) (stored_byte file m) i 0 h;
      back = λ i h. over-back (tab (n * formula_size) (stored_byte file m)) work i 0 (omega arith);
    })
    (omega arith)
    (omega arith)
    hc

-- ---- one expression, one column, one subset

module _ (m : ℕ) (e : Expression) (c s : ℕ) where
  -- of the subsets of m relations the bits are the cell's
  pub allowed-is : s < 2 ^ m → allowed_bit m e c s ≡ ok plain e c (bit s)
  unfolding allowed_bit
  allowed-is h = ap (λ (t : Bool). t && ok plain e c (bit s)) (lt-ltb s (2 ^ m) h)

  pub output-is : s < 2 ^ m → output_bit m e c s ≡ ok plain e c (bit s) && out plain e c (bit s)
  unfolding output_bit
  output-is h = ap (λ (t : Bool). t && out plain e c (bit s)) (allowed-is h)

  -- FORMAT 3.8: bits from 2^m up are clear
  pub allowed-above : 2 ^ m ≤ s → allowed_bit m e c s ≡ false
  unfolding allowed_bit
  allowed-above h = ap (λ (t : Bool). t && ok plain e c (bit s)) (le-ltb s (2 ^ m) h)

  pub allowed-below : allowed_bit m e c s ≡ true → s < 2 ^ m
  unfolding allowed_bit
  allowed-below h = ltb-true s (2 ^ m) (and_left (ltb s (2 ^ m)) (ok plain e c (bit s)) h)

  pub allowed-cell : allowed_bit m e c s ≡ true → ok plain e c (bit s) ≡ true
  unfolding allowed_bit
  allowed-cell h = and_right (ltb s (2 ^ m)) (ok plain e c (bit s)) h

  -- where s is allowed, the output bit says whether the result has the attribute
  pub output-allowed : allowed_bit m e c s ≡ true → output_bit m e c s ≡ out plain e c (bit s)
  unfolding output_bit
  output-allowed h = ap (λ (t : Bool). t && out plain e c (bit s)) h

  -- FORMAT 3.8: output bits stand only where s is allowed
  pub output-within : output_bit m e c s ≡ true → allowed_bit m e c s ≡ true
  unfolding output_bit
  output-within h = and_left (allowed_bit m e c s) (out plain e c (bit s)) h
