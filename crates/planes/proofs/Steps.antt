-- Stored bits of a cell, and steps on them, for any kinds: a step that does to coded values what the cell does, and
-- clears where an operand is clear, keeps stored bits those of the cell.
use Rattle.std.specs.Prelude.{ℕ, ◌^◌, ◌<◌, ◌≡◌, Bool, not, ◌&&◌, ltb}
use Rattle.std.proofs.Math.Path.{sym}
use Rattle.std.proofs.Common.{◌∙◌}
use Rattle.algebra.specs.Expression.{Expression, Operator, binary}
use Rattle.algebra.specs.Cell.{Kinds, out, ok}
use Rattle.states.specs.Coded.{Coded, value_at}
use Rattle.planes.specs.Planes.{planes_of, bit_in, stepped_column, stepped_column2}
use Rattle.planes.specs.PlaneLaws.{bit_in_lem, planes-same}
use Rattle.planes.specs.Steps.{BinaryStep, UnaryStep, binary-bits, cell_bits, cell_column, stored_bits, unary-bits}

-- ---- the column of an expression's cells, and the node of two operands

module _ {K : Kinds} (C : Coded K) (m c : ℕ) where
  pub cell-bit : (e : Expression) (p s : ℕ) → p < C.base → s < 256 → bit_in (cell_column C m e c) s p ≡ cell_bits C m e c p s
  unfolding cell_column
  cell-bit e p s hp hs = bit_in_lem C.base (cell_bits C m e c) p s hp hs

  -- planes that say what the cells do are the column of the cells
  pub column-of-cells :
      (e : Expression) (tests : ℕ → ℕ → Bool)
      → ((p s : ℕ)
      → p < C.base
      → s < 256
      → tests p s ≡ stored_bits C (ltb s (C.base ^ m)) (ok K e c (value_at C s)) (out K e c (value_at C s)) p)
      → planes_of C.base tests ≡ cell_column C m e c
  unfolding cell_column cell_bits
  column-of-cells e tests same = planes-same C.base tests _ same

  -- the step's column of two operands' columns is the column of the node's cells
  pub binary-cells :
      (e f : Expression) (op : Operator) (step : (ℕ → Bool) → (ℕ → Bool) → ℕ → Bool)
      → BinaryStep C op step
      → stepped_column2 C.base step (cell_column C m e c) (cell_column C m f c) ≡ cell_column C m (binary op e f) c
  unfolding stepped_column2 cell_column cell_bits
  binary-cells e f op step is =
      planes-same C.base _ _ (λ p s hp hs.
      is.local (bit_in (cell_column C m e c) s) (λ q. cell_bits C m e c q s) (bit_in (cell_column C m f c) s) (λ q. cell_bits C m f c q s) (λ q h. cell-bit e q s h hs) (λ q h. cell-bit f q s h hs) p
      ∙ binary-bits is (ltb s (C.base ^ m)) (ok K e c (value_at C s)) (out K e c (value_at C s)) (ok K f c (value_at C s)) (out K f c (value_at C s)) p hp)

  -- of one operand, where an attribute breaks the node's rule as `broken` says of its value in e
  -- and comes out as `given`
  pub unary-cells : (e g : Expression) (broken : K.Value → Bool) (given : K.Value → K.Value) (step : (ℕ → Bool) → ℕ → Bool) → UnaryStep C broken given step
      → ((held : ℕ → K.Value) → ok K g c held ≡ ok K e c held && not (broken (out K e c held)))
      → ((held : ℕ → K.Value) → out K g c held ≡ given (out K e c held))
      → stepped_column C.base step (cell_column C m e c) ≡ cell_column C m g c
  unfolding stepped_column cell_column cell_bits
  unary-cells e g broken given step is is_ok is_out =
      planes-same C.base _ _ (λ p s hp hs.
      is.local (bit_in (cell_column C m e c) s) (λ q. cell_bits C m e c q s) (λ q h. cell-bit e q s h hs) p
      ∙ unary-bits is (ltb s (C.base ^ m)) (ok K e c (value_at C s)) (out K e c (value_at C s)) p hp
      ∙ sym (rw (is_ok (value_at C s), is_out (value_at C s))))
