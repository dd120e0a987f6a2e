-- Laws of columns: a plain column is one of two planes, allowed and output, so that what holds of any
-- number of planes holds of it.
use Prim.Native.Nat.{ℕ, zero, suc, ◌+◌, ◌-◌, ◌*◌, ◌/◌, ◌%◌, ◌<◌}
use Rattle.std.specs.Prelude.{◌≡◌, refl, Bool, ◌&&◌, List, ltb, length, set}
use Rattle.std.proofs.Common.{sym, subst, ◌∙◌, zero-add, lt-ltb, le-ltb, lit<}
use Rattle.std.proofs.Math.Path.{ap, ap₂}
use Rattle.std.proofs.Math.Bool.{cond}
use native.Mathlib.Omega.{arith}
use Rattle.std.proofs.Math.ListN.{get_or}
use Rattle.bits.specs.Bit.{bit}
use Rattle.bits.specs.Tab.{length-tab, get_or-tab}
use Rattle.planes.specs.Planes.{map_byte, planes_of, bit_in, stepped_column, stepped_column2}
use Rattle.planes.specs.PlaneLaws.{bit_at, bit_in_lem, Filling, filling-plane, filling-next, filling-done, planes-same, stepped-is, stepped-is2}
use Rattle.column.specs.Column.{column_of, allowed_in, output_in, relation_column, unary_column, combined_column}
use Rattle.column.specs.Steps.{unary_allowed, unary_output, combined_allowed, combined_output, unary_step, combined_step}
use Rattle.column.specs.declared.steps.Unary.{Unary}
use Rattle.column.specs.declared.steps.Combination.{Combination}

-- allowed, then output
abbrev pub pair : (ℕ → Bool) → (ℕ → Bool) → ℕ → ℕ → Bool
pair allowed output zero = allowed
pair allowed output (suc p) = output

module _ (allowed output : ℕ → Bool) where
  pub column-length : length (column_of allowed output) ≡ 64
  unfolding column_of
  column-length = length-tab 64 (λ q. cond (ltb q 32) (map_byte allowed q) (map_byte output (q - 32)))

  column-byte : (p i : ℕ) → p < 2 → i < 32 → get_or (column_of allowed output) (p * 32 + i) 0 ≡ map_byte (pair allowed output p) i
  unfolding column_of
  column-byte zero i hp h =
      ap (λ (k : ℕ). get_or (column_of allowed output) k 0) (zero-add i)
      ∙ get_or-tab 64 (λ q. cond (ltb q 32) (map_byte allowed q) (map_byte output (q - 32))) i 0 (omega arith)
      ∙ ap (λ (t : Bool). cond t (map_byte allowed i) (map_byte output (i - 32))) (lt-ltb i 32 h)
  column-byte (suc zero) i hp h =
      let back : 32 + i - 32 ≡ i = omega arith in
      get_or-tab 64 (λ q. cond (ltb q 32) (map_byte allowed q) (map_byte output (q - 32))) (32 + i) 0 (omega arith)
      ∙ ap₂ (λ (t : Bool) (k : ℕ). cond t (map_byte allowed (32 + i)) (map_byte output k)) (le-ltb (32 + i) 32 (omega arith)) back
  column-byte (suc (suc p)) i hp h = absurd (omega arith)

  pub plain-column : column_of allowed output ≡ planes_of 2 (pair allowed output)
  plain-column =
      filling-done 2 (pair allowed output) (column_of allowed output)
      (record { size = column-length; before = column-byte; here = λ p h. absurd (omega arith) })

-- ---- where the bits stand (FORMAT 3.2, 3.5)

pub allowed-bit : (column : List ℕ) (s : ℕ) → allowed_in column s ≡ bit (get_or column (s / 8) 0) (s % 8)
unfolding allowed_in
allowed-bit column s = refl

pub output-bit : (column : List ℕ) (s : ℕ) → output_in column s ≡ bit (get_or column (32 + s / 8) 0) (s % 8)
unfolding output_in
output-bit column s = refl

plain-allowed : (column : List ℕ) (s : ℕ) → allowed_in column s ≡ bit_in column s 0
plain-allowed column s = allowed-bit column s ∙ ap (λ (k : ℕ). bit (get_or column k 0) (s % 8)) (sym (zero-add (s / 8))) ∙ sym (bit_at column s 0)

plain-output : (column : List ℕ) (s : ℕ) → output_in column s ≡ bit_in column s 1
plain-output column s = output-bit column s ∙ sym (bit_at column s 1)

module _ (allowed output : ℕ → Bool) (s : ℕ) (h : s < 256) where
  pub allowed-in : allowed_in (column_of allowed output) s ≡ allowed s
  allowed-in = plain-allowed (column_of allowed output) s ∙ rw (plain-column allowed output) (bit_in_lem 2 (pair allowed output) 0 s (lit< tt) h)

  pub output-in : output_in (column_of allowed output) s ≡ output s
  output-in = plain-output (column_of allowed output) s ∙ rw (plain-column allowed output) (bit_in_lem 2 (pair allowed output) 1 s (lit< tt) h)

-- ---- the columns that operators make

pub plain-relation : (count r : ℕ) → relation_column count r ≡ planes_of 2 (pair (λ s. ltb s count) (λ s. ltb s count && bit s r))
unfolding relation_column
plain-relation count r = plain-column (λ s. ltb s count) (λ s. ltb s count && bit s r)

pub plain-unary : (u : Unary) (column : List ℕ) → unary_column u column ≡ stepped_column 2 (unary_step u) column
unfolding unary_column
plain-unary u column = plain-column _ _ ∙ planes-same 2 _ _ at ∙ stepped-is 2 (unary_step u) column
  where
    at : (p s : ℕ) → p < 2 → s < 256 → pair (λ s. unary_allowed u (allowed_in column s) (output_in column s)) (λ s. unary_output u (allowed_in column s) (output_in column s)) p s ≡ unary_step u (bit_in column s) p
    at zero s hp hs = rw (plain-allowed column s, plain-output column s)
    at (suc p) s hp hs = rw (plain-allowed column s, plain-output column s)

pub plain-combined : (c : Combination) (left right : List ℕ) → combined_column c left right ≡ stepped_column2 2 (combined_step c) left right
unfolding combined_column
plain-combined c left right = plain-column _ _ ∙ planes-same 2 _ _ at ∙ stepped-is2 2 (combined_step c) left right
  where
    at :
        (p s : ℕ)
        → p < 2
        → s < 256
        → pair (λ s. combined_allowed c (allowed_in left s) (output_in left s) (allowed_in right s) (output_in right s))
        (λ s. combined_output c (allowed_in left s) (output_in left s) (allowed_in right s) (output_in right s)) p s
        ≡ combined_step c (bit_in left s) (bit_in right s) p
    at zero s hp hs = rw (plain-allowed left s, plain-output left s, plain-allowed right s, plain-output right s)
    at (suc p) s hp hs = rw (plain-allowed left s, plain-output left s, plain-allowed right s, plain-output right s)

-- what stands in the column of an operator of two operands, whatever bytes the operands' columns have
module _ (c : Combination) (left right : List ℕ) (s : ℕ) (h : s < 256) where
  pub combined-allowed : allowed_in (combined_column c left right) s ≡ combined_allowed c (allowed_in left s) (output_in left s) (allowed_in right s) (output_in right s)
  unfolding combined_column
  combined-allowed = allowed-in _ _ s h

  pub combined-output : output_in (combined_column c left right) s ≡ combined_output c (allowed_in left s) (output_in left s) (allowed_in right s) (output_in right s)
  unfolding combined_column
  combined-output = output-in _ _ s h

-- ---- a loop over 32 bytes that writes both planes

pub filling-both :
    (tests : ℕ → ℕ → Bool) (j : ℕ) (column : List ℕ) (x y : ℕ)
    → j < 32
    → x ≡ map_byte (tests 0) j
    → y ≡ map_byte (tests 1) j
    → Filling 2 tests j 0 column
    → Filling 2 tests (j + 1) 0 (set (set column j x) (32 + j) y)
filling-both tests j column x y h isx isy f =
    filling-next 2 tests j _
    (filling-plane 2 tests j 1 _ y (lit< tt) h isy
    (subst (λ (k : ℕ). Filling 2 tests j 1 (set column k x)) (zero-add j) (filling-plane 2 tests j 0 column x (lit< tt) h isx f)))

pub filling-end : (tests : ℕ → ℕ → Bool) (j : ℕ) (column : List ℕ) → j ≡ 32 → Filling 2 tests j 0 column → column ≡ planes_of 2 tests
filling-end tests j column all f = filling-done 2 tests column (rw all at f)
