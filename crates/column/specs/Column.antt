-- A column of 64 bytes: the allowed plane and then the output plane (FORMAT 3.5).
use Rattle.std.specs.Prelude.{ℕ, ◌+◌, ◌-◌, ◌/◌, ◌%◌, Bool, cond, ◌&&◌, List, ltb, get_or}
use Rattle.bits.specs.Bit.{bit}
use Rattle.bits.specs.Tab.{tab}
use Rattle.planes.specs.Planes.{map_byte}
use Rattle.column.specs.declared.steps.Unary.{Unary}
use Rattle.column.specs.declared.steps.Combination.{Combination}
use Rattle.column.specs.Steps.{unary_allowed, unary_output, combined_allowed, combined_output}

-- FORMAT 3.5: the column of two tests on subsets
unfoldable pub column_of : (ℕ → Bool) → (ℕ → Bool) → List ℕ
column_of allowed output = tab 64 (λ q. cond (ltb q 32) (map_byte allowed q) (map_byte output (q - 32)))

-- FORMAT 3.5: s is allowed in a column
unfoldable pub allowed_in : List ℕ → ℕ → Bool
allowed_in column s = bit (get_or column (s / 8) 0) (s % 8)

-- FORMAT 3.5: the output bit of s stands in a column
unfoldable pub output_in : List ℕ → ℕ → Bool
output_in column s = bit (get_or column (32 + s / 8) 0) (s % 8)

-- ---- the columns that operators make

-- FORMAT 3.11: a relation's, where there are `count` subsets: all are allowed, and those that have the
-- relation have the output bit
unfoldable pub relation_column : ℕ → ℕ → List ℕ
relation_column count r = column_of (λ s. ltb s count) (λ s. ltb s count && bit s r)

-- FORMAT 3.11: an operator's of one operand, by its step at each subset
unfoldable pub unary_column : Unary → List ℕ → List ℕ
unary_column u column =
    column_of (λ s. unary_allowed u (allowed_in column s) (output_in column s))
    (λ s. unary_output u (allowed_in column s) (output_in column s))

-- FORMAT 3.11: an operator's of two operands, by its step at each subset
unfoldable pub combined_column : Combination → List ℕ → List ℕ → List ℕ
combined_column c left right =
    column_of (λ s. combined_allowed c (allowed_in left s) (output_in left s) (allowed_in right s) (output_in right s))
    (λ s. combined_output c (allowed_in left s) (output_in left s) (allowed_in right s) (output_in right s))
