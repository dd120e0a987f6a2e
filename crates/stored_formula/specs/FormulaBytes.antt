-- The formulas of a file as they stand in the work space (FORMAT 3.3 to 3.8), and Formula (FORMAT 7.6).
use Rattle.std.specs.Prelude.{ℕ, ◌*◌, ◌/◌, ◌%◌, ◌^◌, Bool, ◌&&◌, List, ltb, get_or}
use Rattle.bits.specs.Bit.{bit}
use Rattle.bits.specs.Tab.{tab}
use Rattle.algebra.specs.Expression.{Expression}
use Rattle.algebra.specs.Cell.{plain, out, ok}
use Rattle.node_expression.specs.NodeExpression.{expression_at}
use Rattle.column.specs.Column.{column_of}
use Rattle.admission.specs.Admission.{formula_size}

-- ---- one expression, one column, one subset

-- FORMAT 3.6, 3.8: s is below 2^m, and an attribute of column c that exactly the relations in s
-- have breaks no rule in e
unfoldable pub allowed_bit : ℕ → Expression → ℕ → ℕ → Bool
allowed_bit m e c s = ltb s (2 ^ m) && ok plain e c (bit s)

-- FORMAT 3.7, 3.8: s is allowed, and the result then has the attribute
unfoldable pub output_bit : ℕ → Expression → ℕ → ℕ → Bool
output_bit m e c s = allowed_bit m e c s && out plain e c (bit s)

-- ---- the bytes

-- FORMAT 3.5: column c of the formula of e
unfoldable pub cell_column : ℕ → Expression → ℕ → List ℕ
cell_column m e c = column_of (allowed_bit m e c) (output_bit m e c)

-- FORMAT 3.3, 3.4: byte p of the work space
unfoldable pub stored_byte : List ℕ → ℕ → ℕ → ℕ
stored_byte file m p = get_or (cell_column m (expression_at file (p / formula_size)) (p % formula_size / 64)) (p % 64) 0

-- FORMAT 7.2: the formulas of all n nodes, 1,024 bytes each
unfoldable pub formulas_of : List ℕ → ℕ → ℕ → List ℕ
formulas_of file m n = tab (n * formula_size) (stored_byte file m)
