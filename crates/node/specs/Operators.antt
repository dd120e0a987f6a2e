-- Operators by their codes (FORMAT 1.4).
use Rattle.std.specs.Prelude.{ℕ, Bool, cond, eqb}
use Rattle.bits.specs.Range.{in_range}
use Rattle.node.specs.declared.nodes.BinaryOp.{BinaryOp}
use Rattle.node.specs.declared.nodes.BinaryOp.TheVariants.{Union, Difference, Join, Product}
use Rattle.node.specs.declared.nodes.SetOp.{SetOp}
use Rattle.node.specs.declared.nodes.SetOp.TheVariants.{Selection, Projection}

-- FORMAT 1.4: map 14 has the codes 1 to 4, map 26 has 5 and 6
abbrev pub known_code : ℕ → ℕ → Bool
known_code map code = cond (eqb map 14) (in_range 1 4 code) (in_range 5 6 code)

-- FORMAT 1.4: the operator of a code of map 14
unfoldable pub binary_of : ℕ → BinaryOp
binary_of code = cond (eqb code 1) Union (cond (eqb code 2) Difference (cond (eqb code 3) Join Product))

-- FORMAT 1.4: the operator of a code of map 26
unfoldable pub set_op_of : ℕ → SetOp
set_op_of code = cond (eqb code 5) Selection Projection

-- FORMAT 1.4: the code of an operator of map 14
abbrev pub binary_code : BinaryOp → ℕ
binary_code Union = 1
binary_code Difference = 2
binary_code Join = 3
binary_code Product = 4

-- FORMAT 1.4: the code of an operator of map 26
abbrev pub set_code : SetOp → ℕ
set_code Selection = 5
set_code Projection = 6
