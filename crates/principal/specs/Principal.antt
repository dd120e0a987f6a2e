-- Demand 3 for expressions: the instantiations of an expression's formula are the assignments that type it, each once,
-- with the type that the rules give.
use Rattle.std.specs.Prelude.{ℕ, ◌<◌, ◌^◌, ◌≡◌, ◌&&◌}
use Rattle.bits.specs.Bit.{bit}
use Rattle.types.specs.Types.{Attrs, IsType, Assignment, IsAssignment, Filled}
use Rattle.algebra.specs.Expression.{Expression}
use Rattle.algebra.specs.Rules.{Typed}
use Rattle.algebra.specs.Cell.{plain, out, ok}
use Rattle.principal.specs.Formula.{Formula}

-- F is a formula of e: its bits are the cells of e, at the columns and subsets that there are
pub record FormulaOf (e : Expression) (F : Formula) : Type 0 where
  pub allowed : (c s : ℕ) → c < 16 → s < 2 ^ F.relations → F.allowed c s ≡ ok plain e c (bit s)
  pub output : (c s : ℕ) → c < 16 → s < 2 ^ F.relations → F.output c s ≡ ok plain e c (bit s) && out plain e c (bit s)

-- an assignment of types to m relations, and the type that the rules derive of e under it
pub record Typing (m : ℕ) (e : Expression) : Type 0 where
  pub assignment : Assignment
  pub types : IsAssignment m assignment
  pub type : Attrs
  pub is_type : IsType type
  pub typed : Typed assignment e type

-- one that is filled (FORMAT 2.17)
pub record FilledTyping (m : ℕ) (e : Expression) : Type 0 where
  pub typing : Typing m e
  pub filled : Filled m typing.assignment
