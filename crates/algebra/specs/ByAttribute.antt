-- The typing rules, attribute by attribute: an expression has a type exactly when no attribute breaks a rule in its
-- cell, and the cell says which are in the type.
use Rattle.std.specs.Prelude.{ℕ, ◌≡◌, refl, true}
use Rattle.types.specs.Types.{Attrs, Assignment, column}
use Rattle.algebra.specs.Expression.{Expression, Legal}
use Rattle.algebra.specs.Cell.{plain, out, ok}
use Rattle.algebra.specs.Columns.{alike-column}
use Rattle.algebra.specs.CellLaws.{cell-alike}
use Rattle.algebra.specs.TypedCells.{ok_at, out_at}

-- attribute a breaks no rule in e under A, and t has it where the result does
pub record CellOf (A : Assignment) (e : Expression) (t : Attrs) (a : ℕ) : Type 0 where
  pub allowed : ok plain e (column a) (λ r. A r a) ≡ true
  pub output : out plain e (column a) (λ r. A r a) ≡ t a

-- a legal expression's cell at the attribute's column is its cell at the attribute
pub cell-column : (m : ℕ) (e : Expression) → Legal m e → (A : Assignment) (a : ℕ) → (ok plain e (column a) (λ r. A r a) ≡ ok_at A e a) × (out plain e (column a) (λ r. A r a) ≡ out_at A e a)
cell-column m e legal A a = cell-alike plain m e legal (column a) a (alike-column a) (λ r. A r a) (λ r. A r a) (λ r l. refl)
