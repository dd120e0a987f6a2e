-- The typing rules, attribute by attribute: an expression has a type exactly when no attribute breaks a rule in its
-- cell, and the cell says which are in the type.
use Rattle.std.specs.Prelude.{ℕ, ◌≡◌}
use Rattle.std.proofs.Common.{sym, ◌∙◌}
use Rattle.std.proofs.Math.Path.{fun_ext}
use Rattle.types.specs.Types.{Attrs, Assignment}
use Rattle.algebra.specs.Expression.{Expression, Legal}
use Rattle.algebra.specs.Rules.{Typed}
use Rattle.algebra.specs.TypedCells.{retyped}
use Rattle.algebra.proofs.TypedCells.{typed_at, at_typed}
use Rattle.algebra.specs.ByAttribute.{CellOf, cell-column}

pub typed-cells : (m : ℕ) (e : Expression) → Legal m e → (A : Assignment) (t : Attrs) → Typed A e t → (a : ℕ) → CellOf A e t a
typed-cells m e legal A t h a =
    let cells = typed_at h in
    let same = cell-column m e legal A a in
    record { allowed = same.0 ∙ cells.allowed a; output = same.1 ∙ cells.output a }

pub cells-typed : (m : ℕ) (e : Expression) → Legal m e → (A : Assignment) (t : Attrs) → ((a : ℕ) → CellOf A e t a) → Typed A e t
cells-typed m e legal A t h =
    retyped (at_typed A e (λ a. sym (cell-column m e legal A a).0 ∙ (h a).allowed)) (λ a. sym (h a).output ∙ (cell-column m e legal A a).1)

-- the type is unique
pub typed-once : (m : ℕ) (e : Expression) → Legal m e → (A : Assignment) (t u : Attrs) → Typed A e t → Typed A e u → t ≡ u
typed-once m e legal A t u h k = fun_ext (λ a. sym ((typed_at h).output a) ∙ (typed_at k).output a)
