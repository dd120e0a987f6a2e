-- The typing rules (FORMAT 2.4, 2.6 to 2.14; document 000, section 2.2), one constructor for
-- each rule and nothing else.
use Rattle.std.specs.Prelude.{ℕ, ◌≡◌, true, false}
use Rattle.types.specs.Types.{Attrs, Assignment, ◌∪◌, ◌⊆◌, Disjoint, without, with}
use Rattle.algebra.specs.Expression.{Expression, relation, binary, with_set, renaming, projecting_out, union, difference, join, product, selection, projection}

-- FORMAT 2.4: `Typed A e t` says that under the assignment A the expression e has type t
pub data Typed (A : Assignment) : Expression → Attrs → Type 0 where
  -- FORMAT 2.6: a relation has the type that the assignment gives it
  relations : (r : ℕ) → Typed A (relation r) (A r)
  -- FORMAT 2.7: a union: operands of one type
  unions : {e f : Expression} {t : Attrs} → Typed A e t → Typed A f t → Typed A (binary union e f) t
  -- FORMAT 2.8: a difference: operands of one type
  differences : {e f : Expression} {t : Attrs} → Typed A e t → Typed A f t → Typed A (binary difference e f) t
  -- FORMAT 2.9: a natural join: all attributes of either operand
  joins : {e f : Expression} {t u : Attrs} → Typed A e t → Typed A f u → Typed A (binary join e f) (t ∪ u)
  -- FORMAT 2.10: a product: the same, of operands that share none
  products : {e f : Expression} {t u : Attrs} → Typed A e t → Typed A f u → Disjoint t u → Typed A (binary product e f) (t ∪ u)
  -- FORMAT 2.11: a selection: its set is within the type, which stays
  selections : {e : Expression} {s t : Attrs} → Typed A e t → s ⊆ t → Typed A (with_set selection s e) t
  -- FORMAT 2.12: a projection: its set is within the type, and is the result
  projections : {e : Expression} {s t : Attrs} → Typed A e t → s ⊆ t → Typed A (with_set projection s e) s
  -- FORMAT 2.13: a renaming: old is there and new is not; old goes, new comes
  renamings : {e : Expression} {old new : ℕ} {t : Attrs} → Typed A e t → t old ≡ true → t new ≡ false → Typed A (renaming old new e) (with (without t old) new)
  -- FORMAT 2.14: projecting out: old is there, and goes
  projections_out : {e : Expression} {old : ℕ} {t : Attrs} → Typed A e t → t old ≡ true → Typed A (projecting_out old e) (without t old)
