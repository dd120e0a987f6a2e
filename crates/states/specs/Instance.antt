-- The instantiation that an assignment which fits is the image of.
use Rattle.std.specs.Prelude.{ℕ, ◌<◌, ◌≡◌, ◌&&◌, eqb}
use Rattle.std.proofs.Common.{arith, eqb→eq}
use Rattle.std.proofs.Math.Dec.{T, eqb_refl}
use Rattle.types.specs.Types.{Attrs, ordinary, column}
use Rattle.bits.specs.Truth.{both, right}
use Rattle.types.specs.Attributes.{special-ordinary, column-other}
use Rattle.algebra.specs.Cell.{Kinds}
use Rattle.states.specs.Coded.{Coded}
use Rattle.states.specs.Formula.{AssignmentOver, holders}

pub not-zero : (s : ℕ) → (s ≡ 0 → ⊥) → 0 < s
not-zero s h = omega arith

pub column-ordinary : (a : ℕ) → T (ordinary a) → column a ≡ 0
column-ordinary a h = column-other a (λ k. special-ordinary a k h)

module _ {K : Kinds} (C : Coded K) (m : ℕ) (A : AssignmentOver K) where
  -- the ordinary attributes that the relations have as in s
  abbrev pub held_by : ℕ → Attrs
  held_by s = λ a. ordinary a && eqb (holders C m A a) s

  pub held : (s a : ℕ) → T (held_by s a) → holders C m A a ≡ s
  held s a l = eqb→eq (holders C m A a) s (right (ordinary a) (eqb (holders C m A a) s) l)

  pub held-here : (a : ℕ) → T (ordinary a) → T (held_by (holders C m A a) a)
  held-here a h = both (ordinary a) _ h (eqb_refl (holders C m A a))
