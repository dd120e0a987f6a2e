-- Filled assignments and images, in which every relation has an attribute (request 4).
use Rattle.std.specs.Prelude.{ℕ, ◌<◌, refl, ◌↔◌, T}
use Rattle.std.proofs.Math.Logic.{∥∥₁_elim, ∥∥₁_prop}
use Rattle.algebra.specs.Cell.{Kinds}
use Rattle.states.specs.Coded.{Coded}
use Rattle.states.specs.Formula.{AssignmentOver, Filled, Formula}
use Rattle.states.specs.Instantiation.{Instantiation, InImage, HasImage}

-- every relation's image has an attribute
abbrev pub FilledImage : {K : Kinds} {C : Coded K} {F : Formula K} → Instantiation C F → Type 0
FilledImage {K} {C} {F} I = (r : ℕ) → r < F.relations → ∥ ((a : ℕ) × (v : K.Value) × T (K.has v) × InImage I r a v) ∥₁

-- an image is filled exactly where its assignment is
pub filled-image : {K : Kinds} {C : Coded K} {F : Formula K} (I : Instantiation C F) (A : AssignmentOver K) → HasImage I A → Filled K F.relations A ↔ FilledImage I
filled-image {K} I A image = (
  (λ filled r below. ∥∥₁_elim (filled r below) ∥∥₁_prop (λ x. ∣ (x.0, A r x.0, x.1, (image r below x.0 (A r x.0) x.1).0 refl) ∣₁)),
  (λ filled r below. ∥∥₁_elim (filled r below) ∥∥₁_prop (λ x. ∣ (x.0, rw ((image r below x.0 x.1 x.2).1 x.3) x.2) ∣₁)),
)
