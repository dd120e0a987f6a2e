-- Instantiations of a formula, their image and output (FORMAT 6.4, 6.5, 6.7, 6.9).
use Rattle.std.specs.Prelude.{ℕ, ◌<◌, ◌^◌, ◌≡◌, ◌↔◌, T, ltb}
use Rattle.std.proofs.Math.Logic.{∥∥₁_elim, ∥∥₁_prop}
use Rattle.bits.specs.Bit.{bit}
use Rattle.attribute_set.specs.AttrSet.{special}
use Rattle.types.specs.Types.{Attrs, Assignment, Filled, ordinary, Finite}
use Rattle.principal.specs.Formula.{Formula, is_variable}

-- FORMAT 6.7: a subset for each special attribute, allowed in its column, and a finite list of ordinary attributes for
-- each type variable, no attribute in two lists
pub record Instantiation (F : Formula) : Type 0 where
  -- the subset of each special attribute
  pub subset : (i : ℕ) → T (special i) → ℕ
  pub below : (i : ℕ) (h : T (special i)) → T (ltb (subset i h) (2 ^ F.relations))
  pub allowed : (i : ℕ) (h : T (special i)) → T (F.allowed i (subset i h))
  -- the list of each type variable
  pub list : (s : ℕ) → T (is_variable F s) → Attrs
  pub ordinaries : (s : ℕ) (h : T (is_variable F s)) (a : ℕ) → T (list s h a) → T (ordinary a)
  pub finite : (s : ℕ) (h : T (is_variable F s)) → Finite (list s h)
  pub disjoint : (s s' : ℕ) (h : T (is_variable F s)) (h' : T (is_variable F s')) (a : ℕ) → T (list s h a) → T (list s' h' a) → s ≡ s'

-- FORMAT 6.4: attribute a is in relation r's image: special with r in its subset, or in the list
-- of a variable that has r
pub data InImage {F : Formula} (I : Instantiation F) (r a : ℕ) : Type 0 where
  specials : (h : T (special a)) → T (bit (I.subset a h) r) → InImage I r a
  listed : (s : ℕ) (h : T (is_variable F s)) → T (bit s r) → T (I.list s h a) → InImage I r a

-- FORMAT 6.5: attribute a is in the output: its output bit stands at its subset, or it is in the list of a
-- variable whose output bit stands
pub data InOutput {F : Formula} (I : Instantiation F) (a : ℕ) : Type 0 where
  specials : (h : T (special a)) → T (F.output a (I.subset a h)) → InOutput I a
  listed : (s : ℕ) (h : T (is_variable F s)) → T (F.output 0 s) → T (I.list s h a) → InOutput I a

-- A is the image: each relation has exactly the attributes of its image
abbrev pub HasImage : {F : Formula} → Instantiation F → Assignment → Type 0
HasImage {F} I A = (r : ℕ) → r < F.relations → (a : ℕ) → T (A r a) ↔ InImage I r a

-- t is the output: it has exactly the attributes of the output
abbrev pub HasOutput : {F : Formula} → Instantiation F → Attrs → Type 0
HasOutput I t = (a : ℕ) → T (t a) ↔ InOutput I a

-- FORMAT 6.9: the image is filled: every relation's image has an attribute
abbrev pub FilledImage : {F : Formula} → Instantiation F → Type 0
FilledImage {F} I = (r : ℕ) → r < F.relations → ∥ ((a : ℕ) × InImage I r a) ∥₁

-- exactly where its assignment is
pub filled-image : {F : Formula} (I : Instantiation F) (A : Assignment) → HasImage I A → Filled F.relations A ↔ FilledImage I
filled-image I A image = (
  (λ filled r below. ∥∥₁_elim (filled r below) ∥∥₁_prop (λ x. ∣ (x.0, (image r below x.0).0 x.1) ∣₁)),
  (λ filled r below. ∥∥₁_elim (filled r below) ∥∥₁_prop (λ x. ∣ (x.0, (image r below x.0).1 x.1) ∣₁)),
)
