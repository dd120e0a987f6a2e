-- Values, and the state of the relations that hold an attribute.
use Rattle.std.specs.Prelude.{ℕ, zero, suc, ◌+◌, ◌≤◌, ◌<◌, ◌^◌, ◌≡◌, refl, true, ◌↔◌, ◌⊎◌, T, ltb}
use Rattle.std.proofs.Common.{sym, ap, ◌∙◌, inl, inr, eq-or-lt_of_le, le_of_suc-le-suc, arith, ltb→lt, lt→ltb}
use Rattle.std.proofs.Math.Logic.{∥∥₁_map₂}
use Rattle.types.specs.Types.{column}
use Rattle.bits.specs.Truth.{is_true, is_false, by-true, by-false, decided, both, left, right}
use Rattle.bits.specs.Search.{Below, found, missing, search-below}
use Rattle.algebra.specs.Cell.{Kinds}
use Rattle.states.specs.Coded.{Coded, value_at, value-state, state-below, states-once, value_none, lacks, only_none}
use Rattle.states.specs.Formula.{TypeOver, Finite, AssignmentOver, IsAssignment, Formula, holders, type_variable, is_variable, Fits}

-- ---- values

module _ {K : Kinds} (C : Coded K) where
  -- what is held is not lacked
  pub held_none : (v : K.Value) → T (K.has v) → v ≡ K.none → ⊥
  held_none v h e = by-false (ap K.has e ∙ lacks C) h

  -- two values that are held as the same are one
  pub same-value : (v w : K.Value) → ((u : K.Value) → T (K.has u) → (v ≡ u) ↔ (w ≡ u)) → v ≡ w
  same-value v w same = go (decided (K.has v)) (decided (K.has w))
    where
      go : T (K.has v) ⊎ (T (K.has v) → ⊥) → T (K.has w) ⊎ (T (K.has w) → ⊥) → v ≡ w
      go (inl h) d = sym ((same v h).0 refl)
      go (inr n) (inl h) = (same w h).1 refl
      go (inr n) (inr k) = only_none C v (is_false (K.has v) n) ∙ sym (only_none C w (is_false (K.has w) k))

  -- ---- holders

  pub holders-value : (m : ℕ) (A : AssignmentOver K) (a r : ℕ) → r < m → value_at C (holders C m A a) r ≡ A r a
  holders-value m A a r h = value-state C m (λ r. A r a) r h

  pub holders-below : (m : ℕ) (A : AssignmentOver K) (a : ℕ) → holders C m A a < C.base ^ m
  holders-below m A a = state-below C m (λ r. A r a)

  pub holders-is : (m : ℕ) (A : AssignmentOver K) (a s : ℕ) → s < C.base ^ m → ((r : ℕ) → r < m → A r a ≡ value_at C s r) → holders C m A a ≡ s
  holders-is m A a s h e = states-once C m (holders C m A a) s (holders-below m A a) h (λ r below. holders-value m A a r below ∙ e r below)

  pub holders-none : (m : ℕ) (A : AssignmentOver K) (a : ℕ) → ((r : ℕ) → r < m → A r a ≡ K.none) → holders C m A a ≡ 0
  holders-none m A a e = holders-is m A a 0 (omega (arith, holders-below m A a)) (λ r below. e r below ∙ sym (value_none C r))

  -- a state above 0 has a relation that holds the attribute
  pub member : (m s : ℕ) → 0 < s → s < C.base ^ m → (r : ℕ) × (r < m) × T (K.has (value_at C s r))
  member m s some below = go (search-below m (λ r. K.has (value_at C s r)))
    where
      go : Below m (λ r. K.has (value_at C s r)) → (r : ℕ) × (r < m) × T (K.has (value_at C s r))
      go (found r h t) = (r, h, t)
      go (missing f) = absurd (omega (arith, states-once C m s 0 below (omega arith) (λ r h. only_none C (value_at C s r) (is_false (K.has (value_at C s r)) (f r h)) ∙ sym (value_none C r))))

-- ---- bounds

pub finite-bound : (K : Kinds) {t : TypeOver K} → Finite K t → ∥ ((bound : ℕ) × ((a : ℕ) → bound ≤ a → t a ≡ K.none)) ∥₁
unfolding Finite
finite-bound K f = f

pub bound-finite : (K : Kinds) {t : TypeOver K} → ∥ ((bound : ℕ) × ((a : ℕ) → bound ≤ a → t a ≡ K.none)) ∥₁ → Finite K t
unfolding Finite
bound-finite K b = b

-- from some attribute on no relation has any
pub bounded : (K : Kinds) (m : ℕ) (A : AssignmentOver K) → IsAssignment K m A → ∥ ((bound : ℕ) × ((a : ℕ) → bound ≤ a → (r : ℕ) → r < m → A r a ≡ K.none)) ∥₁
bounded K zero A types = ∣ (0, λ a h r below. absurd (omega arith)) ∣₁
bounded K (suc m) A types =
    ∥∥₁_map₂ (bounded K m A (λ r below. types r (omega arith))) (finite-bound K (types m (omega arith)).finite)
    λ x y. (x.0 + y.0, λ a h r below. pick a r (x.1 a (omega arith) r) (y.1 a (omega arith)) (eq-or-lt_of_le (le_of_suc-le-suc below)))
  where
    pick : (a r : ℕ) → (r < m → A r a ≡ K.none) → A m a ≡ K.none → (r ≡ m) ⊎ (r < m) → A r a ≡ K.none
    pick a r f e (inl same) = ap (λ (q : ℕ). A q a) same ∙ e
    pick a r f e (inr h) = f h

-- ---- variables, and fitting

-- what a type variable is: above 0, a state of the relations, allowed in column 0
pub record Variable {K : Kinds} (C : Coded K) (F : Formula K) (s : ℕ) : Type 0 where
  pub some : 0 < s
  pub below : s < C.base ^ F.relations
  pub allowed : F.allowed 0 s ≡ true

module _ {K : Kinds} (C : Coded K) (F : Formula K) where
  pub variable : (s : ℕ) → T (is_variable C F s) ↔ Variable C F s
  variable s = (out, into)
    where
      out : T (is_variable C F s) → Variable C F s
      out h =
          let k = right (ltb s (C.base ^ F.relations)) (type_variable (F.allowed 0) s) h in
          record {
            some = ltb→lt 0 s (left (ltb 0 s) (F.allowed 0 s) k);
            below = ltb→lt s (C.base ^ F.relations) (left (ltb s (C.base ^ F.relations)) (type_variable (F.allowed 0) s) h);
            allowed = is_true (F.allowed 0 s) (right (ltb 0 s) (F.allowed 0 s) k);
          }

      into : Variable C F s → T (is_variable C F s)
      into v =
          both (ltb s (C.base ^ F.relations)) (type_variable (F.allowed 0) s) (lt→ltb s (C.base ^ F.relations) v.below)
          (both (ltb 0 s) (F.allowed 0 s) (lt→ltb 0 s v.some) (by-true v.allowed))

  pub fits-at : (A : AssignmentOver K) (t : TypeOver K) (a c s : ℕ) → column a ≡ c → holders C F.relations A a ≡ s → Fits C F A t a ↔ (F.allowed c s ≡ true) × (F.output c s ≡ t a)
  fits-at A t a c s ec es = (λ fits. (rw (ec, es) at fits.allowed, rw (ec, es) at fits.output), λ f. record { allowed = rw (ec, es) f.0; output = rw (ec, es) f.1 })
