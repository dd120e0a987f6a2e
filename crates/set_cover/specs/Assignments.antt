-- What `cost` and `best` say of every assignment whose attributes the columns allow and in which every relation has an
-- attribute (FORMAT 7.26).
use Prim.Native.Nat.{ℕ, zero, suc, ◌+◌, ◌-◌, ◌≤◌, ◌<◌, ◌^◌}
use Rattle.std.specs.Prelude.{◌≡◌, Bool, false, ◌&&◌, ◌||◌, List, ◌∷◌, ◌⊎◌, []}
use Rattle.std.proofs.Math.Path.{refl, sym, ap, ap₂}
use Rattle.std.proofs.Common.{◌∙◌, ⊎_elim, add-zero, eq-or-lt_of_le, lt_of_lt_of_le, zero-add, suc-add, lt-ltb, pow_mono}
use Rattle.std.proofs.Math.Bool.{true, or-true}
use Rattle.std.proofs.Math.Logic.{inl, inr}
use native.Mathlib.Omega.{arith}
use Rattle.bits.specs.Bit.{bit, bit-none}
use Rattle.bits.specs.Booleans.{clash}
use Rattle.bits.specs.Bitwise.{packed, no_bits}
use Rattle.bits.specs.Pack.{pack-same, bit-pack}
use Rattle.bits.specs.Total.{total, total-none, total-front, total-same}
use Rattle.types.specs.Types.{Assignment, IsAssignment, holders}
use Rattle.types.specs.Laws.{holders-packed, holders-below}
use Rattle.types.specs.Memberships.{members, members-none}
use Rattle.set_cover.specs.Choice.{Chosen, weight}
use Rattle.set_cover.specs.Covered.{any_has, EachBelow}

-- ---- an assignment as a list of subsets

-- a subset, unless it is empty, and then a list
abbrev pub unless_empty : ℕ → List ℕ → List ℕ
unless_empty zero xs = xs
unless_empty (suc s) xs = suc s ∷ xs

-- the subsets of n attributes from a on, without those that no relation has
unfoldable pub ordinary_subsets : ℕ → Assignment → ℕ → ℕ → List ℕ
ordinary_subsets m A zero a = []
ordinary_subsets m A (suc n) a = unless_empty (holders m A a) (ordinary_subsets m A n (a + 1))

-- the subsets of the last k special attributes, and then those of n ordinary ones from 16 on
unfoldable pub last_subsets : ℕ → Assignment → ℕ → ℕ → List ℕ
last_subsets m A n zero = ordinary_subsets m A n 16
last_subsets m A n (suc k) = holders m A (15 - k) ∷ last_subsets m A n k

-- the subsets of the special attributes 1 to 15, and then those of the ordinary attributes below the bound that a
-- relation has, in rising order of the attributes
unfoldable pub subset_list : ℕ → Assignment → ℕ → List ℕ
subset_list m A bound = last_subsets m A (bound - 16) 15

-- list by list, from its front
module _ (m : ℕ) (A : Assignment) where
  pub ordinary-none : (a : ℕ) → ordinary_subsets m A 0 a ≡ []
  unfolding ordinary_subsets
  ordinary-none a = refl

  pub ordinary-more : (n a : ℕ) → ordinary_subsets m A (suc n) a ≡ unless_empty (holders m A a) (ordinary_subsets m A n (a + 1))
  unfolding ordinary_subsets
  ordinary-more n a = refl

  pub last-ordinary : (n : ℕ) → last_subsets m A n 0 ≡ ordinary_subsets m A n 16
  unfolding last_subsets
  last-ordinary n = refl

  pub last_more : (n k : ℕ) → last_subsets m A n (suc k) ≡ holders m A (15 - k) ∷ last_subsets m A n k
  unfolding last_subsets
  last_more n k = refl

  pub list-last : (bound : ℕ) → subset_list m A bound ≡ last_subsets m A (bound - 16) 15
  unfolding subset_list
  list-last bound = refl

-- each attribute is allowed as the relations have it
pub record Allowed (m : ℕ) (allowed : ℕ → ℕ → Bool) (A : Assignment) : Type 0 where
  pub special : (i : ℕ) → 1 ≤ i → i ≤ 15 → allowed i (holders m A i) ≡ true
  pub ordinary : (a : ℕ) → 16 ≤ a → allowed 0 (holders m A a) ≡ true

module _ (m : ℕ) (few : m ≤ 8) (A : Assignment) where
  below-256 : (a : ℕ) → holders m A a < 256
  below-256 a = lt_of_lt_of_le (holders-below m A a) (pow_mono {j = 8} few)

  pub holders-bit : (a r : ℕ) → r < m → bit (holders m A a) r ≡ A r a
  holders-bit a r h = ap (λ (s : ℕ). bit s r) (holders-packed m A a) ∙ bit-pack m (λ r. A r a) r h

  -- ---- its members

  weight-unless : (s : ℕ) (xs : List ℕ) → weight (unless_empty s xs) ≡ members s + weight xs
  weight-unless zero xs = sym (ap (λ (x : ℕ). x + weight xs) members-none ∙ zero-add (weight xs))
  weight-unless (suc s) xs = refl

  ordinary-weight : (n a : ℕ) → weight (ordinary_subsets m A n a) ≡ total n (λ i. members (holders m A (a + i)))
  unfolding ordinary_subsets
  ordinary-weight zero a = sym (total-none _)
  ordinary-weight (suc n) a =
      weight-unless (holders m A a) _
      ∙ ap₂ (λ (x y : ℕ). x + y) (ap (λ (b : ℕ). members (holders m A b)) (sym (add-zero a)))
      (ordinary-weight n (a + 1) ∙ total-same n _ _ (λ i h. let next : a + 1 + i ≡ a + suc i = omega arith in ap (λ (b : ℕ). members (holders m A b)) next))
      ∙ sym (total-front n (λ i. members (holders m A (a + i))))

  pub last-weight : (n k : ℕ) → k ≤ 15 → weight (last_subsets m A n k) ≡ total (k + n) (λ i. members (holders m A (16 - k + i)))
  unfolding last_subsets
  last-weight n zero h = ordinary-weight n 16 ∙ ap (λ (x : ℕ). total x (λ i. members (holders m A (16 + i)))) (sym (zero-add n))
  last-weight n (suc k) h =
      let here : 15 - k ≡ 16 - suc k + 0 = omega arith in
      ap₂ (λ (x y : ℕ). x + y) (ap (λ (a : ℕ). members (holders m A a)) here)
      (last-weight n k (omega arith) ∙ total-same (k + n) _ _ (λ i l. let next : 16 - k + i ≡ 16 - suc k + suc i = omega arith in ap (λ (a : ℕ). members (holders m A a)) next))
      ∙ sym (ap (λ (x : ℕ). total x (λ i. members (holders m A (16 - suc k + i)))) (suc-add k n) ∙ total-front (k + n) (λ i. members (holders m A (16 - suc k + i))))

  -- ---- each is a subset of the m relations

  below-unless : (s : ℕ) (xs : List ℕ) → s < 256 → EachBelow 256 xs → EachBelow 256 (unless_empty s xs)
  below-unless zero xs l b = b
  below-unless (suc s) xs l b = (l, b)

  ordinary-below : (n a : ℕ) → EachBelow 256 (ordinary_subsets m A n a)
  unfolding ordinary_subsets
  ordinary-below zero a = tt
  ordinary-below (suc n) a = below-unless (holders m A a) _ (below-256 a) (ordinary-below n (a + 1))

  pub last-below : (n k : ℕ) → EachBelow 256 (last_subsets m A n k)
  unfolding last_subsets
  last-below n zero = ordinary-below n _
  last-below n (suc k) = (below-256 (15 - k), last-below n k)

  -- ---- a relation with one of the attributes is in one of the subsets

  has-unless : (r s : ℕ) (xs : List ℕ) → (bit s r ≡ true) ⊎ (any_has r xs ≡ true) → any_has r (unless_empty s xs) ≡ true
  has-unless r zero xs (inl e) = absurd (clash e (bit-none r))
  has-unless r zero xs (inr e) = e
  has-unless r (suc s) xs (inl e) = ap (λ (b : Bool). b || any_has r xs) e
  has-unless r (suc s) xs (inr e) = ap (λ (b : Bool). bit (suc s) r || b) e ∙ or-true (bit (suc s) r)

  ordinary-has : (n b r a : ℕ) → b ≤ a → a < b + n → bit (holders m A a) r ≡ true → any_has r (ordinary_subsets m A n b) ≡ true
  unfolding ordinary_subsets
  ordinary-has zero b r a from up_to e = absurd (omega arith)
  ordinary-has (suc n) b r a from up_to e =
      has-unless r (holders m A b) (ordinary_subsets m A n (b + 1))
      (⊎_elim (λ same. inl (ap (λ (x : ℕ). bit (holders m A x) r) same ∙ e)) (λ above. inr (ordinary-has n (b + 1) r a (omega arith) (omega arith) e)) (eq-or-lt_of_le from))

  pub last_has : (n k r a : ℕ) → k ≤ 15 → 16 - k ≤ a → a < 16 + n → bit (holders m A a) r ≡ true → any_has r (last_subsets m A n k) ≡ true
  unfolding last_subsets
  last_has n zero r a h from up_to e = ordinary-has n 16 r a from up_to e
  last_has n (suc k) r a h from up_to e = go (eq-or-lt_of_le start) (last_has n k r a (omega arith))
    where
      start : 15 - k ≤ a
      start = omega arith

      go : (15 - k ≡ a) ⊎ (15 - k < a) → (16 - k ≤ a → a < 16 + n → bit (holders m A a) r ≡ true → any_has r (last_subsets m A n k) ≡ true) → bit (holders m A (15 - k)) r || any_has r (last_subsets m A n k) ≡ true
      go (inl same) others = ap (λ (b : Bool). b || any_has r (last_subsets m A n k)) (ap (λ (x : ℕ). bit (holders m A x) r) same ∙ e)
      go (inr above) others = ap (λ (b : Bool). bit (holders m A (15 - k)) r || b) (others (omega arith) up_to e) ∙ or-true (bit (holders m A (15 - k)) r)

  -- ---- it is a choice

  module _ (allowed : ℕ → ℕ → Bool) (is : Allowed m allowed A) where
    chosen-unless : (s : ℕ) (xs : List ℕ) → s < 2 ^ m → allowed 0 s ≡ true → Chosen (2 ^ m) allowed 0 xs → Chosen (2 ^ m) allowed 0 (unless_empty s xs)
    chosen-unless zero xs l e c = c
    chosen-unless (suc s) xs l e c = (l, ap₂ ◌&&◌ (lt-ltb 0 (suc s) (omega arith)) e, c)

    ordinary-chosen : (n a : ℕ) → 16 ≤ a → Chosen (2 ^ m) allowed 0 (ordinary_subsets m A n a)
    unfolding ordinary_subsets
    ordinary-chosen zero a h = tt
    ordinary-chosen (suc n) a h = chosen-unless (holders m A a) _ (holders-below m A a) (is.ordinary a h) (ordinary-chosen n (a + 1) (omega arith))

    pub last-chosen : (n k : ℕ) → k ≤ 15 → Chosen (2 ^ m) allowed k (last_subsets m A n k)
    unfolding last_subsets
    last-chosen n zero h = ordinary-chosen n _ (omega arith)
    last-chosen n (suc k) h = (holders-below m A (15 - k), is.special (15 - k) (omega arith) (omega arith), last-chosen n k (omega arith))

-- no relation has attribute 0
pub none-zero : (m : ℕ) (A : Assignment) → IsAssignment m A → holders m A 0 ≡ 0
none-zero m A types = holders-packed m A 0 ∙ pack-same m (λ r. A r 0) (λ r. false) (λ r h. (types r h).positive) ∙ sym (packed (no_bits {w = m}))
