-- Whether the relations can all be filled: a search over sets of relations, special attribute by special attribute.
use Prim.Native.Nat.{ℕ, zero, suc, ◌-◌, ◌≤◌, ◌<◌, ◌^◌}
use Rattle.std.proofs.Math.Path.{◌≡◌, refl, sym, ap₂}
use Rattle.std.proofs.Common.{ap, ◌∙◌, arith}
use Rattle.std.specs.Prelude.{Bool, cond, ◌↔◌}
use Rattle.std.proofs.Math.Bool.{true, false, ◌&&◌, ◌||◌, or_comm, or_assoc}
use borrow.Author.Tests.{eq-eqb, eqb-true, eqb-false, ne_eqb}
use Rattle.std.proofs.Math.Arith.{le_of_le-suc-ne}
use Rattle.std.proofs.Math.Dec.{T, eqb}
use Rattle.std.specs.Int.Bits.{bit_or, or_lt}
use Rattle.std.proofs.Math.Pow.{ones_lt}
use Rattle.bits.specs.Bit.{bit, bit-or, bit-ones}
use Rattle.bits.specs.Pack.{bit-pack, pack-below, bits-once}
use Rattle.attribute_set.specs.AttrSet.{special}
use Rattle.attribute_set.specs.Laws.{special-in, special-zero}
use Rattle.bits.specs.Truth.{by-true}
use Rattle.types.specs.Attributes.{special-bounds}
use Rattle.algebra.specs.Cell.{Kinds}
use Rattle.bits.specs.AnyBelow.{any_below, in-any, any-in}
use Rattle.states.specs.Coded.{Coded, value_at}
use Rattle.states.specs.Formula.{Formula, holders, Grounded}
use Rattle.states.specs.Choice.{Choice, chosen, chosen_type, covers, by_state, by_list, split}
use Rattle.states.proofs.Choice.{choice-fits, choice-types, choice-filled, own-choice, own-covers}
use Rattle.states.specs.Reach.{FilledFitting, fillable, listed, mask_of, reach}

module _ {K : Kinds} (C : Coded K) (F : Formula K) where
  -- what attributes 1 to n fill, with the variables
  union : ℕ → (ℕ → ℕ) → ℕ
  union zero state = listed C F
  union (suc n) state = bit_or (union n state) (mask_of C F.relations (state (suc n)))

  -- allowed states of attributes 1 to n
  record Chosen (n : ℕ) (state : ℕ → ℕ) : Type 0 where
    below : (i : ℕ) → 1 ≤ i → i ≤ n → state i < C.base ^ F.relations
    allowed : (i : ℕ) → 1 ≤ i → i ≤ n → F.allowed i (state i) ≡ true

  union-below : (n : ℕ) (state : ℕ → ℕ) → union n state < 2 ^ F.relations
  unfolding union listed mask_of
  union-below zero state = pack-below F.relations _
  union-below (suc n) state = or_lt F.relations _ _ (union-below n state) (pack-below F.relations _)

  union-same : (n : ℕ) (f g : ℕ → ℕ) → ((i : ℕ) → i ≤ n → f i ≡ g i) → union n f ≡ union n g
  unfolding union
  union-same zero f g e = refl
  union-same (suc n) f g e = ap₂ (λ (u s : ℕ). bit_or u (mask_of C F.relations s)) (union-same n f g (λ i l. e i (omega arith))) (e (suc n) (omega arith))

  -- ---- reached by a choice

  chosen-reach : (n : ℕ) (state : ℕ → ℕ) → Chosen n state → reach C F n (union n state) ≡ true
  unfolding reach union
  chosen-reach zero state h = eq-eqb (listed C F) (listed C F) refl
  chosen-reach (suc n) state h =
      in-any (C.base ^ F.relations) _ (state (suc n)) (h.below (suc n) (omega arith) (omega arith))
      (ap₂ ◌&&◌ (h.allowed (suc n) (omega arith) (omega arith))
      (in-any (2 ^ F.relations) _ (union n state) (union-below n state)
      (ap₂ ◌&&◌
      (chosen-reach n state (record { below = λ i l k. h.below i l (omega arith); allowed = λ i l k. h.allowed i l (omega arith) }))
      (eq-eqb (bit_or (union n state) (mask_of C F.relations (state (suc n))))
      (bit_or (union n state) (mask_of C F.relations (state (suc n)))) refl))))

  -- the choice with one state more
  abbrev extended : ℕ → ℕ → (ℕ → ℕ) → ℕ → ℕ
  extended n s state i = cond (eqb i (suc n)) s (state i)

  extended-here : (n s : ℕ) (state : ℕ → ℕ) → extended n s state (suc n) ≡ s
  extended-here n s state = ap (λ (b : Bool). cond b s (state (suc n))) (eq-eqb (suc n) (suc n) refl)

  extended-before : (n s : ℕ) (state : ℕ → ℕ) (i : ℕ) → i ≤ n → extended n s state i ≡ state i
  extended-before n s state i l = ap (λ (b : Bool). cond b s (state i)) (ne_eqb i (suc n) (λ e. omega arith))

  extended-chosen : (n s : ℕ) (state : ℕ → ℕ) → Chosen n state → s < C.base ^ F.relations → F.allowed (suc n) s ≡ true → Chosen (suc n) (extended n s state)
  extended-chosen n s state h small free = record { below = λ i l k. at-below i l k (eqb i (suc n)) refl; allowed = λ i l k. at-allowed i l k (eqb i (suc n)) refl }
    where
      at-below : (i : ℕ) → 1 ≤ i → i ≤ suc n → (b : Bool) → eqb i (suc n) ≡ b → cond b s (state i) < C.base ^ F.relations
      at-below i l k true e = small
      at-below i l k false e = h.below i l (le_of_le-suc-ne k (eqb-false i (suc n) e))

      at-allowed : (i : ℕ) → 1 ≤ i → i ≤ suc n → (b : Bool) → eqb i (suc n) ≡ b → F.allowed i (cond b s (state i)) ≡ true
      at-allowed i l k true e = rw (eqb-true i (suc n) e) free
      at-allowed i l k false e = h.allowed i l (le_of_le-suc-ne k (eqb-false i (suc n) e))

  reach-chosen : (n u : ℕ) → reach C F n u ≡ true → (state : ℕ → ℕ) × (Chosen n state × (union n state ≡ u))
  unfolding reach union
  reach-chosen zero u h = ((λ i. 0), (record { below = λ i l k. absurd (omega arith); allowed = λ i l k. absurd (omega arith) }, sym (eqb-true u (listed C F) h)))
  reach-chosen (suc n) u h =
      let outer = any-in (C.base ^ F.relations) (λ s. F.allowed (suc n) s && any_below (2 ^ F.relations) (λ w. reach C F n w && eqb (bit_or w (mask_of C F.relations s)) u)) h in
      let s = outer.0 in
      let free = split (F.allowed (suc n) s) (any_below (2 ^ F.relations) (λ w. reach C F n w && eqb (bit_or w (mask_of C F.relations s)) u)) outer.2 in
      let inner = any-in (2 ^ F.relations) (λ w. reach C F n w && eqb (bit_or w (mask_of C F.relations s)) u) free.1 in
      let w = inner.0 in
      let both = split (reach C F n w) (eqb (bit_or w (mask_of C F.relations s)) u) inner.2 in
      let rest = reach-chosen n w both.0 in (
        extended n s rest.0,
        (
          extended-chosen n s rest.0 rest.1.0 outer.1 free.0,
          ap₂ (λ (u s : ℕ). bit_or u (mask_of C F.relations s)) (union-same n (extended n s rest.0) rest.0 (extended-before n s rest.0) ∙ rest.1.1) (extended-here n s rest.0)
              ∙ eqb-true (bit_or w (mask_of C F.relations s)) u both.1,
        ),
      )

  -- ---- what is filled, relation by relation

  union-bit : (n : ℕ) → n ≤ 15 → (state : ℕ → ℕ) (r : ℕ) → r < F.relations → bit (union n state) r ≡ any_below (suc n) (by_state C state r) || any_below (C.base ^ F.relations) (by_list C F r)
  unfolding union listed mask_of
  union-bit zero l state r below = bit-pack F.relations (λ r. any_below (C.base ^ F.relations) (by_list C F r)) r below ∙ rw special-zero
  union-bit (suc n) l state r below =
      bit-or (union n state) _ r
      ∙ ap₂ ◌||◌ (union-bit n (omega arith) state r below) (bit-pack F.relations (λ r. K.has (value_at C (state (suc n)) r)) r below)
      ∙ turned (special (suc n)) (K.has (value_at C (state (suc n)) r)) (any_below (suc n) (by_state C state r)) (any_below (C.base ^ F.relations) (by_list C F r)) (special-in (suc n) (omega arith) l)
    where
      turned : (p h x y : Bool) → p ≡ true → (x || y) || h ≡ (p && h || x) || y
      turned true h x y e = or_comm (x || y) h ∙ sym (or_assoc h x y)
      turned false h x y e = absurd (let z : ◌≡◌ {A = ℕ} 0 1 = cc in omega arith)

  union-full : (state : ℕ → ℕ) → ((r : ℕ) → r < F.relations → covers C F state r ≡ true) ↔ (union 15 state ≡ 2 ^ F.relations - 1)
  union-full state = (
    (λ h. bits-once F.relations (union 15 state) (2 ^ F.relations - 1) (union-below 15 state) (ones_lt F.relations)
        (λ r below. union-bit 15 (omega arith) state r below ∙ h r below ∙ sym (bit-ones F.relations r below))),
    (λ e r below. sym (union-bit 15 (omega arith) state r below) ∙ ap (λ (x : ℕ). bit x r) e ∙ bit-ones F.relations r below),
  )

  -- ---- the relations can all be filled exactly when a filled assignment fits

  pub fillable-fits : Grounded F → fillable C F ≡ true → FilledFitting C F
  unfolding fillable
  fillable-fits is_grounded h =
      let found = reach-chosen 15 (2 ^ F.relations - 1) h in
      let state = found.0 in
      let choice : Choice C F state = record {
        below = λ i k. let b = special-bounds i k in found.1.0.below i (omega arith) (omega arith);
        allowed = λ i k. let b = special-bounds i k in found.1.0.allowed i (omega arith) (omega arith);
      }
      in
      record {
        assignment = chosen C F state;
        types = choice-types C F is_grounded state choice;
        filled = choice-filled C F is_grounded state choice ((union-full state).1 found.1.1);
        type = chosen_type C F state;
        fits = choice-fits C F is_grounded state choice;
      }

  pub fits-fillable : Grounded F → FilledFitting C F → fillable C F ≡ true
  unfolding fillable
  fits-fillable is_grounded f =
      let state = holders C F.relations f.assignment in
      let own = own-choice C F is_grounded f.assignment f.types f.type f.fits in
      rw (← (union-full state).0 (own-covers C F is_grounded f.assignment f.types f.type f.fits f.filled))
      (chosen-reach 15 state (record { below = λ i l k. own.below i (is_special_lem i l k); allowed = λ i l k. own.allowed i (is_special_lem i l k) }))
    where
      is_special_lem : (i : ℕ) → 1 ≤ i → i ≤ 15 → T (special i)
      is_special_lem i l k = by-true (special-in i l k)
