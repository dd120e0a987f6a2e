-- What `cost` and `best` say of every assignment whose attributes the columns allow and in which every relation has an
-- attribute (FORMAT 7.26).
use Prim.Native.Nat.{ℕ, suc, ◌+◌, ◌-◌, ◌≤◌, ◌<◌, ◌^◌}
use Rattle.std.specs.Prelude.{◌≡◌, Bool, ◌⊎◌}
use Rattle.std.proofs.Math.Path.{sym, ap}
use Rattle.std.proofs.Common.{◌∙◌, eq-zero-or-pos, pow_mono, pow_pos}
use Rattle.std.proofs.Math.Bool.{true}
use Rattle.std.proofs.Math.Logic.{inl, inr, ∥∥₁_elim}
use Rattle.std.proofs.Math.Decide.{dec_le}
use native.Mathlib.Omega.{arith}
use Rattle.std.proofs.Math.Dec.{T_prop}
use Rattle.bits.specs.Booleans.{clash}
use Rattle.bits.specs.Total.{total-front, total-same}
use Rattle.bits.specs.Truth.{is_true, by-true}
use Rattle.types.specs.Types.{Assignment, IsAssignment, Filled, holders}
use Rattle.types.specs.Memberships.{members, memberships, Within, members-none}
use Rattle.types.proofs.Memberships.{memberships-same, memberships-by}
use Rattle.set_cover.specs.Least.{infinity}
use Rattle.set_cover.specs.Cost.{cost}
use Rattle.set_cover.specs.Choice.{Chosen, weight, uncovered, NotAbove, best}
use Rattle.set_cover.proofs.Cheapest.{fewest, unfilled, best-lowest}
use Rattle.set_cover.specs.Covered.{any_has}
use Rattle.set_cover.proofs.Covered.{fills-is}
use Rattle.set_cover.specs.Assignments.{Allowed, holders-bit, last-below, last-chosen, last-weight, last_has, last_subsets, none-zero, subset_list}

-- ---- an assignment as a list of subsets

module _
    (m : ℕ) (few : m ≤ 8) (allowed : ℕ → ℕ → Bool) (A : Assignment) (types : IsAssignment m A) (filled : Filled m A)
    (bound : ℕ) (within : Within m A bound) (is : Allowed m allowed A) where
  chosen : Chosen (2 ^ m) allowed 15 (subset_list m A bound)
  unfolding subset_list
  chosen = last-chosen m few A allowed is (bound - 16) 15 (omega arith)

  all-below : 2 ^ m - 1 < 2 ^ m
  all-below = let p = pow_pos m in omega arith

  few-subsets : 2 ^ m ≤ 256
  few-subsets = pow_mono {j = 8} few

  covers : uncovered (2 ^ m - 1) (subset_list m A bound) ≡ 0
  unfolding subset_list
  covers =
      (fills-is m few (last_subsets m A (bound - 16) 15) (last-below m few A (bound - 16) 15)
      ).1 (λ r h. is_true (any_has r (last_subsets m A (bound - 16) 15))
      (∥∥₁_elim (filled r h) (T_prop (any_has r (last_subsets m A (bound - 16) 15))) (λ x. by-true (has r h x.0 (is_true (A r x.0) x.1)))))
    where
      has : (r : ℕ) → r < m → (a : ℕ) → A r a ≡ true → any_has r (last_subsets m A (bound - 16) 15) ≡ true
      has r h a e = go (eq-zero-or-pos a) (dec_le bound a)
        where
          go : (a ≡ 0) ⊎ (0 < a) → Dec (bound ≤ a) → any_has r (last_subsets m A (bound - 16) 15) ≡ true
          go (inl z) d = absurd (clash (sym (ap (A r) z) ∙ e) (types r h).positive)
          go (inr some) (yes past) = absurd (clash e (within r h a past))
          go (inr some) (no inside) = last_has m few A (bound - 16) 15 r a (omega arith) some (omega arith) (holders-bit m few A a r h ∙ e)

  list-weight : weight (subset_list m A bound) ≡ memberships m A bound
  unfolding subset_list
  list-weight =
      let none = ap members (none-zero m A types) ∙ members-none in
      let front = total-front (15 + (bound - 16)) (λ a. members (holders m A a)) in
      let special =
      last-weight m few A (bound - 16) 15 (omega arith)
      ∙ total-same (15 + (bound - 16)) _ (λ i. members (holders m A (suc i))) (λ i h. let next : 16 - 15 + i ≡ suc i = omega arith in ap (λ (a : ℕ). members (holders m A a)) next)
      in
      let by = memberships-by m A few (suc (15 + (bound - 16))) in
      let same = memberships-same m A bound (suc (15 + (bound - 16))) within (λ r h a past. within r h a (omega arith)) in
      omega arith

  -- no such assignment has fewer memberships than the cost
  pub schema-fewest : cost (2 ^ m) allowed 15 (2 ^ m - 1) ≤ memberships m A bound
  schema-fewest =
      let least = fewest (2 ^ m) allowed few-subsets 15 (subset_list m A bound) (2 ^ m - 1) all-below chosen covers in
      let same = list-weight in
      omega arith

  -- where the cost is infinity there is none
  pub schema-none : infinity ≤ cost (2 ^ m) allowed 15 (2 ^ m - 1) → ⊥
  schema-none cannot = unfilled (2 ^ m) allowed few-subsets 15 (subset_list m A bound) (2 ^ m - 1) (omega arith) all-below cannot chosen covers

  -- of those with as many memberships none has a lower list than `best`
  pub schema-lowest : memberships m A bound ≡ cost (2 ^ m) allowed 15 (2 ^ m - 1) → NotAbove (best (2 ^ m) allowed 15 (2 ^ m - 1)) (subset_list m A bound)
  schema-lowest same = go (dec_le infinity (cost (2 ^ m) allowed 15 (2 ^ m - 1)))
    where
      go : Dec (infinity ≤ cost (2 ^ m) allowed 15 (2 ^ m - 1)) → NotAbove (best (2 ^ m) allowed 15 (2 ^ m - 1)) (subset_list m A bound)
      go (yes cannot) = absurd (schema-none cannot)
      go (no can) = best-lowest (2 ^ m) allowed few-subsets 15 (subset_list m A bound) (2 ^ m - 1) all-below (omega arith) chosen covers (list-weight ∙ same)
