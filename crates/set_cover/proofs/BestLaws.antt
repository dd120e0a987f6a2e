-- The list `best`: how long it is, and what its entries are.
use Prim.Native.Nat.{ℕ, zero, suc, ◌+◌, ◌-◌, ◌≤◌, ◌<◌}
use Rattle.std.specs.Prelude.{◌≡◌, refl, Bool, true, false, ◌⊎◌, ltb, get_or, drop}
use Rattle.std.proofs.Common.{ap, ◌∙◌, inl, inr, eq-zero-or-pos, eq-eqb, ltb-true}
use Rattle.std.proofs.Math.Decide.{dec_le}
use native.Mathlib.Omega.{arith}
use Rattle.std.proofs.Math.Dec.{eqb}
use Rattle.std.proofs.Math.ListN.{length}
use Rattle.bits.specs.Booleans.{and_left, clash}
use Rattle.bits.specs.Lowest.{lowest_from, lowest-is}
use Rattle.bits.specs.Rising.{Rising}
use Rattle.types.specs.Memberships.{members, members-most, members-none}
use Rattle.states.specs.Formula.{type_variable}
use Rattle.set_cover.specs.Remainder.{rest, rest-least, rest-none, rest-fewer}
use Rattle.set_cover.specs.Least.{infinity, least-of}
use Rattle.set_cover.specs.Cost.{price, cost, cost-next}
use Rattle.set_cover.specs.Choice.{picked, best_variables, best, picked_variable, no-variables, variables-step}
use Rattle.set_cover.specs.Cheapest.{price-ok, price-not}
use Rattle.set_cover.proofs.Cheapest.{special-picked, variable-picked, takes, best-right, variables-rise}
use Rattle.set_cover.specs.Shortcuts.{cost-most}
use Rattle.set_cover.specs.Covered.{EachBelow}
use Rattle.set_cover.specs.BestLaws.{chosen-special, chosen-variable, each-entry}

-- ---- what a choice is

module _ (N : ℕ) (allowed : ℕ → ℕ → Bool) (few : N ≤ 256) where
  -- ---- each entry is a subset, also where the cost is infinity

  -- what is picked is not above a subset of that price
  picked-most : (ok : ℕ → Bool) (next : ℕ → ℕ) (need target s : ℕ) → price ok next need s ≡ target → picked N ok next need target ≤ s
  unfolding picked
  picked-most ok next need target s e = go (dec_le (lowest_from N 0 (λ s. eqb (price ok next need s) target)) s)
    where
      go : Dec (lowest_from N 0 (λ s. eqb (price ok next need s) target) ≤ s) → lowest_from N 0 (λ s. eqb (price ok next need s) target) ≤ s
      go (yes h) = h
      go (no h) = absurd (clash (eq-eqb (price ok next need s) target e) ((lowest-is N 0 (λ s. eqb (price ok next need s) target)).before s (omega arith) (omega arith)))

  special-below : (k need : ℕ) → need < N → picked N (allowed (15 - k)) (cost N allowed k) need (cost N allowed (suc k) need) < N
  special-below k need h = go (dec_le infinity (cost N allowed (suc k) need))
    where
      -- the empty subset
      empty : infinity ≤ cost N allowed (suc k) need → (b : Bool) → allowed (15 - k) 0 ≡ b → price (allowed (15 - k)) (cost N allowed k) need 0 ≡ cost N allowed (suc k) need
      empty cannot true e =
          let is = cost-next N allowed k need h in
          let least-is = least-of N (price (allowed (15 - k)) (cost N allowed k) need) 0 (omega arith) in
          let price-is = price-ok (allowed (15 - k)) (cost N allowed k) need 0 e in
          let none = members-none in
          let same = ap (cost N allowed k) (rest-none need (omega arith)) in
          let most = cost-most N allowed (suc k) need h in
          let other = cost-most N allowed k need h in
          omega arith
      empty cannot false e =
          let price-is = price-not (allowed (15 - k)) (cost N allowed k) need 0 e in
          let most = cost-most N allowed (suc k) need h in
          omega arith

      go : Dec (infinity ≤ cost N allowed (suc k) need) → picked N (allowed (15 - k)) (cost N allowed k) need (cost N allowed (suc k) need) < N
      go (yes cannot) = let low = picked-most (allowed (15 - k)) (cost N allowed k) need (cost N allowed (suc k) need) 0 (empty cannot (allowed (15 - k) 0) refl) in omega arith
      go (no can) = (special-picked N allowed few k need h (omega arith)).below

  variable-below : (need : ℕ) → 0 < need → need < N → picked_variable N allowed need < N
  variable-below need some h = go (dec_le infinity (cost N allowed 0 need))
    where
      go : Dec (infinity ≤ cost N allowed 0 need) → picked N (type_variable (allowed 0)) (cost N allowed 0) need (cost N allowed 0 need) < N
      go (yes cannot) =
          let most = cost-most N allowed 0 need h in
          let price-is = price-not (type_variable (allowed 0)) (cost N allowed 0) need 0 refl in
          let low = picked-most (type_variable (allowed 0)) (cost N allowed 0) need (cost N allowed 0 need) 0 (omega arith) in
          omega arith
      go (no can) = (variable-picked N allowed few need some h (omega arith)).below

  variables-below : (more need : ℕ) → need < N → EachBelow N (best_variables N allowed more need)
  unfolding best_variables
  variables-below zero need h = tt
  variables-below (suc more) need h = go (eq-zero-or-pos need) (variables-below more)
    where
      go : (need ≡ 0) ⊎ (0 < need) → ((need : ℕ) → need < N → EachBelow N (best_variables N allowed more need)) → EachBelow N (best_variables N allowed (suc more) need)
      go (inl none) others = rw (no-variables N allowed (suc more) need none) tt
      go (inr some) others =
          let r = rest-least need (picked_variable N allowed need) in
          rw (variables-step N allowed more need some) (variable-below need some h, others (rest need (picked_variable N allowed need)) (omega arith))

  pub best-below : (k need : ℕ) → need < N → EachBelow N (best N allowed k need)
  unfolding best
  best-below zero need h = variables-below need need h
  best-below (suc k) need h =
      let s = picked N (allowed (15 - k)) (cost N allowed k) need (cost N allowed (suc k) need) in
      (special-below k need h, best-below k (rest need s) (let r = rest-least need s in omega arith))

  -- ---- how long it is

  -- an entry for each special attribute
  pub best-least : (k need : ℕ) → k ≤ length (best N allowed k need)
  unfolding best
  best-least zero need = omega arith
  best-least (suc k) need =
      let others = best-least k (rest need (picked N (allowed (15 - k)) (cost N allowed k) need (cost N allowed (suc k) need))) in
      omega arith

  variables-few : (more need : ℕ) → need < N → cost N allowed 0 need < infinity → length (best_variables N allowed more need) ≤ members need
  unfolding best_variables
  variables-few zero need h less = omega arith
  variables-few (suc more) need h less = go (eq-zero-or-pos need) (variables-few more)
    where
      go :
          (need ≡ 0) ⊎ (0 < need)
          → ((need : ℕ) → need < N → cost N allowed 0 need < infinity → length (best_variables N allowed more need) ≤ members need)
          → length (best_variables N allowed (suc more) need) ≤ members need
      go (inl none) others = rw (no-variables N allowed (suc more) need none) (omega arith)
      go (inr some) others =
          let p = variable-picked N allowed few need some h less in
          let is = p.is in
          let taken = takes N allowed few need (picked_variable N allowed need) p.below p.is_allowed p.is in
          let fewer = rest-fewer need (picked_variable N allowed need) (omega arith) taken in
          let rest-few = others (rest need (picked_variable N allowed need)) (omega arith) (omega arith) in
          rw (variables-step N allowed more need some) (omega arith)

  -- ---- the variables one by one

  -- ---- the variables of `best`

  -- what is left for variables
  record Variables (k need : ℕ) : Type 0 where
    pub uncovered : ℕ
    pub below : uncovered < N
    pub less : cost N allowed 0 uncovered < infinity
    pub is : drop k (best N allowed k need) ≡ best_variables N allowed uncovered uncovered
    pub size : length (best N allowed k need) ≡ k + length (best_variables N allowed uncovered uncovered)

  variables-of : (k need : ℕ) → need < N → cost N allowed k need < infinity → Variables k need
  unfolding best
  variables-of zero need h less = record { uncovered = need; below = h; less = less; is = refl; size = omega arith }
  variables-of (suc k) need h less =
      let p = special-picked N allowed few k need h less in
      let s = picked N (allowed (15 - k)) (cost N allowed k) need (cost N allowed (suc k) need) in
      let r = rest-least need s in
      let is = p.is in
      let v = variables-of k (rest need s) (omega arith) (omega arith) in
      let size = v.size in
      record { uncovered = v.uncovered; below = v.below; less = v.less; is = v.is; size = omega arith }

  -- ---- all fifteen special attributes

  module _ (need : ℕ) (h : need < N) where
    pub best-entry : (i : ℕ) → get_or (best N allowed 15 need) i 0 < N
    best-entry = each-entry N (omega arith) (best N allowed 15 need) (best-below 15 need h)

    module _ (less : cost N allowed 15 need < infinity) where
      -- each variable has a relation that none before it has
      pub best-most : length (best N allowed 15 need) ≤ 15 + 8
      best-most =
          let v = variables-of 15 need h less in
          let size = v.size in
          let short = variables-few v.uncovered v.uncovered v.below v.less in
          let most = members-most v.uncovered in
          omega arith

      pub best-special : (i : ℕ) → i < 15 → allowed (i + 1) (get_or (best N allowed 15 need) i 0) ≡ true
      best-special i l =
          let column : i + 1 ≡ 16 - 15 + i = omega arith in
          ap (λ (j : ℕ). allowed j (get_or (best N allowed 15 need) i 0)) column
          ∙ chosen-special N allowed 15 (best N allowed 15 need) (omega arith) (best-right N allowed few 15 need h less).chosen i l

      pub best-variable : (i : ℕ) → i < length (drop 15 (best N allowed 15 need)) → type_variable (allowed 0) (get_or (drop 15 (best N allowed 15 need)) i 0) ≡ true
      best-variable = chosen-variable N allowed 15 (best N allowed 15 need) (best-right N allowed few 15 need h less).chosen

      pub best-rises : Rising 0 (drop 15 (best N allowed 15 need))
      best-rises =
          let v = variables-of 15 need h less in
          rw v.is (variables-rise N allowed few v.uncovered v.uncovered 0 (omega arith) v.below v.less (λ w l e c. ltb-true 0 w (and_left (ltb 0 w) (allowed 0 w) e)))
