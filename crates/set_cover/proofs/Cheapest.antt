-- `best` is right: it gives each relation an attribute, no choice that does has fewer members, and of those with as
-- many it is the lowest (FORMAT 7.26).
use Prim.Native.Nat.{ℕ, zero, suc, ◌+◌, ◌-◌, ◌*◌, ◌≤◌, ◌<◌}
use Rattle.std.specs.Prelude.{◌≡◌, refl, Bool, true, false, ◌⊎◌, ltb, []}
use Rattle.std.proofs.Common.{ap, inl, inr, ⊎_elim, eq-or-lt_of_le, eq-zero-or-pos, ltb-true, lt-ltb}
use mathlib.Core.List.{List, ◌∷◌}
use native.Mathlib.Omega.{arith}
use Rattle.bits.specs.Booleans.{and_left}
use Rattle.bits.specs.Rising.{Rising}
use Rattle.types.specs.Memberships.{members, members-most, members-some}
use Rattle.states.specs.Formula.{type_variable}
use Rattle.set_cover.specs.Remainder.{rest, rest-least, rest-swap, rest-again, rest-fewer}
use Rattle.set_cover.specs.Least.{infinity, least-of, Attained, least-found}
use Rattle.set_cover.specs.Cost.{price, cost, lower, cost-zero, cost-cover, cost-next}
use Rattle.set_cover.specs.Choice.{Chosen, weight, uncovered, NotAbove, picked, best_variables, best, picked_variable, no-variables, variables-step}
use Rattle.set_cover.specs.Cheapest.{Firsts, Picked, Right, picked-is, price-below, price-ok}

-- ---- the subset that is picked

module _ (N : ℕ) (allowed : ℕ → ℕ → Bool) (few : N ≤ 256) where
  -- ---- no choice that gives each relation an attribute costs less

  -- a special attribute with subset s
  pub special-of : (k need s : ℕ) → need < N → s < N → allowed (15 - k) s ≡ true → cost N allowed (suc k) need ≤ members s + cost N allowed k (rest need s)
  special-of k need s h l e =
      let is = cost-next N allowed k need h in
      let most = least-of N (price (allowed (15 - k)) (cost N allowed k) need) s l in
      let this = price-ok (allowed (15 - k)) (cost N allowed k) need s e in
      omega arith

  -- a variable more
  pub variable-of : (need v : ℕ) → need < N → v < N → type_variable (allowed 0) v ≡ true → cost N allowed 0 need ≤ members v + cost N allowed 0 (rest need v)
  variable-of need v h l e = go (eq-or-lt_of_le (rest-least need v))
    where
      go : (rest need v ≡ need) ⊎ (rest need v < need) → cost N allowed 0 need ≤ members v + cost N allowed 0 (rest need v)
      go (inl same) = let c = ap (cost N allowed 0) same in omega arith
      go (inr less) =
          let is = cost-cover N allowed need (omega arith) h in
          let most = least-of N (price (type_variable (allowed 0)) (lower N allowed need) need) v l in
          let this = price-ok (type_variable (allowed 0)) (lower N allowed need) need v e in
          let inner : lower N allowed need (rest need v) ≡ cost N allowed 0 (rest need v) = rw (lt-ltb (rest need v) need less) in
          omega arith

  -- a choice that leaves nothing of `need` uncovered has at least as many members as it costs
  pub fewest : (k : ℕ) (xs : List ℕ) (need : ℕ) → need < N → Chosen N allowed k xs → uncovered need xs ≡ 0 → cost N allowed k need ≤ weight xs
  fewest zero [] need h c covers = let z = cost-zero N allowed (omega arith) in let e = ap (cost N allowed 0) covers in omega arith
  fewest zero (v ∷ xs) need h c covers =
      let lower = rest-least need v in
      let first = variable-of need v h c.0 c.1 in
      let others = fewest zero xs (rest need v) (omega arith) c.2 covers in
      omega arith
  fewest (suc k) [] need h c covers = absurd c
  fewest (suc k) (s ∷ xs) need h c covers =
      let lower = rest-least need s in
      let first = special-of k need s h c.0 c.1 in
      let others = fewest k xs (rest need s) (omega arith) c.2 covers in
      omega arith

  -- ---- what a choice covers costs less than `infinity`

  members-rest : (need s : ℕ) → need < N → members (rest need s) ≤ members need
  members-rest need s h = go (eq-or-lt_of_le (rest-least need s))
    where
      go : (rest need s ≡ need) ⊎ (rest need s < need) → members (rest need s) ≤ members need
      go (inl same) = let e = ap members same in omega arith
      go (inr less) = let f = rest-fewer need s (omega arith) less in omega arith

  bounded : (k : ℕ) (xs : List ℕ) (need : ℕ) → need < N → Chosen N allowed k xs → uncovered need xs ≡ 0 → cost N allowed k need ≤ 8 * k + 8 * members need
  bounded zero [] need h c covers = let z = cost-zero N allowed (omega arith) in let e = ap (cost N allowed 0) covers in omega arith
  bounded zero (v ∷ xs) need h c covers = go (eq-or-lt_of_le (rest-least need v)) (bounded zero xs (rest need v) (let lower = rest-least need v in omega arith) c.2 covers)
    where
      go : (rest need v ≡ need) ⊎ (rest need v < need) → cost N allowed 0 (rest need v) ≤ 8 * 0 + 8 * members (rest need v) → cost N allowed 0 need ≤ 8 * 0 + 8 * members need
      go (inl same) others = let e = ap (cost N allowed 0) same in let f = ap members same in omega arith
      go (inr less) others =
          let first = variable-of need v h c.0 c.1 in
          let most = members-most v in
          let fewer = rest-fewer need v (omega arith) less in
          omega arith
  bounded (suc k) [] need h c covers = absurd c
  bounded (suc k) (s ∷ xs) need h c covers =
      let lower = rest-least need s in
      let first = special-of k need s h c.0 c.1 in
      let most = members-most s in
      let others = bounded k xs (rest need s) (omega arith) c.2 covers in
      let fewer = members-rest need s h in
      omega arith

  -- where the cost is `infinity` no choice covers
  pub unfilled : (k : ℕ) (xs : List ℕ) (need : ℕ) → k ≤ 15 → need < N → infinity ≤ cost N allowed k need → Chosen N allowed k xs → uncovered need xs ≡ 0 → ⊥
  unfilled k xs need few h cannot c covers =
      let most = bounded k xs need h c covers in
      let few-members = members-most need in
      omega arith

  -- ---- what is picked at a special attribute, and as a variable

  pub special-picked : (k need : ℕ) → need < N → cost N allowed (suc k) need < infinity → Picked N (allowed (15 - k)) (cost N allowed k) need (cost N allowed (suc k) need) (picked N (allowed (15 - k)) (cost N allowed k) need (cost N allowed (suc k) need))
  special-picked k need h less =
      let is = cost-next N allowed k need h in
      picked-is N (allowed (15 - k)) (cost N allowed k) need (cost N allowed (suc k) need) less
      (rw is (least-found N (price (allowed (15 - k)) (cost N allowed k) need) (omega arith)))

  lower-found :
      (need : ℕ)
      → cost N allowed 0 need < infinity
      → Attained N (price (type_variable (allowed 0)) (lower N allowed need) need) (cost N allowed 0 need)
      → Attained N (price (type_variable (allowed 0)) (cost N allowed 0) need) (cost N allowed 0 need)
  lower-found need less f = go (ltb (rest need f.at) need) refl
    where
      is_variable : type_variable (allowed 0) f.at ≡ true
      is_variable = price-below (type_variable (allowed 0)) (lower N allowed need) need f.at (let is = f.is in omega arith)

      go : (b : Bool) → ltb (rest need f.at) need ≡ b → Attained N (price (type_variable (allowed 0)) (cost N allowed 0) need) (cost N allowed 0 need)
      go true e =
          let inner : lower N allowed need (rest need f.at) ≡ cost N allowed 0 (rest need f.at) = rw e in
          let this = price-ok (type_variable (allowed 0)) (lower N allowed need) need f.at is_variable in
          let that = price-ok (type_variable (allowed 0)) (cost N allowed 0) need f.at is_variable in
          let is = f.is in
          record { at = f.at; below = f.below; is = omega arith }
      go false e =
          let inner : lower N allowed need (rest need f.at) ≡ infinity = rw e in
          let this = price-ok (type_variable (allowed 0)) (lower N allowed need) need f.at is_variable in
          let is = f.is in
          absurd (omega arith)

  pub variable-picked : (need : ℕ) → 0 < need → need < N → cost N allowed 0 need < infinity → Picked N (type_variable (allowed 0)) (cost N allowed 0) need (cost N allowed 0 need) (picked_variable N allowed need)
  variable-picked need some h less =
      let is = cost-cover N allowed need some h in
      picked-is N (type_variable (allowed 0)) (cost N allowed 0) need (cost N allowed 0 need) less
      (lower-found need less (rw is (least-found N (price (type_variable (allowed 0)) (lower N allowed need) need) (omega arith))))

  -- a variable that costs no more than it must has a relation of `need`
  pub takes : (need v : ℕ) → v < N → type_variable (allowed 0) v ≡ true → members v + cost N allowed 0 (rest need v) ≡ cost N allowed 0 need → rest need v < need
  takes need v l e is = go (eq-or-lt_of_le (rest-least need v))
    where
      go : (rest need v ≡ need) ⊎ (rest need v < need) → rest need v < need
      go (inl same) =
          let c = ap (cost N allowed 0) same in
          let some = members-some v (omega arith) (ltb-true 0 v (and_left (ltb 0 v) (allowed 0 v) e)) in
          absurd (omega arith)
      go (inr less) = less

  -- ---- `best` covers, and has as many members as it costs

  nothing_right : (more need : ℕ) → need < N → need ≡ 0 → Right N allowed 0 need (best_variables N allowed more need)
  nothing_right more need h none =
      let z = cost-zero N allowed (omega arith) in
      let c = ap (cost N allowed 0) none in
      rw (no-variables N allowed more need none) (record { chosen = tt; covers = none; is = omega arith })

  variables-right : (more need : ℕ) → need ≤ more → need < N → cost N allowed 0 need < infinity → Right N allowed 0 need (best_variables N allowed more need)
  variables-right zero need up_to h less = nothing_right zero need h (omega arith)
  variables-right (suc more) need up_to h less = go (eq-zero-or-pos need) (variables-right more)
    where
      go :
          (need ≡ 0) ⊎ (0 < need)
          → ((need : ℕ) → need ≤ more → need < N → cost N allowed 0 need < infinity → Right N allowed 0 need (best_variables N allowed more need))
          → Right N allowed 0 need (best_variables N allowed (suc more) need)
      go (inl none) others = nothing_right (suc more) need h none
      go (inr some) others =
          let p = variable-picked need some h less in
          let is = p.is in
          let fewer = takes need (picked_variable N allowed need) p.below p.is_allowed p.is in
          let o = others (rest need (picked_variable N allowed need)) (omega arith) (omega arith) (omega arith) in
          let rest-is = o.is in
          rw (variables-step N allowed more need some) (record { chosen = (p.below, p.is_allowed, o.chosen); covers = o.covers; is = omega arith })

  pub best-right : (k need : ℕ) → need < N → cost N allowed k need < infinity → Right N allowed k need (best N allowed k need)
  unfolding best
  best-right zero need h less = variables-right need need (omega arith) h less
  best-right (suc k) need h less =
      let p = special-picked k need h less in
      let below = rest-least need (picked N (allowed (15 - k)) (cost N allowed k) need (cost N allowed (suc k) need)) in
      let is = p.is in
      let others = best-right k (rest need (picked N (allowed (15 - k)) (cost N allowed k) need (cost N allowed (suc k) need))) (omega arith) (omega arith) in
      let rest-is = others.is in
      record { chosen = (p.below, p.is_allowed, others.chosen); covers = others.covers; is = omega arith }

  -- ---- and is the lowest of those that cost as much

  -- if a is at most b + c, and c at most d, then b + d is a only where b + c is a and d is c
  exact : (a b c d : ℕ) → a ≤ b + c → c ≤ d → b + d ≡ a → (b + c ≡ a) × (d ≡ c)
  exact a b c d h l e = (omega arith, omega arith)

  -- first elements in order, and the others where the first are the same
  compare : (x y : ℕ) (xs ys : List ℕ) → x ≤ y → (x ≡ y → NotAbove xs ys) → NotAbove (x ∷ xs) (y ∷ ys)
  compare x y xs ys h f = ⊎_elim (λ e. inr (e, f e)) (λ l. inl l) (eq-or-lt_of_le h)

  variables-lowest : (more : ℕ) (xs : List ℕ) (need : ℕ) → need ≤ more → need < N → cost N allowed 0 need < infinity → Chosen N allowed 0 xs → uncovered need xs ≡ 0 → weight xs ≡ cost N allowed 0 need → NotAbove (best_variables N allowed more need) xs
  variables-lowest zero xs need up_to h less c covers is = rw (no-variables N allowed zero need (omega arith)) tt
  variables-lowest (suc more) xs need up_to h less c covers is = go (eq-zero-or-pos need) xs c covers is (variables-lowest more)
    where
      go :
          (need ≡ 0) ⊎ (0 < need)
          → (xs : List ℕ)
          → Chosen N allowed 0 xs
          → uncovered need xs ≡ 0
          → weight xs ≡ cost N allowed 0 need
          → ((xs : List ℕ) (need : ℕ) → need ≤ more → need < N → cost N allowed 0 need < infinity → Chosen N allowed 0 xs → uncovered need xs ≡ 0 → weight xs ≡ cost N allowed 0 need → NotAbove (best_variables N allowed more need) xs)
          → NotAbove (best_variables N allowed (suc more) need) xs
      go (inl none) xs c covers is others = rw (no-variables N allowed (suc more) need none) tt
      go (inr some) [] c covers is others = absurd (omega arith)
      go (inr some) (v ∷ xs) c covers is others =
          let p = variable-picked need some h less in
          let below = rest-least need v in
          let least = fewest 0 xs (rest need v) (omega arith) c.2 covers in
          let same = exact (cost N allowed 0 need) (members v) (cost N allowed 0 (rest need v)) (weight xs) (variable-of need v h c.0 c.1) least is in
          let fewer = takes need v c.0 c.1 same.0 in
          let first-is = same.0 in
          rw (variables-step N allowed more need some)
          (compare (picked_variable N allowed need) v (best_variables N allowed more (rest need (picked_variable N allowed need))) xs (p.lowest v c.0 c.1 same.0)
          (λ eq. rw eq (others xs (rest need v) (omega arith) (omega arith) (omega arith) c.2 covers same.1)))

  pub best-lowest : (k : ℕ) (xs : List ℕ) (need : ℕ) → need < N → cost N allowed k need < infinity → Chosen N allowed k xs → uncovered need xs ≡ 0 → weight xs ≡ cost N allowed k need → NotAbove (best N allowed k need) xs
  unfolding best
  best-lowest zero xs need h less c covers is = variables-lowest need xs need (omega arith) h less c covers is
  best-lowest (suc k) [] need h less c covers is = absurd c
  best-lowest (suc k) (s ∷ xs) need h less c covers is =
      let p = special-picked k need h less in
      let below = rest-least need s in
      let least = fewest k xs (rest need s) (omega arith) c.2 covers in
      let same = exact (cost N allowed (suc k) need) (members s) (cost N allowed k (rest need s)) (weight xs) (special-of k need s h c.0 c.1) least is in
      let first-is = same.0 in
      compare (picked N (allowed (15 - k)) (cost N allowed k) need (cost N allowed (suc k) need)) s (best N allowed k (rest need (picked N (allowed (15 - k)) (cost N allowed k) need (cost N allowed (suc k) need)))) xs (p.lowest s c.0 c.1 same.0)
      (λ eq. rw eq (best-lowest k xs (rest need s) (omega arith) (omega arith) c.2 covers same.1))

  -- ---- its variables rise, so none occurs twice

  -- a variable that may be picked next is above the one picked first
  later-above :
      (need w : ℕ)
      → 0 < need
      → need < N
      → cost N allowed 0 need < infinity
      → w < N
      → type_variable (allowed 0) w ≡ true
      → members w + cost N allowed 0 (rest (rest need (picked_variable N allowed need)) w) ≡ cost N allowed 0 (rest need (picked_variable N allowed need))
      → picked_variable N allowed need < w
  later-above need w some h less l e is = go (eq-or-lt_of_le at_most)
    where
      p : Picked N (type_variable (allowed 0)) (cost N allowed 0) need (cost N allowed 0 need) (picked_variable N allowed need)
      p = variable-picked need some h less

      swapped : rest (rest need w) (picked_variable N allowed need) ≡ rest (rest need (picked_variable N allowed need)) w
      swapped = rest-swap need w (picked_variable N allowed need) (omega arith)

      costs : members w + cost N allowed 0 (rest need w) ≡ cost N allowed 0 need
      costs =
          let below = rest-least need w in
          let here = variable-of need w h l e in
          let there = variable-of (rest need w) (picked_variable N allowed need) (omega arith) p.below p.is_allowed in
          let same = ap (cost N allowed 0) swapped in
          let first = p.is in
          omega arith

      at_most : picked_variable N allowed need ≤ w
      at_most = p.lowest w l e costs

      go : (picked_variable N allowed need ≡ w) ⊎ (picked_variable N allowed need < w) → picked_variable N allowed need < w
      go (inl eq) =
          let fewer = takes (rest need (picked_variable N allowed need)) w l e is in
          let again = rest-again need (picked_variable N allowed need) (omega arith) in
          let same = ap (rest (rest need (picked_variable N allowed need))) eq in
          absurd (omega arith)
      go (inr above) = above

  pub variables-rise : (more need q : ℕ) → need ≤ more → need < N → cost N allowed 0 need < infinity → Firsts N allowed need q → Rising q (best_variables N allowed more need)
  variables-rise zero need q up_to h less above = rw (no-variables N allowed zero need (omega arith)) tt
  variables-rise (suc more) need q up_to h less above = go (eq-zero-or-pos need) (variables-rise more)
    where
      go :
          (need ≡ 0) ⊎ (0 < need)
          → ((need q : ℕ) → need ≤ more → need < N → cost N allowed 0 need < infinity → Firsts N allowed need q → Rising q (best_variables N allowed more need))
          → Rising q (best_variables N allowed (suc more) need)
      go (inl none) others = rw (no-variables N allowed (suc more) need none) tt
      go (inr some) others =
          let p = variable-picked need some h less in
          let v = picked_variable N allowed need in
          let is = p.is in
          let fewer = takes need (picked_variable N allowed need) p.below p.is_allowed p.is in
          rw (variables-step N allowed more need some)
          (above v p.below p.is_allowed p.is, others (rest need v) v (omega arith) (omega arith) (omega arith) (λ w l e c. later-above need w some h less l e c))
