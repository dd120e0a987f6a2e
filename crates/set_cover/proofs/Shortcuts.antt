-- What code may leave out: a column that allows what column 0 allows, and variables after as many as there are
-- relations.
use Prim.Native.Nat.{ℕ, zero, suc, ◌+◌, ◌-◌, ◌≤◌, ◌<◌}
use Rattle.std.specs.Prelude.{◌≡◌, Bool, true, ◌&&◌, ◌⊎◌, eqb, ltb}
use Rattle.std.proofs.Math.Path.{refl, ap}
use Rattle.std.proofs.Common.{sym, ap₂, ◌∙◌, inl, inr, ⊎_elim, eq-zero-or-pos, le_antisymm, suc-add, zero-add, lt-ltb, eq-eqb, ne_eqb}
use Rattle.std.proofs.Math.Bool.{cond}
use Rattle.std.proofs.Math.Decide.{dec_le}
use native.Mathlib.Omega.{arith}
use Rattle.bits.specs.Booleans.{and_right}
use Rattle.types.specs.Memberships.{members, members-most, members-some, members-none}
use Rattle.states.specs.Formula.{type_variable}
use Rattle.set_cover.specs.Remainder.{rest, rest-least, rest-none, rest-swap, rest-fewer}
use Rattle.set_cover.specs.Least.{infinity, least, least-most, least-of, least-over, least-same}
use Rattle.set_cover.specs.Cost.{price, cost, lower, cost-zero, cost-next}
use Rattle.set_cover.specs.Choice.{picked, picked_variable}
use Rattle.set_cover.specs.Cheapest.{price-ok}
use Rattle.set_cover.proofs.Cheapest.{special-of, variable-of, special-picked, variable-picked, takes}
use Rattle.set_cover.specs.Shortcuts.{cost-most, covering, price-over}

module _ (N : ℕ) (allowed : ℕ → ℕ → Bool) (few : N ≤ 256) (grounded : allowed 0 0 ≡ true) where
  -- ---- a column that allows what column 0 allows

  -- a variable more, with special attributes
  variable-any : (k need v : ℕ) → need < N → v < N → type_variable (allowed 0) v ≡ true → cost N allowed k need ≤ members v + cost N allowed k (rest need v)
  variable-any zero need v h l e = variable-of N allowed few need v h l e
  variable-any (suc k) need v h l e = go (dec_le infinity (cost N allowed (suc k) (rest need v))) (variable-any k)
    where
      below : rest need v < N
      below = let r = rest-least need v in omega arith

      go : Dec (infinity ≤ cost N allowed (suc k) (rest need v)) → ((need v : ℕ) → need < N → v < N → type_variable (allowed 0) v ≡ true → cost N allowed k need ≤ members v + cost N allowed k (rest need v)) → cost N allowed (suc k) need ≤ members v + cost N allowed (suc k) (rest need v)
      go (yes cannot) others = let m = cost-most N allowed (suc k) need h in omega arith
      go (no can) others =
          let p = special-picked N allowed few k (rest need v) below (omega arith) in
          let s = picked N (allowed (15 - k)) (cost N allowed k) (rest need v) (cost N allowed (suc k) (rest need v)) in
          let lower = rest-least need s in
          let here = special-of N allowed few k need s h p.below p.is_allowed in
          let there = others (rest need s) v (omega arith) l e in
          let same = ap (cost N allowed k) (rest-swap need s v (omega arith)) in
          let is = p.is in
          omega arith

  -- what column 0 allows is empty or a variable
  any-zero : (s : ℕ) → allowed 0 s ≡ true → (s ≡ 0) ⊎ (type_variable (allowed 0) s ≡ true)
  any-zero zero e = inl refl
  any-zero (suc s) e = inr (ap₂ ◌&&◌ (lt-ltb 0 (suc s) (omega arith)) e)

  -- nothing is gained by a subset that column 0 allows
  over_any : (k need s : ℕ) → need < N → s < N → allowed 0 s ≡ true → cost N allowed k need ≤ members s + cost N allowed k (rest need s)
  over_any k need s h l e = ⊎_elim (λ z. zeroth z) (λ v. variable-any k need s h l v) (any-zero s e)
    where
      zeroth : s ≡ 0 → cost N allowed k need ≤ members s + cost N allowed k (rest need s)
      zeroth z = let same = ap (cost N allowed k) (ap (rest need) z ∙ rest-none need (omega arith)) in omega arith

  module _ (k : ℕ) (alike : (s : ℕ) → s < N → allowed (15 - k) s ≡ allowed 0 s) where
    -- it costs nothing
    pub skip-cost : (need : ℕ) → need < N → cost N allowed (suc k) need ≡ cost N allowed k need
    skip-cost need h =
        let none = members-none in
        let most = special-of N allowed few k need 0 h (omega arith) (alike 0 (omega arith) ∙ grounded) in
        let same = ap (cost N allowed k) (rest-none need (omega arith)) in
        let at_least : cost N allowed k need ≤ least N (price (allowed (15 - k)) (cost N allowed k) need) =
        least-over N _ (cost N allowed k need) (cost-most N allowed k need h)
        (λ s l. price-over (allowed (15 - k)) (cost N allowed k) need s (cost N allowed k need) (cost-most N allowed k need h) (λ e. over_any k need s h l (sym (alike s l) ∙ e)))
        in
        let is = cost-next N allowed k need h in
        omega arith

  -- ---- as many variables as there are relations are enough

  covering-over : (j need : ℕ) → need < N → cost N allowed 0 need ≤ covering N (allowed 0) j need
  unfolding covering
  covering-over zero need h = go (eq-zero-or-pos need)
    where
      go : (need ≡ 0) ⊎ (0 < need) → cost N allowed 0 need ≤ cond (eqb need 0) 0 infinity
      go (inl z) = let c = ap (cost N allowed 0) z in let n = cost-zero N allowed (omega arith) in rw (eq-eqb need 0 z) (omega arith)
      go (inr l) = rw (ne_eqb need 0 (λ z. omega arith)) (cost-most N allowed 0 need h)
  covering-over (suc j) need h =
      least-over N _ (cost N allowed 0 need) (cost-most N allowed 0 need h)
      (λ s l. price-over (allowed 0) (covering N (allowed 0) j) need s (cost N allowed 0 need) (cost-most N allowed 0 need h)
      (λ e. let r = rest-least need s in let others = covering-over j (rest need s) (omega arith) in let this = over_any 0 need s h l e in omega arith))

  covering-of : (j need s : ℕ) → s < N → allowed 0 s ≡ true → covering N (allowed 0) (suc j) need ≤ members s + covering N (allowed 0) j (rest need s)
  unfolding covering
  covering-of j need s l e =
      let most = least-of N (price (allowed 0) (covering N (allowed 0) j) need) s l in
      let this = price-ok (allowed 0) (covering N (allowed 0) j) need s e in
      omega arith

  covering-zero : (j : ℕ) → 0 < N → covering N (allowed 0) j 0 ≤ 0
  unfolding covering
  covering-zero zero some = omega arith
  covering-zero (suc j) some = let m = covering-of j 0 0 some grounded in let z = members-none in let same = ap (covering N (allowed 0) j) (rest-none 0 (omega arith)) in let o = covering-zero j some in omega arith

  covering-most : (j need : ℕ) → covering N (allowed 0) (suc j) need ≤ infinity
  unfolding covering
  covering-most j need = least-most N _

  covering-under : (j need : ℕ) → need < N → members need ≤ j → covering N (allowed 0) j need ≤ cost N allowed 0 need
  covering-under zero need h few-members = go (eq-zero-or-pos need)
    where
      go : (need ≡ 0) ⊎ (0 < need) → covering N (allowed 0) 0 need ≤ cost N allowed 0 need
      go (inl z) = let c = ap (covering N (allowed 0) 0) z in let n = covering-zero 0 (omega arith) in omega arith
      go (inr l) = let some = members-some need (omega arith) l in absurd (omega arith)
  covering-under (suc j) need h few-members = go (eq-zero-or-pos need) (dec_le infinity (cost N allowed 0 need)) (covering-under j)
    where
      go : (need ≡ 0) ⊎ (0 < need) → Dec (infinity ≤ cost N allowed 0 need) → ((need : ℕ) → need < N → members need ≤ j → covering N (allowed 0) j need ≤ cost N allowed 0 need) → covering N (allowed 0) (suc j) need ≤ cost N allowed 0 need
      go (inl z) d others = let c = ap (covering N (allowed 0) (suc j)) z in let n = covering-zero (suc j) (omega arith) in omega arith
      go (inr l) (yes cannot) others = let m = covering-most j need in omega arith
      go (inr l) (no can) others =
          let p = variable-picked N allowed few need l h (omega arith) in
          let v = picked_variable N allowed need in
          let fewer = takes N allowed few need v p.below p.is_allowed p.is in
          let less-members = rest-fewer need v (omega arith) fewer in
          let rests = others (rest need v) (omega arith) (omega arith) in
          let this = covering-of j need v p.below (is_allowed v p.is_allowed) in
          let is = p.is in
          omega arith
        where
          is_allowed : (v : ℕ) → type_variable (allowed 0) v ≡ true → allowed 0 v ≡ true
          is_allowed v e = and_right (ltb 0 v) (allowed 0 v) e

  pub covering-is : (need : ℕ) → need < N → covering N (allowed 0) 8 need ≡ cost N allowed 0 need
  covering-is need h = le_antisymm (covering-under 8 need h (members-most need)) (covering-over 8 need h)

-- ---- where one subset more changes nothing, none that follows does

module _ (N : ℕ) (ok : ℕ → Bool) (j : ℕ) (settled : (need : ℕ) → need < N → covering N ok (suc j) need ≡ covering N ok j need) where
  covering-later : (d need : ℕ) → need < N → covering N ok (d + j) need ≡ covering N ok j need
  unfolding covering
  covering-later zero need h = ap (λ (i : ℕ). covering N ok i need) (zero-add j)
  covering-later (suc d) need h =
      ap (λ (i : ℕ). covering N ok i need) (suc-add d j)
      ∙ least-same N _ _ (λ s l. ap (λ (x : ℕ). cond (ok s) (members s + x) infinity) (covering-later d (rest need s) (let r = rest-least need s in omega arith)))
      ∙ settled need h

  pub covering-settled : j ≤ 8 → (need : ℕ) → need < N → covering N ok 8 need ≡ covering N ok j need
  covering-settled h need l =
      let all : 8 ≡ (8 - j) + j = omega arith in
      ap (λ (i : ℕ). covering N ok i need) all ∙ covering-later (8 - j) need l
