-- What code may leave out: a column that allows what column 0 allows, and variables after as many as there are
-- relations.
use Prim.Native.Nat.{ℕ, zero, suc, ◌+◌, ◌-◌, ◌≤◌, ◌<◌}
use Rattle.std.specs.Prelude.{◌≡◌, Bool, true, false, eqb}
use Rattle.std.proofs.Math.Path.{refl}
use Rattle.std.proofs.Math.Bool.{cond}
use native.Mathlib.Omega.{arith}
use Rattle.types.specs.Memberships.{members}
use Rattle.states.specs.Formula.{type_variable}
use Rattle.set_cover.specs.Remainder.{rest}
use Rattle.set_cover.specs.Least.{infinity, least, least-most}
use Rattle.set_cover.specs.Cost.{price, cost, lower, cost-zero, cost-cover, cost-next}

-- what is at most infinity, and at most what s costs if it is allowed, is at most its price
pub price-over : (ok : ℕ → Bool) (next : ℕ → ℕ) (need s x : ℕ) → x ≤ infinity → (ok s ≡ true → x ≤ members s + next (rest need s)) → x ≤ price ok next need s
price-over ok next need s x h f = go (ok s) refl
  where
    go : (b : Bool) → ok s ≡ b → x ≤ cond (ok s) (members s + next (rest need s)) infinity
    go true e = rw e (f e)
    go false e = rw e h

-- the fewest members of j subsets that `ok` allows and that leave nothing of `need` uncovered; at most infinity
unfoldable pub covering : ℕ → (ℕ → Bool) → ℕ → ℕ → ℕ
covering N ok zero need = cond (eqb need 0) 0 infinity
covering N ok (suc j) need = least N (price ok (covering N ok j) need)

module _ (N : ℕ) (ok : ℕ → Bool) where
  pub covering-none : (need : ℕ) → covering N ok 0 need ≡ cond (eqb need 0) 0 infinity
  unfolding covering
  covering-none need = refl

  pub covering-next : (j need : ℕ) → covering N ok (suc j) need ≡ least N (price ok (covering N ok j) need)
  unfolding covering
  covering-next j need = refl

-- no cost is above infinity
module _ (N : ℕ) (allowed : ℕ → ℕ → Bool) where
  pub cost-most : (k need : ℕ) → need < N → cost N allowed k need ≤ infinity
  cost-most zero zero h = let z = cost-zero N allowed h in omega arith
  cost-most zero (suc need) h = let e = cost-cover N allowed (suc need) (omega arith) h in let m = least-most N (price (type_variable (allowed 0)) (lower N allowed (suc need)) (suc need)) in omega arith
  cost-most (suc k) need h = let e = cost-next N allowed k need h in let m = least-most N (price (allowed (15 - k)) (cost N allowed k) need) in omega arith
