-- `best` is right: it gives each relation an attribute, no choice that does has fewer members, and of those with as
-- many it is the lowest (FORMAT 7.26).
use Prim.Native.Nat.{ℕ, ◌+◌, ◌-◌, ◌≤◌, ◌<◌}
use Rattle.std.specs.Prelude.{◌≡◌, refl, Bool, true, false, cond, eqb}
use Rattle.std.proofs.Common.{sym, ap, ◌∙◌, eqb-true}
use mathlib.Core.List.{List}
use Rattle.std.proofs.Math.Decide.{dec_le}
use native.Mathlib.Omega.{arith}
use Rattle.std.proofs.lemmas.Bool.{eqb-false}
use Rattle.bits.specs.Lowest.{lowest_from, Lowest, lowest-is}
use Rattle.types.specs.Memberships.{members}
use Rattle.states.specs.Formula.{type_variable}
use Rattle.set_cover.specs.Remainder.{rest}
use Rattle.set_cover.specs.Least.{infinity, Attained}
use Rattle.set_cover.specs.Cost.{price, cost}
use Rattle.set_cover.specs.Choice.{Chosen, weight, uncovered, picked}

-- ---- prices

pub price-ok : (ok : ℕ → Bool) (next : ℕ → ℕ) (need s : ℕ) → ok s ≡ true → price ok next need s ≡ members s + next (rest need s)
price-ok ok next need s e = ap (λ (b : Bool). cond b (members s + next (rest need s)) infinity) e

pub price-not : (ok : ℕ → Bool) (next : ℕ → ℕ) (need s : ℕ) → ok s ≡ false → price ok next need s ≡ infinity
price-not ok next need s e = ap (λ (b : Bool). cond b (members s + next (rest need s)) infinity) e

-- a subset whose price is below infinity is allowed
pub price-below : (ok : ℕ → Bool) (next : ℕ → ℕ) (need s : ℕ) → price ok next need s < infinity → ok s ≡ true
price-below ok next need s = go (ok s) refl
  where
    go : (b : Bool) → ok s ≡ b → cond (ok s) (members s + next (rest need s)) infinity < infinity → ok s ≡ true
    go true e h = e
    go false e h = let f = rw e at h in absurd (omega arith)

-- ---- the subset that is picked

-- the lowest allowed subset that costs as much as is said
pub record Picked (N : ℕ) (ok : ℕ → Bool) (next : ℕ → ℕ) (need target x : ℕ) : Type 0 where
  pub below : x < N
  pub is_allowed : ok x ≡ true
  pub is : members x + next (rest need x) ≡ target
  pub lowest : (y : ℕ) → y < N → ok y ≡ true → members y + next (rest need y) ≡ target → x ≤ y

-- there is one where a price is as much
pub picked-is : (N : ℕ) (ok : ℕ → Bool) (next : ℕ → ℕ) (need target : ℕ) → target < infinity → Attained N (price ok next need) target → Picked N ok next need target (picked N ok next need target)
unfolding picked
picked-is N ok next need target less some = go (dec_le N (lowest_from N 0 (λ s. eqb (price ok next need s) target)))
  where
    found : Lowest N 0 (λ s. eqb (price ok next need s) target) (lowest_from N 0 (λ s. eqb (price ok next need s) target))
    found = lowest-is N 0 (λ s. eqb (price ok next need s) target)

    lowest : (y : ℕ) → ok y ≡ true → members y + next (rest need y) ≡ target → Dec (lowest_from N 0 (λ s. eqb (price ok next need s) target) ≤ y) → lowest_from N 0 (λ s. eqb (price ok next need s) target) ≤ y
    lowest y e is (yes h) = h
    lowest y e is (no h) = absurd (eqb-false (price ok next need y) target (found.before y (omega arith) (omega arith)) (price-ok ok next need y e ∙ is))

    go : Dec (N ≤ lowest_from N 0 (λ s. eqb (price ok next need s) target)) → Picked N ok next need target (lowest_from N 0 (λ s. eqb (price ok next need s) target))
    go (yes h) =
        let below = some.below in
        absurd (eqb-false (price ok next need some.at) target (found.before some.at (omega arith) (omega arith)) some.is)
    go (no h) =
        let is = eqb-true (price ok next need (lowest_from N 0 (λ s. eqb (price ok next need s) target))) target (found.passes (omega arith)) in
        let allowed = price-below ok next need (lowest_from N 0 (λ s. eqb (price ok next need s) target)) (omega arith) in
        record {
          below = omega arith;
          is_allowed = allowed;
          is = sym (price-ok ok next need _ allowed) ∙ is;
          lowest = λ y l e same. lowest y e same (dec_le (lowest_from N 0 (λ s. eqb (price ok next need s) target)) y);
        }

module _ (N : ℕ) (allowed : ℕ → ℕ → Bool) where
  -- a choice that leaves nothing uncovered and has as many members as `need` costs
  pub record Right (k need : ℕ) (xs : List ℕ) : Type 0 where
    pub chosen : Chosen N allowed k xs
    pub covers : uncovered need xs ≡ 0
    pub is : weight xs ≡ cost N allowed k need

  -- each variable that costs no more than it must is above q
  abbrev pub Firsts : ℕ → ℕ → Type 0
  Firsts need q = (w : ℕ) → w < N → type_variable (allowed 0) w ≡ true → members w + cost N allowed 0 (rest need w) ≡ cost N allowed 0 need → q < w
