-- The least of so many costs.
use Rattle.std.specs.Prelude.{ℕ, zero, suc, ◌≤◌, ◌<◌, min, ◌≡◌, refl, ◌⊎◌}
use Rattle.std.proofs.Common.{ap, ap₂, inl, inr, eq-or-lt_of_le, arith}
use Rattle.std.proofs.Math.Decide.{dec_le}

-- more memberships than any choice has: 15 special attributes and 8 variables with 8 members each are 184
abbrev pub infinity : ℕ
infinity = 200

-- the least of cost 0, .., cost (n - 1), and at most `infinity`
unfoldable pub least : ℕ → (ℕ → ℕ) → ℕ
least zero cost = infinity
least (suc n) cost = min (least n cost) (cost n)

-- ---- laws

pub least-most : (n : ℕ) (cost : ℕ → ℕ) → least n cost ≤ infinity
unfolding least
least-most zero cost = omega arith
least-most (suc n) cost = let h = least-most n cost in omega arith

-- it is at most each of them
pub least-of : (n : ℕ) (cost : ℕ → ℕ) (s : ℕ) → s < n → least n cost ≤ cost s
unfolding least
least-of zero cost s h = absurd (omega arith)
least-of (suc n) cost s h = go (eq-or-lt_of_le (up_to h)) (least-of n cost s)
  where
    up_to : s < suc n → s ≤ n
    up_to h = omega arith

    go : (s ≡ n) ⊎ (s < n) → (s < n → least n cost ≤ cost s) → min (least n cost) (cost n) ≤ cost s
    go (inl e) rest = let f = ap cost e in omega arith
    go (inr l) rest = let f = rest l in omega arith

-- costs that agree below n have the same least
pub least-same : (n : ℕ) (f g : ℕ → ℕ) → ((s : ℕ) → s < n → f s ≡ g s) → least n f ≡ least n g
unfolding least
least-same zero f g e = refl
least-same (suc n) f g e = ap₂ min (least-same n f g (λ s h. e s (omega arith))) (e n (omega arith))

-- x is one of cost 0, .., cost (n - 1)
pub record Attained (n : ℕ) (cost : ℕ → ℕ) (x : ℕ) : Type 0 where
  pub at : ℕ
  pub below : at < n
  pub is : cost at ≡ x

-- below `infinity` the least is one of them
pub least-found : (n : ℕ) (cost : ℕ → ℕ) → least n cost < infinity → Attained n cost (least n cost)
unfolding least
least-found zero cost h = absurd (omega arith)
least-found (suc n) cost h = go (dec_le (least n cost) (cost n)) (least-found n cost)
  where
    go : Dec (least n cost ≤ cost n) → (least n cost < infinity → Attained n cost (least n cost)) → Attained (suc n) cost (min (least n cost) (cost n))
    go (yes l) found =
        let f = found (omega arith) in
        let below = f.below in
        let is = f.is in
        record { at = f.at; below = omega arith; is = omega arith }
    go (no l) found = record { at = n; below = omega arith; is = omega arith }

-- what is at most each of them is at most the least
pub least-over : (n : ℕ) (cost : ℕ → ℕ) (x : ℕ) → x ≤ infinity → ((s : ℕ) → s < n → x ≤ cost s) → x ≤ least n cost
unfolding least
least-over zero cost x h f = h
least-over (suc n) cost x h f = let a = least-over n cost x h (λ s l. f s (omega arith)) in let b = f n (omega arith) in omega arith
