-- A test at each number below a bound.
use Rattle.std.specs.Prelude.{ℕ, zero, suc, ◌+◌, ◌<◌, ◌≡◌, refl, Bool, true, false, ◌&&◌, ◌⊎◌}
use Rattle.std.proofs.Common.{sym, ap, ap₂, ◌∙◌, true≢false, inl, inr, eq-or-lt_of_le, le_of_suc-le-suc, add-one, arith}
use Rattle.std.proofs.Math.Bool.{and-eq-true_iff}

-- the test holds at every number below n
abbrev pub all_below : ℕ → (ℕ → Bool) → Bool
all_below zero test = true
all_below (suc n) test = test n && all_below n test

-- one number more
pub all-next : (n : ℕ) (test : ℕ → Bool) → all_below n test ≡ true → test n ≡ true → all_below (n + 1) test ≡ true
all-next n test h e = rw (add-one n, e) h

pub in_all : (n : ℕ) (test : ℕ → Bool) → ((i : ℕ) → i < n → test i ≡ true) → all_below n test ≡ true
in_all zero test h = refl
in_all (suc n) test h = rw (h n (omega arith)) (in_all n test (λ i l. h i (omega arith)))

pub all_in : (n : ℕ) (test : ℕ → Bool) → all_below n test ≡ true → (i : ℕ) → i < n → test i ≡ true
all_in zero test h i l = absurd (omega arith)
all_in (suc n) test h i l = go (eq-or-lt_of_le (le_of_suc-le-suc l)) (all_in n test both.1 i)
  where
    both : (test n ≡ true) × (all_below n test ≡ true)
    both = (and-eq-true_iff (test n) (all_below n test)).0 h

    go : (i ≡ n) ⊎ (i < n) → (i < n → test i ≡ true) → test i ≡ true
    go (inl e) rest = ap test e ∙ both.0
    go (inr below) rest = rest below

-- one that fails
pub not-all : (n : ℕ) (test : ℕ → Bool) (i : ℕ) → i < n → test i ≡ false → all_below n test ≡ false
not-all n test i l e = go (all_below n test) refl
  where
    go : (t : Bool) → all_below n test ≡ t → t ≡ false
    go true h = sym (all_in n test h i l) ∙ e
    go false h = refl

-- one that fails, where not all pass
pub all-fails : (n : ℕ) (test : ℕ → Bool) → all_below n test ≡ false → (i : ℕ) × ((i < n) × (test i ≡ false))
all-fails zero test h = absurd (true≢false h)
all-fails (suc n) test h = go (test n) refl (all-fails n test) h
  where
    go : (t : Bool) → test n ≡ t → (all_below n test ≡ false → (i : ℕ) × ((i < n) × (test i ≡ false))) → t && all_below n test ≡ false → (i : ℕ) × ((i < suc n) × (test i ≡ false))
    go true e rest h = let found = rest h in let less = found.1.0 in (found.0, (omega arith, found.1.1))
    go false e rest h = (n, (omega arith, e))

-- two tests that agree below the bound
pub all_same : (n : ℕ) (f g : ℕ → Bool) → ((i : ℕ) → i < n → f i ≡ g i) → all_below n f ≡ all_below n g
all_same zero f g e = refl
all_same (suc n) f g e = ap₂ ◌&&◌ (e n (omega arith)) (all_same n f g (λ i h. e i (omega arith)))
