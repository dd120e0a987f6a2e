-- Search for a number below a bound that passes a test.
use Rattle.std.specs.Prelude.{ℕ, ◌<◌, Bool, true, false, T}
use Rattle.std.proofs.Math.Decide.{dec_lt}
use Rattle.std.proofs.Common.{arith}
use Rattle.bits.specs.Truth.{by-true, by-false}
use Rattle.bits.specs.Lowest.{lowest_from, lowest-is}

-- what a search below n finds: a number that passes the test, or that none does
pub data Below (n : ℕ) (test : ℕ → Bool) : Type 0 where
  found : (s : ℕ) → s < n → T (test s) → Below n test
  missing : ((s : ℕ) → s < n → T (test s) → ⊥) → Below n test

-- the lowest that passes
pub search-below : (n : ℕ) (test : ℕ → Bool) → Below n test
search-below n test = go (dec_lt (lowest_from n 0 test) n)
  where
    go : Dec (lowest_from n 0 test < n) → Below n test
    go (yes h) = found (lowest_from n 0 test) h (by-true ((lowest-is n 0 test).passes (omega arith)))
    go (no h) = missing λ s below t. by-false ((lowest-is n 0 test).before s (omega arith) (omega arith)) t

-- ---- what a search found, as a number and a test

-- the number found, or 0
abbrev pub taken : {n : ℕ} {test : ℕ → Bool} → Below n test → ℕ
taken (found s h t) = s
taken (missing f) = 0

-- whether there is one
abbrev pub is_found : {n : ℕ} {test : ℕ → Bool} → Below n test → Bool
is_found (found s h t) = true
is_found (missing f) = false

pub found-taken : {n : ℕ} {test : ℕ → Bool} (b : Below n test) → T (is_found b) → (taken b < n) × T (test (taken b))
found-taken (found s h t) k = (h, t)
found-taken (missing f) k = absurd k

pub found_none : {n : ℕ} {test : ℕ → Bool} (b : Below n test) → (T (is_found b) → ⊥) → (s : ℕ) → s < n → T (test s) → ⊥
found_none (found s h t) k = absurd (k tt)
found_none (missing f) k = f
