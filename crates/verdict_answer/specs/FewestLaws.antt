-- Laws of the first subset that passes a test: the one with the fewest members, of those the lowest.
use Rattle.std.specs.Prelude.{ℕ, ◌+◌, ◌*◌, ◌≤◌, ◌<◌, ◌≡◌, Bool, true, false, ◌&&◌}
use Rattle.std.proofs.Math.Path.{ap}
use Rattle.std.proofs.Common.{◌∙◌, arith}
use Rattle.std.proofs.Math.Decide.{dec_lt}
use Rattle.std.proofs.Math.Dec.{eqb, ltb}
use Rattle.bits.specs.Lowest.{lowest_from, Lowest, lowest-is, lowest-same}
use Rattle.types.specs.Memberships.{members}
use Rattle.verdict_answer.specs.First.{lowest_in, lowest_with, fewest_in}

-- x is a subset that passes; or it is 256, and none passes
pub record Found (test : ℕ → Bool) (x : ℕ) : Type 0 where
  pub up_to : x ≤ 256
  pub passes : x < 256 → test x ≡ true
  pub none : 256 ≤ x → (s : ℕ) → s < 256 → test s ≡ false

-- subsets in their order: by their members, and then by their numbers
abbrev pub rank : ℕ → ℕ
rank s = members s * 256 + s

-- none that passes comes before it
pub record Fewest (test : ℕ → Bool) (x : ℕ) : Type 0 where
  pub found : Found test x
  pub least : (s : ℕ) → s < 256 → test s ≡ true → (x < 256) × (rank x ≤ rank s)

-- ---- there is one

pub fewest-once : (test : ℕ → Bool) (x y : ℕ) → Fewest test x → Fewest test y → x ≡ y
fewest-once test x y f g = go (dec_lt x 256) (dec_lt y 256)
  where
    go : Dec (x < 256) → Dec (y < 256) → x ≡ y
    go (yes h) (yes k) =
        let one = f.least y k (g.found.passes k) in
        let other = g.least x h (f.found.passes h) in
        omega (arith, one, other)
    go (yes h) (no k) = let less = g.least x h (f.found.passes h) in omega (arith, less)
    go (no h) (yes k) = let less = f.least y k (g.found.passes k) in omega (arith, less)
    go (no h) (no k) =
        let one = f.found.up_to in
        let other = g.found.up_to in
        omega arith

-- ---- by number

pub lowest-in : (test : ℕ → Bool) → Lowest 256 0 test (lowest_in test)
lowest-in test = lowest-is 256 0 test

-- ---- what it is used for

-- tests that agree on the subsets find the same
module _ (f g : ℕ → Bool) (same : (s : ℕ) → s < 256 → f s ≡ g s) where
  same-with : (n : ℕ) → lowest_with n f ≡ lowest_with n g
  unfolding lowest_with
  same-with n = lowest-same 256 0 (λ s. eqb (members s) n && f s) (λ s. eqb (members s) n && g s) (λ s from below. ap (λ (t : Bool). eqb (members s) n && t) (same s below))

  pub first-same : fewest_in f ≡ fewest_in g
  unfolding fewest_in
  first-same =
      ap (λ (n : ℕ). lowest_with n f) (lowest-same 9 0 (λ n. ltb (lowest_with n f) 256) (λ n. ltb (lowest_with n g) 256) (λ n from below. ap (λ (s : ℕ). ltb s 256) (same-with n)))
      ∙ same-with (lowest_from 9 0 (λ n. ltb (lowest_with n g) 256))
