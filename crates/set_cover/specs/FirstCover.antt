-- Where the subsets with the fewest members, one for each special attribute, give every relation an attribute, they are
-- `best`, and no cost is needed (FORMAT 7.26).
use Prim.Native.Nat.{ℕ, zero, suc, ◌+◌, ◌-◌, ◌≤◌, ◌<◌}
use Rattle.std.specs.Prelude.{◌≡◌, refl, length, get_or, []}
use Rattle.std.proofs.Math.Path.{ap}
use Rattle.std.proofs.Common.{◌∙◌, le_of_suc-le-suc, arith}
use mathlib.Core.List.{List, ◌∷◌}

-- those of the last k special attributes
abbrev pub firsts : (ℕ → ℕ) → ℕ → List ℕ
firsts subset zero = []
firsts subset (suc k) = subset (15 - k) ∷ firsts subset k

-- as a list by attribute, 1 to 15
module _ (subset : ℕ → ℕ) where
  pub firsts-length : (k : ℕ) → length (firsts subset k) ≡ k
  firsts-length zero = refl
  firsts-length (suc k) = ap suc (firsts-length k)

  pub firsts-entry : (k i : ℕ) → k ≤ 15 → i < k → get_or (firsts subset k) i 0 ≡ subset (16 - k + i)
  firsts-entry zero i h l = absurd (omega arith)
  firsts-entry (suc k) zero h l = ap subset (omega arith)
  firsts-entry (suc k) (suc i) h l = firsts-entry k i (omega arith) (le_of_suc-le-suc l) ∙ ap subset (omega arith)
