-- The list `best`: how long it is, and what its entries are.
use Prim.Native.Nat.{ℕ, zero, suc, ◌+◌, ◌-◌, ◌≤◌, ◌<◌}
use Rattle.std.specs.Prelude.{◌≡◌, Bool, true, List, ◌∷◌, get_or, drop, []}
use Rattle.std.proofs.Common.{ap, ◌∙◌, le_of_suc-le-suc}
use native.Mathlib.Omega.{arith}
use Rattle.std.proofs.Math.ListN.{length}
use Rattle.states.specs.Formula.{type_variable}
use Rattle.set_cover.specs.Choice.{Chosen}
use Rattle.set_cover.specs.Covered.{EachBelow}

-- ---- what a choice is

module _ (N : ℕ) (allowed : ℕ → ℕ → Bool) where
  -- its entry i is allowed in the column of special attribute i of the last k
  pub chosen-special : (k : ℕ) (xs : List ℕ) → k ≤ 15 → Chosen N allowed k xs → (i : ℕ) → i < k → allowed (16 - k + i) (get_or xs i 0) ≡ true
  chosen-special zero xs h c i l = absurd (omega arith)
  chosen-special (suc k) [] h c i l = absurd c
  chosen-special (suc k) (s ∷ xs) h c zero l =
      let here : 16 - suc k + 0 ≡ 15 - k = omega arith in
      ap (λ (j : ℕ). allowed j s) here ∙ c.1
  chosen-special (suc k) (s ∷ xs) h c (suc i) l =
      let there : 16 - suc k + suc i ≡ 16 - k + i = omega arith in
      ap (λ (j : ℕ). allowed j (get_or xs i 0)) there ∙ chosen-special k xs (omega arith) c.2 i (le_of_suc-le-suc l)

  -- the later ones are variables
  pub chosen-variable : (k : ℕ) (xs : List ℕ) → Chosen N allowed k xs → (i : ℕ) → i < length (drop k xs) → type_variable (allowed 0) (get_or (drop k xs) i 0) ≡ true
  chosen-variable zero [] c i l = absurd (omega arith)
  chosen-variable zero (v ∷ xs) c zero l = c.1
  chosen-variable zero (v ∷ xs) c (suc i) l = chosen-variable zero xs c.2 i (le_of_suc-le-suc l)
  chosen-variable (suc k) [] c i l = absurd c
  chosen-variable (suc k) (s ∷ xs) c i l = chosen-variable k xs c.2 i l

-- an entry of a list of numbers below N
pub each-entry : (N : ℕ) → 0 < N → (xs : List ℕ) → EachBelow N xs → (i : ℕ) → get_or xs i 0 < N
each-entry N some [] below i = some
each-entry N some (x ∷ xs) below zero = below.0
each-entry N some (x ∷ xs) below (suc i) = each-entry N some xs below.1 i
