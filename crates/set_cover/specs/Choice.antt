-- Choices: a subset for each special attribute, then a list of variables; and the one that Verdict takes (FORMAT 7.26).
use Prim.Native.Nat.{ℕ, zero, suc, ◌+◌, ◌-◌, ◌<◌}
use Rattle.std.specs.Prelude.{◌≡◌, Bool, true, false, List, [], ◌∷◌, ◌⊎◌, eqb, length, get_or}
use Rattle.std.proofs.Math.Path.{refl, ap}
use Rattle.std.proofs.Common.{sym, ◌∙◌, arith, eq-eqb, ne_eqb}
use Rattle.bits.specs.Lowest.{lowest_from}
use Rattle.bits.specs.Total.{total, total-none, total-front}
use Rattle.types.specs.Memberships.{members}
use Rattle.states.specs.Formula.{type_variable}
use Rattle.set_cover.specs.Remainder.{rest}
use Rattle.set_cover.specs.Cost.{price, cost}

-- allowed subsets for the last k special attributes, and then any number of variables, in any order, also twice
abbrev pub Chosen : ℕ → (ℕ → ℕ → Bool) → ℕ → List ℕ → Type 0
Chosen N allowed zero [] = Unit {0}
Chosen N allowed zero (v ∷ xs) = (v < N) × (type_variable (allowed 0) v ≡ true) × Chosen N allowed zero xs
Chosen N allowed (suc k) [] = ⊥
Chosen N allowed (suc k) (s ∷ xs) = (s < N) × (allowed (15 - k) s ≡ true) × Chosen N allowed k xs

-- how many members they have together
abbrev pub weight : List ℕ → ℕ
weight [] = 0
weight (s ∷ xs) = members s + weight xs

-- place by place
pub weight-total : (xs : List ℕ) → weight xs ≡ total (length xs) (λ i. members (get_or xs i 0))
weight-total [] = sym (total-none (λ i. members 0))
weight-total (x ∷ xs) = ap (λ (n : ℕ). members x + n) (weight-total xs) ∙ sym (total-front (length xs) (λ i. members (get_or (x ∷ xs) i 0)))

-- the relations of `need` that are in none of them
abbrev pub uncovered : ℕ → List ℕ → ℕ
uncovered need [] = need
uncovered need (s ∷ xs) = uncovered (rest need s) xs

-- lower at the first difference, or the same as far as it goes
abbrev pub NotAbove : List ℕ → List ℕ → Type 0
NotAbove [] ys = Unit {0}
NotAbove (x ∷ xs) [] = ⊥
NotAbove (x ∷ xs) (y ∷ ys) = (x < y) ⊎ ((x ≡ y) × NotAbove xs ys)

-- the lowest subset that costs as much as is said; N where none does
unfoldable pub picked : ℕ → (ℕ → Bool) → (ℕ → ℕ) → ℕ → ℕ → ℕ
picked N ok next need target = lowest_from N 0 (λ s. eqb (price ok next need s) target)

-- the variables, at most `more`: while a relation needs an attribute, the lowest that costs no more than it must
unfoldable pub best_variables : ℕ → (ℕ → ℕ → Bool) → ℕ → ℕ → List ℕ
best_variables N allowed zero need = []
best_variables N allowed (suc more) need =
    elim (eqb need 0) [
      | true ↦ []
      | false ↦ let v = picked N (type_variable (allowed 0)) (cost N allowed 0) need (cost N allowed 0 need) in v ∷ best_variables N allowed more (rest need v)
    ]

-- the choice: for each of the last k special attributes the lowest subset that costs no more than it must, and then the
-- variables
unfoldable pub best : ℕ → (ℕ → ℕ → Bool) → ℕ → ℕ → List ℕ
best N allowed zero need = best_variables N allowed need need
best N allowed (suc k) need =
    let s = picked N (allowed (15 - k)) (cost N allowed k) need (cost N allowed (suc k) need) in
    s ∷ best N allowed k (rest need s)

-- ---- laws

pub picked-lowest : (N : ℕ) (ok : ℕ → Bool) (next : ℕ → ℕ) (need target : ℕ) → picked N ok next need target ≡ lowest_from N 0 (λ s. eqb (price ok next need s) target)
unfolding picked
picked-lowest N ok next need target = refl

-- no variable where nothing is needed
abbrev unless_none : Bool → List ℕ → List ℕ
unless_none b xs = elim b [ true ↦ [] | false ↦ xs ]

module _ (N : ℕ) (allowed : ℕ → ℕ → Bool) where
  -- the variable that is picked first
  abbrev pub picked_variable : ℕ → ℕ
  picked_variable need = picked N (type_variable (allowed 0)) (cost N allowed 0) need (cost N allowed 0 need)

  pub no-variables : (more need : ℕ) → need ≡ 0 → best_variables N allowed more need ≡ []
  unfolding best_variables
  no-variables zero need e = refl
  no-variables (suc more) need e = ap (λ (b : Bool). unless_none b (picked_variable need ∷ best_variables N allowed more (rest need (picked_variable need)))) (eq-eqb need 0 e)

  pub variables-step : (more need : ℕ) → 0 < need → best_variables N allowed (suc more) need ≡ picked_variable need ∷ best_variables N allowed more (rest need (picked_variable need))
  unfolding best_variables
  variables-step more need some =
      ap (λ (b : Bool). unless_none b (picked_variable need ∷ best_variables N allowed more (rest need (picked_variable need)))) (ne_eqb need 0 (λ z. omega arith))

  pub best-variables : (need : ℕ) → best N allowed 0 need ≡ best_variables N allowed need need
  unfolding best
  best-variables need = refl

  pub best-next :
      (k need s : ℕ)
      → picked N (allowed (15 - k)) (cost N allowed k) need (cost N allowed (suc k) need) ≡ s
      → best N allowed (suc k) need ≡ s ∷ best N allowed k (rest need s)
  unfolding best
  best-next k need s e = ap (λ (x : ℕ). x ∷ best N allowed k (rest need x)) e
