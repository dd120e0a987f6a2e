-- Where the first subsets of the special attributes already give every relation an attribute: they are the choice.
use Rattle.std.specs.Prelude.{ℕ, zero, suc, ◌+◌, ◌-◌, ◌≤◌, ◌<◌, ◌≡◌, length, get_or}
use Rattle.std.proofs.Math.Path.{refl, sym, ap}
use Rattle.std.proofs.Common.{ap₂, ◌∙◌, arith, ext_get_or}
use mathlib.Core.List.{List, ◌∷◌}
use Rattle.bits.specs.Total.{total, total-front, total-most, total-each}
use Rattle.types.specs.Memberships.{members, members-none, members-most}
use Rattle.set_cover.specs.Choice.{weight, weight-total}
use Rattle.set_cover.specs.FirstCover.{firsts, firsts-length, firsts-entry}
use Rattle.verdict_answer.specs.First.{blocked_by, chosen_by}
use Rattle.verdict_answer.specs.FirstLaws.{chosen-size, chosen_none, chosen-special}

-- FORMAT 7.8: the memberships of subsets of 16 attributes
unfoldable pub memberships_of : List ℕ → ℕ
memberships_of subsets = total 16 (λ i. members (get_or subsets i 0))

pub memberships-of : (subsets : List ℕ) → memberships_of subsets ≡ total 16 (λ i. members (get_or subsets i 0))
unfolding memberships_of
memberships-of subsets = refl

-- at most 8 for each
pub memberships-few : (subsets : List ℕ) → memberships_of subsets ≤ 128
memberships-few subsets =
    let most = total-most 16 (λ i. members (get_or subsets i 0)) (λ i. 8) (λ i h. members-most (get_or subsets i 0)) in
    let all = total-each 16 8 in
    rw (memberships-of subsets) (omega arith)

-- of 15 special attributes
pub memberships-weight : (xs : List ℕ) → length xs ≡ 15 → memberships_of (0 ∷ xs) ≡ weight xs
memberships-weight xs size =
    memberships-of (0 ∷ xs)
    ∙ total-front 15 (λ i. members (get_or (0 ∷ xs) i 0))
    ∙ ap₂ ◌+◌ members-none (sym (ap (λ (n : ℕ). total n (λ i. members (get_or xs i 0))) size) ∙ sym (weight-total xs))
    ∙ omega arith

module _ (first : ℕ → ℕ) where
  -- where no column is blocked, they are what was chosen
  pub chosen-firsts : 16 ≤ blocked_by first → chosen_by first ≡ 0 ∷ firsts first 15
  chosen-firsts none =
      let size = firsts-length first 15 in
      ext_get_or 0 (chosen_by first) (0 ∷ firsts first 15) (chosen-size first ∙ sym (ap suc size)) (λ i h. each i (let all = chosen-size first in omega arith))
    where
      each : (i : ℕ) → i < 16 → get_or (chosen_by first) i 0 ≡ get_or (0 ∷ firsts first 15) i 0
      each zero h = chosen_none first
      each (suc i) h = chosen-special first (suc i) none (omega arith) h ∙ sym (firsts-entry first 15 i (omega arith) (omega arith) ∙ ap first (let same : 16 - 15 + i ≡ suc i = omega arith in same))
