-- Where the subsets with the fewest members, one for each special attribute, give every relation an attribute, they are
-- `best`, and no cost is needed (FORMAT 7.26).
use Prim.Native.Nat.{ℕ, zero, suc, ◌-◌, ◌*◌, ◌≤◌, ◌<◌}
use Rattle.std.specs.Prelude.{◌≡◌, Bool, true}
use Rattle.std.proofs.Math.Path.{ap, ap₂}
use Rattle.std.proofs.Common.{◌∙◌, arith}
use mathlib.Core.List.{◌∷◌}
use Rattle.std.proofs.Math.Nat.{le_antisymm}
use Rattle.types.specs.Memberships.{members, members-most}
use Rattle.set_cover.specs.Remainder.{rest, rest-least}
use Rattle.set_cover.specs.Least.{least, least-over}
use Rattle.set_cover.specs.Cost.{price, cost, cost-next}
use Rattle.set_cover.specs.Choice.{Chosen, weight, uncovered, picked, best, best_variables}
use Rattle.set_cover.proofs.Cheapest.{fewest, special-picked}
use Rattle.set_cover.specs.Shortcuts.{price-over}
use Rattle.set_cover.specs.FirstCover.{firsts}

-- FORMAT 7.8: of the allowed subsets with the fewest members the lowest
pub record FewestMembers (N : ℕ) (ok : ℕ → Bool) (x : ℕ) : Type 0 where
  pub below : x < N
  pub is_allowed : ok x ≡ true
  pub fewest : (y : ℕ) → y < N → ok y ≡ true → members x ≤ members y
  pub lowest : (y : ℕ) → y < N → ok y ≡ true → members y ≡ members x → x ≤ y

module _ (N : ℕ) (allowed : ℕ → ℕ → Bool) (few : N ≤ 256) (subset : ℕ → ℕ) (first : (i : ℕ) → 1 ≤ i → i ≤ 15 → FewestMembers N (allowed i) (subset i)) where
  at : (k : ℕ) → suc k ≤ 15 → FewestMembers N (allowed (15 - k)) (subset (15 - k))
  at k h = first (15 - k) (omega arith) (omega arith)

  firsts-chosen : (k : ℕ) → k ≤ 15 → Chosen N allowed k (firsts subset k)
  firsts-chosen zero h = tt
  firsts-chosen (suc k) h = ((at k h).below, (at k h).is_allowed, firsts-chosen k (omega arith))

  firsts-most : (k : ℕ) → weight (firsts subset k) ≤ 8 * k
  firsts-most zero = omega arith
  firsts-most (suc k) = let m = members-most (subset (15 - k)) in let o = firsts-most k in omega arith

  -- no choice has fewer members, whatever it covers
  pub firsts-fewest : (k need : ℕ) → k ≤ 15 → need < N → weight (firsts subset k) ≤ cost N allowed k need
  firsts-fewest zero need h below = omega arith
  firsts-fewest (suc k) need h below =
      let is = cost-next N allowed k need below in
      let most = firsts-most (suc k) in
      let f = at k h in
      let over : weight (firsts subset (suc k)) ≤ least N (price (allowed (15 - k)) (cost N allowed k) need) =
      least-over N _ (weight (firsts subset (suc k))) (omega arith)
      (λ s l. price-over (allowed (15 - k)) (cost N allowed k) need s (weight (firsts subset (suc k))) (omega arith)
      (λ e. let r = rest-least need s in let here = f.fewest s l e in let others = firsts-fewest k (rest need s) (omega arith) (omega arith) in omega arith))
      in
      omega arith

  pub firsts-cost : (k need : ℕ) → k ≤ 15 → need < N → uncovered need (firsts subset k) ≡ 0 → cost N allowed k need ≡ weight (firsts subset k)
  firsts-cost k need h below covers = le_antisymm (fewest N allowed few k (firsts subset k) need below (firsts-chosen k h) covers) (firsts-fewest k need h below)

  -- where they cover, they are `best`, and there are no variables
  pub firsts-best : (k need : ℕ) → k ≤ 15 → need < N → uncovered need (firsts subset k) ≡ 0 → best N allowed k need ≡ firsts subset k
  unfolding best best_variables
  firsts-best zero need h below covers = ap (λ (n : ℕ). best_variables N allowed n n) covers
  firsts-best (suc k) need h below covers =
      let f = at k h in
      let s = subset (15 - k) in
      let r = rest-least need s in
      let is = firsts-cost (suc k) need h below covers in
      let others = firsts-cost k (rest need s) (omega arith) (omega arith) covers in
      let most = firsts-most (suc k) in
      let p = special-picked N allowed few k need below (omega arith) in
      let x = picked N (allowed (15 - k)) (cost N allowed k) need (cost N allowed (suc k) need) in
      let rx = rest-least need x in
      let px = p.is in
      let sx = f.fewest x p.below p.is_allowed in
      let lower = firsts-fewest k (rest need x) (omega arith) (omega arith) in
      let up : x ≤ s = p.lowest s f.below f.is_allowed (omega arith) in
      let down : s ≤ x = f.lowest x p.below p.is_allowed (omega arith) in
      let same : x ≡ s = le_antisymm up down in
      ap₂ ◌∷◌ same (ap (λ (y : ℕ). best N allowed k (rest need y)) same ∙ firsts-best k (rest need s) (omega arith) (omega arith) covers)
