-- Where the first subsets of the special attributes already give every relation an attribute: they are the choice.
use Rattle.std.specs.Prelude.{ℕ, ◌-◌, ◌^◌, ◌≤◌, ◌<◌, ◌≡◌, Bool, []}
use Rattle.std.proofs.Math.Path.{refl, sym, ap}
use Rattle.std.proofs.Common.{◌∙◌, arith, take_all, pow_mono}
use mathlib.Core.List.{List, ◌∷◌}
use Rattle.std.proofs.Math.Arith.{lt_of_le-ne}
use Rattle.std.proofs.Math.ListN.{take}
use Rattle.std.proofs.Math.Pow.{ones_lt}
use Rattle.std.proofs.lemmas.Bool.{eqb-false}
use Rattle.set_cover.specs.Choice.{uncovered}
use Rattle.set_cover.specs.FirstCover.{firsts, firsts-length}
use Rattle.set_cover.proofs.FirstCover.{FewestMembers, firsts-best, firsts-cost}
use Rattle.verdict_answer.specs.First.{first_in, blocked_in, chosen_by}
use Rattle.verdict_answer.proofs.FewestLaws.{fewest-in}
use Rattle.verdict_answer.specs.FirstLaws.{blocked-lowest}
use Rattle.verdict_answer.specs.Formed.{Formed}
use Rattle.verdict_answer.specs.Witness.{cost_in, choice_in, specials_of, ordinaries_of}
use Rattle.verdict_answer.specs.FirstChoice.{chosen-firsts, memberships-weight, memberships_of}

-- ---- they have the fewest members

module _ (m : ℕ) (few : m ≤ 8) (allowed : ℕ → ℕ → Bool) (formed : Formed m allowed) (none : 16 ≤ blocked_in allowed) where
  fewest-first : (i : ℕ) → 1 ≤ i → i ≤ 15 → FewestMembers (2 ^ m) (allowed i) (first_in allowed i)
  fewest-first i some most =
      let found = fewest-in (allowed i) in
      let open-column = eqb-false (first_in allowed i) 256 ((blocked-lowest (first_in allowed)).before i some (omega arith)) in
      let small : first_in allowed i < 256 = lt_of_le-ne found.found.up_to open-column in
      let is = found.found.passes small in
      let subsets : 2 ^ m ≤ 256 = pow_mono {j = 8} few in
      record {
        below = formed.below i (first_in allowed i) (omega arith) small is;
        is_allowed = is;
        fewest = λ y less ok. let before = (found.least y (omega arith) ok).1 in omega arith;
        lowest = λ y less ok same. let before = (found.least y (omega arith) ok).1 in omega arith;
      }

  -- what the code finds out: no relation is left
  module _ (covers : uncovered (2 ^ m - 1) (firsts (first_in allowed) 15) ≡ 0) where
    subsets-few : 2 ^ m ≤ 256
    subsets-few = pow_mono {j = 8} few

    is-firsts : choice_in m allowed ≡ firsts (first_in allowed) 15
    is-firsts = firsts-best (2 ^ m) allowed subsets-few (first_in allowed) fewest-first 15 (2 ^ m - 1) (omega arith) (ones_lt m) covers

    pub covers-cost : cost_in m allowed ≡ memberships_of (chosen_by (first_in allowed))
    covers-cost =
        firsts-cost (2 ^ m) allowed subsets-few (first_in allowed) fewest-first 15 (2 ^ m - 1) (omega arith) (ones_lt m) covers
        ∙ sym (ap memberships_of (chosen-firsts (first_in allowed) none) ∙ memberships-weight (firsts (first_in allowed) 15) (firsts-length (first_in allowed) 15))

    pub covers-specials : specials_of (choice_in m allowed) ≡ chosen_by (first_in allowed)
    unfolding specials_of
    covers-specials =
        let size = firsts-length (first_in allowed) 15 in
        ap (λ (l : List ℕ). 0 ∷ take 15 l) is-firsts
        ∙ ap (λ (l : List ℕ). 0 ∷ l) (take_all 15 (firsts (first_in allowed) 15) (omega arith))
        ∙ sym (chosen-firsts (first_in allowed) none)

    pub covers-ordinaries : ordinaries_of (choice_in m allowed) ≡ []
    unfolding ordinaries_of
    covers-ordinaries = ap (λ (l : List ℕ). ordinaries_of l) is-firsts ∙ refl
