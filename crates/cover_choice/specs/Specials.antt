-- The subsets of the special attributes, as they are chosen one after the other.
use Rattle.std.specs.Prelude.{ℕ, zero, suc, ◌+◌, ◌-◌, ◌≤◌, ◌<◌, ◌≡◌, refl, Bool, List, ◌∷◌, ◌⊎◌, eqb, length, get_or, drop, set, replicate}
use Rattle.std.proofs.Common.{sym, ap, ◌∙◌, inl, inr, eq-or-lt_of_le, arith, length-set, ext_get_or, get_or-set_same, get_or-set_other}
use Rattle.std.specs.Int.Bits.{bit_and}
use Rattle.std.proofs.lemmas.List.{length-replicate}
use Rattle.bits.specs.Lowest.{lowest_from}
use Rattle.bits.specs.Part.{at_head}
use Rattle.set_cover.specs.Remainder.{rest, rest-and, rest-least}
use Rattle.set_cover.specs.Least.{infinity}
use Rattle.set_cover.specs.Cost.{cost}
use Rattle.set_cover.specs.Choice.{picked, best, best_variables, best-next, best-variables}
use Rattle.set_cover.proofs.Cheapest.{special-picked}
use Rattle.set_cover.proofs.BestLaws.{best-least}
use Rattle.cover_rows.specs.Rows.{price_in}
use Rattle.cover_rows.specs.Holding.{Holds, Allows, pick-special}
use Rattle.verdict_answer.specs.Witness.{specials_of}
use Rattle.verdict_answer.specs.WitnessLaws.{specials-none, specials-size, specials-at}

-- all of them are chosen: what the choice goes on with, by the relations that need an attribute yet
pub record SpecialsChosen (N : ℕ) (allowed : ℕ → ℕ → Bool) (subsets : List ℕ) (need : ℕ) : Type 0 where
  pub specials : subsets ≡ specials_of (best N allowed 15 (N - 1))
  pub below : need < N
  pub less : cost N allowed 0 need < infinity
  pub variables : drop 15 (best N allowed 15 (N - 1)) ≡ best_variables N allowed need need

-- those of the attributes below i are
pub record Choosing (N : ℕ) (allowed : ℕ → ℕ → Bool) (i : ℕ) (subsets : List ℕ) (need : ℕ) : Type 0 where
  pub some : 1 ≤ i
  pub most : i ≤ 16
  pub size : length subsets ≡ 16
  pub none : get_or subsets 0 0 ≡ 0
  pub done : (j : ℕ) → j + 1 < i → get_or subsets (j + 1) 0 ≡ get_or (best N allowed 15 (N - 1)) j 0
  pub rests : drop (i - 1) (best N allowed 15 (N - 1)) ≡ best N allowed (16 - i) need
  pub below : need < N
  pub less : cost N allowed (16 - i) need < infinity

module _ (N : ℕ) (allowed : ℕ → ℕ → Bool) (few : N ≤ 256) where
  pub choosing-first : 1 ≤ N → cost N allowed 15 (N - 1) < infinity → Choosing N allowed 1 (replicate 16 0) (N - 1)
  choosing-first some can =
      record {
        some = omega arith;
        most = omega arith;
        size = length-replicate {A = ℕ} 16 0;
        none = refl;
        done = λ j h. absurd (omega arith);
        rests = refl;
        below = omega arith;
        less = can;
      }

  module _ (i : ℕ) (subsets : List ℕ) (need : ℕ) (c : Choosing N allowed i subsets need) where
    pub choosing-ended : 16 ≤ i → SpecialsChosen N allowed subsets need
    choosing-ended past =
        let most = c.most in
        let all : i ≡ 16 = omega arith in
        let long = best-least N allowed few 15 (N - 1) in
        let last = rw all at c.rests in
        record {
          specials =
              ext_get_or 0 subsets (specials_of (best N allowed 15 (N - 1))) (c.size ∙ sym (specials-size (best N allowed 15 (N - 1)) long))
              (λ j h. let size = c.size in each j (omega arith) all);
          below = c.below;
          less = rw all at c.less;
          variables = last ∙ best-variables N allowed need;
        }
      where
        each : (j : ℕ) → j < 16 → i ≡ 16 → get_or subsets j 0 ≡ get_or (specials_of (best N allowed 15 (N - 1))) j 0
        each zero h all = c.none ∙ sym (specials-none (best N allowed 15 (N - 1)))
        each (suc j) h all =
            let next : suc j ≡ j + 1 = omega arith in
            ap (λ (k : ℕ). get_or subsets k 0) next ∙ c.done j (omega arith) ∙ sym (specials-at (best N allowed 15 (N - 1)) j (omega arith))

    -- attribute i: the subset that is picked
    module _ (column next : List ℕ) (target s : ℕ) (inside : i < 16) (allows : Allows N (allowed i) column) (holds : Holds N (cost N allowed (15 - i)) next) (aims : target ≡ cost N allowed (16 - i) need)
        (found : s ≡ lowest_from (N - 0) 0 (λ s. eqb (price_in column next need s) target)) where
      more : suc (15 - i) ≡ 16 - i
      more = omega arith

      own : 15 - (15 - i) ≡ i
      own = let some = c.some in omega arith

      can : cost N allowed (suc (15 - i)) need < infinity
      can = rw more c.less

      is-picked : s ≡ picked N (allowed (15 - (15 - i))) (cost N allowed (15 - i)) need (cost N allowed (suc (15 - i)) need)
      is-picked =
          found
          ∙ pick-special N allowed (15 - i) column next (λ s h. allows s h ∙ ap (λ (j : ℕ). allowed j s) (sym own)) holds need target c.below
          ∙ ap (picked N (allowed (15 - (15 - i))) (cost N allowed (15 - i)) need) (aims ∙ ap (λ (k : ℕ). cost N allowed k need) (sym more))

      pub picked-below : s < N
      picked-below = rw is-picked (special-picked N allowed few (15 - i) need c.below can).below

      rests-next : drop (i - 1) (best N allowed 15 (N - 1)) ≡ s ∷ best N allowed (15 - i) (rest need s)
      rests-next =
          c.rests
          ∙ ap (λ (k : ℕ). best N allowed k need) (sym more)
          ∙ best-next N allowed (15 - i) need s (sym is-picked)

      left_less : cost N allowed (15 - i) (rest need s) < infinity
      left_less =
          let is = (special-picked N allowed few (15 - i) need c.below can).is in
          let total : _ = rw (← is-picked) at is in
          let up_to = can in
          omega arith

      pub choosing-next : (left : ℕ) → left ≡ bit_and need (255 - s) → Choosing N allowed (i + 1) (set subsets i s) left
      choosing-next left is =
          let head = at_head (best N allowed 15 (N - 1)) (i - 1) 0 s (best N allowed (15 - i) (rest need s)) rests-next in
          let some = c.some in
          let left_is : left ≡ rest need s = is ∙ sym (rest-and need s) in
          let least = rest-least need s in
          let below = c.below in
          let place : suc (i - 1) ≡ i + 1 - 1 = omega arith in
          let fewer : 15 - i ≡ 16 - (i + 1) = omega arith in
          rw left_is
          (record {
            some = omega arith;
            most = omega arith;
            size = length-set subsets i s ∙ c.size;
            none = get_or-set_other subsets i 0 s 0 (λ k. omega arith) ∙ c.none;
            done = λ j h. each j (eq-or-lt_of_le (up_to j h)) head.here;
            rests = ap (λ (k : ℕ). drop k (best N allowed 15 (N - 1))) (sym place) ∙ head.rest ∙ ap (λ (k : ℕ). best N allowed k (rest need s)) fewer;
            below = omega arith;
            less = rw (← fewer) left_less;
          })
        where
          up_to : (j : ℕ) → j + 1 < i + 1 → j + 1 ≤ i
          up_to j h = omega arith

          each : (j : ℕ) → (j + 1 ≡ i) ⊎ (j + 1 < i) → get_or (best N allowed 15 (N - 1)) (i - 1) 0 ≡ s → get_or (set subsets i s) (j + 1) 0 ≡ get_or (best N allowed 15 (N - 1)) j 0
          each j (inl same) here =
              let size = c.size in
              let place : j ≡ i - 1 = omega arith in
              ap (λ (k : ℕ). get_or (set subsets i s) k 0) same ∙ get_or-set_same subsets i s 0 (omega arith) ∙ sym (ap (λ (k : ℕ). get_or (best N allowed 15 (N - 1)) k 0) place ∙ here)
          each j (inr before) here = get_or-set_other subsets i (j + 1) s 0 (λ k. omega arith) ∙ c.done j before
