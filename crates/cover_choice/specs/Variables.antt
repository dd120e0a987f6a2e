-- The variables, as they are chosen one after the other, each with the next ordinary attribute.
use Rattle.std.specs.Prelude.{ℕ, zero, suc, ◌+◌, ◌-◌, ◌^◌, ◌≤◌, ◌<◌, ◌≡◌, Bool, List, [], ◌∷◌, ◌⊎◌, eqb, length, get_or, take, drop, set}
use Rattle.std.proofs.Common.{sym, ap, ◌∙◌, inl, inr, ⊎_elim, eq-or-lt_of_le, eq-zero-or-pos, add-one, arith, length-set, length-drop, ext_get_or, get_or-take, length-take-le, get_or-set_same, get_or-set_other}
use Rattle.std.specs.Int.Bits.{bit_and}
use Rattle.bits.specs.Lowest.{lowest_from}
use Rattle.bits.specs.Part.{at_head}
use Rattle.types.specs.Memberships.{members, members-most, members-some}
use Rattle.states.specs.Formula.{type_variable}
use Rattle.membership.specs.Entries.{entry}
use Rattle.membership.specs.Holders.{ItemsFit}
use Rattle.set_cover.specs.Remainder.{rest, rest-and, rest-fewer}
use Rattle.set_cover.specs.Least.{infinity}
use Rattle.set_cover.specs.Cost.{cost}
use Rattle.set_cover.specs.Choice.{picked, best_variables, picked_variable, variables-step, no-variables}
use Rattle.set_cover.proofs.Cheapest.{variable-picked, takes}
use Rattle.cover_rows.specs.Rows.{price_in}
use Rattle.cover_rows.specs.Holding.{Holds, Allows, pick-variable}
use Rattle.verdict_answer.specs.Witness.{choice_in, numbered, ordinaries_of}
use Rattle.verdict_answer.specs.WitnessLaws.{numbered-length, ordinaries-are}

-- n of them are chosen; `all` are the relations that needed an attribute before, `need` those that need one yet
pub record Numbering (N : ℕ) (allowed : ℕ → ℕ → Bool) (all n : ℕ) (items : List ℕ) (need : ℕ) : Type 0 where
  pub size : length items ≡ 8
  pub done : (j : ℕ) → j < n → (get_or items j 0 ≡ entry (16 + j) (get_or (best_variables N allowed all all) j 0)) × (get_or (best_variables N allowed all all) j 0 < 256)
  pub long : n ≤ length (best_variables N allowed all all)
  pub rests : drop n (best_variables N allowed all all) ≡ best_variables N allowed (all - n) need
  pub fuel : need + n ≤ all
  pub fit : members need + n ≤ 8
  pub below : need < N
  pub less : cost N allowed 0 need < infinity

numbered-at : (a : ℕ) (vs : List ℕ) (j : ℕ) → j < length vs → get_or (numbered a vs) j 0 ≡ entry (a + j) (get_or vs j 0)
numbered-at a [] j h = absurd (omega arith)
numbered-at a (v ∷ vs) zero h = let same : a ≡ a + 0 = omega arith in ap (λ (b : ℕ). entry b v) same
numbered-at a (v ∷ vs) (suc j) h =
    let next : a + 1 + j ≡ a + suc j = omega arith in
    numbered-at (a + 1) vs j (omega arith) ∙ ap (λ (b : ℕ). entry b (get_or vs j 0)) next

module _ (N : ℕ) (allowed : ℕ → ℕ → Bool) (few : N ≤ 256) (all : ℕ) where
  pub numbering-first : (items : List ℕ) → length items ≡ 8 → all < N → cost N allowed 0 all < infinity → Numbering N allowed all 0 items all
  numbering-first items size below can =
      record {
        size = size;
        done = λ j h. absurd (omega arith);
        long = omega arith;
        rests = ap (λ (k : ℕ). best_variables N allowed k all) (let same : all ≡ all - 0 = omega arith in same);
        fuel = omega arith;
        fit = let most = members-most all in omega arith;
        below = below;
        less = can;
      }

  module _ (n : ℕ) (items : List ℕ) (need : ℕ) (c : Numbering N allowed all n items need) where
    -- no relation needs one: the entries are those of all variables
    pub numbering-ended : need ≡ 0 → (n ≤ 8) × ItemsFit items n × (take n items ≡ numbered 16 (best_variables N allowed all all))
    numbering-ended none =
        let ended : drop n (best_variables N allowed all all) ≡ [] = c.rests ∙ no-variables N allowed (all - n) need none in
        let left = length-drop n (best_variables N allowed all all) in
        let empty = ap length ended in
        let up_to = c.long in
        let whole : length (best_variables N allowed all all) ≡ n = omega arith in
        let size = c.size in
        let fit = c.fit in
        let number = numbered-length 16 (best_variables N allowed all all) in
        let taken = length-take-le n items (omega arith) in (
          omega arith,
          record { enough = omega arith; below = λ j h. let is = c.done j h in let value = is.0 in let small = is.1 in omega arith },
          ext_get_or 0 (take n items) (numbered 16 (best_variables N allowed all all)) (omega arith)
              (λ j h. let inside : j < n = omega arith in get_or-take n items j 0 inside ∙ (c.done j inside).0 ∙ sym (numbered-at 16 (best_variables N allowed all all) j (omega arith))),
        )

    -- one needs one: the variable that is picked
    module _ (other : need ≡ 0 → ⊥) where
      some : 1 ≤ need
      some = ⊎_elim (λ e. absurd (other e)) (λ h. h) (eq-zero-or-pos need)

      pub room : n < length items
      room =
          let size = c.size in
          let below = c.below in
          let one = members-some need (omega arith) some in
          let fit = c.fit in
          omega arith

      module _ (column next : List ℕ) (target v : ℕ) (allows : Allows N (allowed 0) column) (holds : Holds N (cost N allowed 0) next) (aims : target ≡ cost N allowed 0 need)
          (found : v ≡ lowest_from (N - 1) 1 (λ s. eqb (price_in column next need s) target)) where
        is-picked : v ≡ picked_variable N allowed need
        is-picked =
            let less = c.less in
            found
            ∙ pick-variable N allowed column next allows holds need target c.below (rw aims less)
            ∙ ap (picked N (type_variable (allowed 0)) (cost N allowed 0) need) aims

        pub variable-below : v < N
        variable-below = rw is-picked (variable-picked N allowed few need some c.below c.less).below

        pub numbering-next : (left item : ℕ) → left ≡ bit_and need (255 - v) → item ≡ entry (16 + n) v → Numbering N allowed all (n + 1) (set items n item) left
        numbering-next left item is value =
            let p = variable-picked N allowed few need some c.below c.less in
            let fuel = c.fuel in
            let more : all - n ≡ suc (all - (n + 1)) = omega arith in
            let rests : drop n (best_variables N allowed all all) ≡ v ∷ best_variables N allowed (all - (n + 1)) (rest need v) =
            c.rests
            ∙ ap (λ (k : ℕ). best_variables N allowed k need) more
            ∙ variables-step N allowed (all - (n + 1)) need some
            ∙ ap (λ (x : ℕ). x ∷ best_variables N allowed (all - (n + 1)) (rest need x)) (sym is-picked) in
            let head = at_head (best_variables N allowed all all) n 0 v (best_variables N allowed (all - (n + 1)) (rest need v)) rests in
            let inside = head.below in
            let left_is : left ≡ rest need v = is ∙ sym (rest-and need v) in
            let fewer : rest need v < need = rw is-picked (takes N allowed few need (picked_variable N allowed need) p.below p.is_allowed p.is) in
            let below = c.below in
            let gone = rest-fewer need v (omega arith) fewer in
            let fit = c.fit in
            let costs = rw (← is-picked) at p.is in
            let less = c.less in
            rw left_is
            (record {
              size = length-set items n item ∙ c.size;
              done = λ j h. each j (eq-or-lt_of_le (up_to j h)) head.here value;
              long = omega arith;
              rests = ap (λ (k : ℕ). drop k (best_variables N allowed all all)) (add-one n) ∙ head.rest;
              fuel = omega arith;
              fit = omega arith;
              below = omega arith;
              less = omega arith;
            })
          where
            up_to : (j : ℕ) → j < n + 1 → j ≤ n
            up_to j h = omega arith

            each :
                (j : ℕ)
                → (j ≡ n) ⊎ (j < n)
                → get_or (best_variables N allowed all all) n 0 ≡ v
                → item ≡ entry (16 + n) v
                → (get_or (set items n item) j 0 ≡ entry (16 + j) (get_or (best_variables N allowed all all) j 0)) × (get_or (best_variables N allowed all all) j 0 < 256)
            each j (inl same) here value =
                let small = variable-below in
                rw (same, here) (get_or-set_same items n item 0 room ∙ value, omega arith)
            each j (inr before) here value = let old = c.done j before in (get_or-set_other items n j item 0 (λ k. omega arith) ∙ old.0, old.1)

-- the entries of the witness
pub chosen-entries :
    (m need : ℕ) (allowed : ℕ → ℕ → Bool) (entries : List ℕ)
    → drop 15 (choice_in m allowed) ≡ best_variables (2 ^ m) allowed need need
    → entries ≡ numbered 16 (best_variables (2 ^ m) allowed need need)
    → entries ≡ ordinaries_of (choice_in m allowed)
chosen-entries m need allowed entries rests are = are ∙ ap (numbered 16) (sym rests) ∙ sym (ordinaries-are (choice_in m allowed))
