-- The memberships of the witness, and that no filled assignment which types the expression has fewer; of those with as
-- few the witness is the lowest, and its ordinary attributes are numbered in turn.
use Rattle.std.specs.Prelude.{ℕ, zero, suc, ◌+◌, ◌-◌, ◌^◌, ◌≤◌, ◌<◌, ◌≡◌, refl, List, [], ◌∷◌, length, get_or, drop}
use Rattle.std.proofs.Common.{sym, ap, ap₂, ◌∙◌, add-one, arith, length-drop, drop_of_length-le, pow_mono, drop-cons, get_or-drop}
use Rattle.std.proofs.Math.Decide.{dec_lt}
use Rattle.std.proofs.Math.ListN.{get_or-eq_default}
use Rattle.std.proofs.Math.Pow.{ones_lt}
use Rattle.bits.specs.Rising.{rising-places}
use Rattle.bits.specs.Total.{total, total-front, total-same, total-more}
use Rattle.types.specs.Types.{holders}
use Rattle.types.specs.Memberships.{members, memberships, Within, members-none}
use Rattle.types.proofs.Memberships.{memberships-same, memberships-by}
use Rattle.algebra.specs.Expression.{Expression, Legal}
use Rattle.principal.specs.Plain.{holders-none}
use Rattle.principal.specs.Principal.{FilledTyping}
use Rattle.stored_formula.specs.FormulaBytes.{allowed_bit}
use Rattle.schema.specs.Schema.{assignment_of}
use Rattle.set_cover.specs.Choice.{weight-total, NotAbove}
use Rattle.set_cover.proofs.Cheapest.{best-right}
use Rattle.set_cover.proofs.BestLaws.{best-rises}
use Rattle.set_cover.specs.Assignments.{unless_empty, ordinary_subsets, last_subsets, subset_list, ordinary-none, ordinary-more, last-ordinary, last_more, list-last}
use Rattle.set_cover.proofs.Assignments.{schema-fewest, schema-lowest}
use Rattle.verdict_answer.specs.Witness.{cost_in, choice_in, witness_records}
use Rattle.verdict_answer.specs.WitnessLaws.{Variables}
use Rattle.verdict_answer.specs.Verdict.{untypable_in}
use Rattle.verdict_answer.proofs.VerdictLaws.{typable-parts}
use Rattle.verdict_theorems.specs.WitnessLaws.{typing-allowed, is-choice, witness-holders, holders-zero, witness-within}

-- a variable is not the empty subset
variable-some : (m : ℕ) (vs : List ℕ) → Variables m vs → (j : ℕ) → j < length vs → 1 ≤ get_or vs j 0
variable-some m [] are j h = absurd (omega arith)
variable-some m (v ∷ vs) are zero h = are.0
variable-some m (v ∷ vs) are (suc j) h = variable-some m vs are.2 j (omega arith)

-- a subset that is not empty comes first
kept : (s : ℕ) (xs : List ℕ) → 1 ≤ s → unless_empty s xs ≡ s ∷ xs
kept zero xs some = absurd (omega arith)
kept (suc s) xs some = refl

module _ (m : ℕ) (few : m ≤ 8) (e : Expression) (legal : Legal m e) (said : 16 ≤ untypable_in m (allowed_bit m e)) where
  abbrev choice : List ℕ
  choice = choice_in m (allowed_bit m e)

  abbrev held : ℕ → ℕ
  held = holders m (assignment_of (witness_records m (choice_in m (allowed_bit m e))))

  can : cost_in m (allowed_bit m e) < 200
  can = (typable-parts m (allowed_bit m e) said).1

  long : 15 ≤ length (choice_in m (allowed_bit m e))
  long = (is-choice m few e legal said).size

  -- ---- how many memberships it has

  pub witness-memberships :
      (bound : ℕ)
      → Within m (assignment_of (witness_records m (choice_in m (allowed_bit m e)))) bound
      → memberships m (assignment_of (witness_records m (choice_in m (allowed_bit m e)))) bound ≡ cost_in m (allowed_bit m e)
  witness-memberships bound within =
      let size = (is-choice m few e legal said).few in
      let padded : length choice + (23 - length choice) ≡ 23 = omega arith in
      let none = members-none in
      memberships-same m (assignment_of (witness_records m choice)) bound 24 within (witness-within m few e legal said)
      ∙ memberships-by m (assignment_of (witness_records m choice)) few 24
      ∙ total-front 23 (λ a. members (held a))
      ∙ ap₂ ◌+◌ (ap members (holders-zero m few e legal said) ∙ members-none)
      (total-same 23 (λ i. members (held (suc i))) (λ i. members (get_or choice i 0)) (λ i h. ap members (witness-holders m few e legal said i))
      ∙ ap (λ (n : ℕ). total n (λ i. members (get_or choice i 0))) (sym padded)
      ∙ total-more (length choice) (23 - length choice) (λ i. members (get_or choice i 0)) (λ i past. ap members (get_or-eq_default choice 0 {n = i} past) ∙ members-none)
      ∙ sym (weight-total choice)
      ∙ (best-right (2 ^ m) (allowed_bit m e) (pow_mono {j = 8} few) 15 (2 ^ m - 1) (ones_lt m) can).is)
      ∙ omega arith

  -- ---- its subsets, attribute by attribute, are the choice

  entry-some : (i : ℕ) → 15 ≤ i → i < length (choice_in m (allowed_bit m e)) → 1 ≤ get_or (choice_in m (allowed_bit m e)) i 0
  entry-some i from h =
      let size = length-drop 15 choice in
      let place : 15 + (i - 15) ≡ i = omega arith in
      let some = variable-some m (drop 15 choice) (is-choice m few e legal said).variables (i - 15) (omega arith) in
      let same : get_or (drop 15 choice) (i - 15) 0 ≡ get_or choice i 0 = get_or-drop 15 choice (i - 15) 0 ∙ ap (λ (k : ℕ). get_or choice k 0) place in
      rw (← same) some

  -- what follows entry i
  from-entry : (i : ℕ) → i < length (choice_in m (allowed_bit m e)) → drop i (choice_in m (allowed_bit m e)) ≡ get_or (choice_in m (allowed_bit m e)) i 0 ∷ drop (suc i) (choice_in m (allowed_bit m e))
  from-entry i h = drop-cons choice i 0 h

  ordinary-subsets : (n i : ℕ) → 15 ≤ i → length (choice_in m (allowed_bit m e)) ≤ i + n → ordinary_subsets m (assignment_of (witness_records m (choice_in m (allowed_bit m e)))) n (suc i) ≡ drop i (choice_in m (allowed_bit m e))
  ordinary-subsets zero i from enough = ordinary-none m (assignment_of (witness_records m choice)) (suc i) ∙ sym (drop_of_length-le choice {i = i} (omega arith))
  ordinary-subsets (suc n) i from enough =
      ordinary-more m (assignment_of (witness_records m choice)) n (suc i)
      ∙ go (dec_lt i (length choice)) (ap (ordinary_subsets m (assignment_of (witness_records m choice)) n) (add-one (suc i)) ∙ ordinary-subsets n (suc i) (omega arith) (omega arith))
    where
      go :
          Dec (i < length choice)
          → ordinary_subsets m (assignment_of (witness_records m choice)) n (suc i + 1) ≡ drop (suc i) choice
          → unless_empty (held (suc i)) (ordinary_subsets m (assignment_of (witness_records m choice)) n (suc i + 1)) ≡ drop i choice
      go (yes h) rest = ap₂ unless_empty (witness-holders m few e legal said i) rest ∙ kept (get_or choice i 0) (drop (suc i) choice) (entry-some i from h) ∙ sym (from-entry i h)
      go (no h) rest =
          ap₂ unless_empty (witness-holders m few e legal said i ∙ get_or-eq_default choice 0 {n = i} (omega arith)) rest
          ∙ drop_of_length-le choice {i = suc i} (omega arith)
          ∙ sym (drop_of_length-le choice {i = i} (omega arith))

  last-subsets : (n k : ℕ) → k ≤ 15 → length (choice_in m (allowed_bit m e)) ≤ 15 + n → last_subsets m (assignment_of (witness_records m (choice_in m (allowed_bit m e)))) n k ≡ drop (15 - k) (choice_in m (allowed_bit m e))
  last-subsets n zero most enough = last-ordinary m (assignment_of (witness_records m choice)) n ∙ ordinary-subsets n 15 (omega arith) enough
  last-subsets n (suc k) most enough =
      let size = long in
      let attribute : 15 - k ≡ suc (14 - k) = omega arith in
      let place : 14 - k ≡ 15 - suc k = omega arith in
      last_more m (assignment_of (witness_records m choice)) n k
      ∙ ap₂ ◌∷◌ (ap held attribute ∙ witness-holders m few e legal said (14 - k)) (last-subsets n k (omega arith) enough ∙ ap (λ (i : ℕ). drop i choice) attribute)
      ∙ sym (from-entry (14 - k) (omega arith))
      ∙ ap (λ (i : ℕ). drop i choice) place

  -- a bound that no attribute reaches is beyond the last variable
  bound-enough : (bound : ℕ) → Within m (assignment_of (witness_records m (choice_in m (allowed_bit m e)))) bound → length (choice_in m (allowed_bit m e)) ≤ 15 + (bound - 16)
  bound-enough bound within = go (dec_lt (15 + (bound - 16)) (length choice))
    where
      go : Dec (15 + (bound - 16) < length choice) → length choice ≤ 15 + (bound - 16)
      go (yes h) =
          let some = entry-some (15 + (bound - 16)) (omega arith) h in
          let is = witness-holders m few e legal said (15 + (bound - 16)) in
          let none = holders-none m (assignment_of (witness_records m choice)) (suc (15 + (bound - 16))) (λ r inside. within r inside (suc (15 + (bound - 16))) (omega arith)) in
          absurd (omega arith)
      go (no h) = omega arith

  pub witness-subsets :
      (bound : ℕ)
      → Within m (assignment_of (witness_records m (choice_in m (allowed_bit m e)))) bound
      → subset_list m (assignment_of (witness_records m (choice_in m (allowed_bit m e)))) bound ≡ choice_in m (allowed_bit m e)
  witness-subsets bound within = list-last m (assignment_of (witness_records m choice)) bound ∙ last-subsets (bound - 16) 15 (omega arith) (bound-enough bound within)

  -- ---- its ordinary attributes: 16 and on without a gap, their subsets rising

  pub witness-numbered :
      (a b : ℕ)
      → 16 ≤ a
      → a < b
      → 1 ≤ holders m (assignment_of (witness_records m (choice_in m (allowed_bit m e)))) b
      → (1 ≤ holders m (assignment_of (witness_records m (choice_in m (allowed_bit m e)))) a)
      × (holders m (assignment_of (witness_records m (choice_in m (allowed_bit m e)))) a < holders m (assignment_of (witness_records m (choice_in m (allowed_bit m e)))) b)
  witness-numbered a b from less some = go (dec_lt (b - 1) (length choice))
    where
      at : (a : ℕ) → 16 ≤ a → held a ≡ get_or (drop 15 choice) (a - 16) 0
      at a from =
          let next : a ≡ suc (a - 1) = omega arith in
          let place : 15 + (a - 16) ≡ a - 1 = omega arith in
          ap held next ∙ witness-holders m few e legal said (a - 1) ∙ sym (get_or-drop 15 choice (a - 16) 0 ∙ ap (λ (k : ℕ). get_or choice k 0) place)

      go : Dec (b - 1 < length choice) → (1 ≤ held a) × (held a < held b)
      go (yes h) =
          let size = length-drop 15 choice in
          let rises = rising-places 0 (drop 15 choice) (best-rises (2 ^ m) (allowed_bit m e) (pow_mono {j = 8} few) (2 ^ m - 1) (ones_lt m) can) (a - 16) (b - 16) (omega arith) (omega arith) in
          let first = variable-some m (drop 15 choice) (is-choice m few e legal said).variables (a - 16) (omega arith) in
          let here = at a from in
          let there = at b (omega arith) in
          (omega arith, omega arith)
      go (no h) =
          let next : b ≡ suc (b - 1) = omega arith in
          let is = ap held next ∙ witness-holders m few e legal said (b - 1) ∙ get_or-eq_default choice 0 {n = b - 1} (omega arith) in
          absurd (omega arith)

  -- ---- any other

  module _ (t : FilledTyping m e) (bound : ℕ) (within : Within m t.typing.assignment bound) where
    -- no filled assignment that types the expression has fewer memberships
    pub cost-least : cost_in m (allowed_bit m e) ≤ memberships m t.typing.assignment bound
    cost-least = schema-fewest m few (allowed_bit m e) t.typing.assignment t.typing.types t.filled bound within (typing-allowed m few e legal t.typing)

    -- one with as many is not below the choice
    pub choice-lowest : memberships m t.typing.assignment bound ≡ cost_in m (allowed_bit m e) → NotAbove (choice_in m (allowed_bit m e)) (subset_list m t.typing.assignment bound)
    choice-lowest same = schema-lowest m few (allowed_bit m e) t.typing.assignment t.typing.types t.filled bound within (typing-allowed m few e legal t.typing) same
