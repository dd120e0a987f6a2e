-- Laws of Verdict: the outcome, by what the code finds; the three results after each refusal, and after none.
use Rattle.std.specs.Prelude.{ℕ, ◌-◌, ◌^◌, ◌≤◌, ◌<◌, ◌≡◌, Bool, ltb, get_or, drop, [], Result, Err, Ok}
use Rattle.std.proofs.Math.Path.{refl, sym, ap, ap₂}
use Rattle.std.proofs.Common.{◌∙◌, lt_of_lt_of_le, arith, pow_mono}
use Rattle.std.proofs.Math.Bool.{cond}
use mathlib.Core.List.{List}
use Rattle.std.proofs.Math.Decide.{dec_lt}
use borrow.Author.Tests.{lt-ltb, le-ltb}
use Rattle.std.proofs.Math.ListN.{length}
use Rattle.bits.specs.Tab.{over}
use Rattle.refusal.specs.declared.Refusal.{Refusal}
use Rattle.admission.specs.Admission.{sliced, admitted}
use Rattle.admission.specs.AdmissionLaws.{Admits, sliced-passed, admitted-passed, admits-few}
use Rattle.node_expression.specs.NodeExpression.{expression_at}
use Rattle.stored_formula.specs.FormulaBytes.{allowed_bit, formulas_of}
use Rattle.stored_formula.specs.FormulaBytesLaws.{stored-column}
use Rattle.special_maps.specs.Special.{maps_from}
use Rattle.schema.specs.Schema.{schema_bytes, records_of, schema_size}
use Rattle.set_cover.specs.Least.{infinity}
use Rattle.set_cover.specs.SameCost.{cost-same, best-same}
use Rattle.set_cover.specs.Choice.{uncovered}
use Rattle.set_cover.specs.FirstCover.{firsts}
use Rattle.stored_formula.specs.ColumnPlace.{column_at}
use Rattle.verdict_answer.specs.First.{allowed_at, first_in, blocked_in, chosen_by, subsets_by}
use Rattle.verdict_answer.specs.declared.Subsets.{Subsets}
use Rattle.verdict_answer.specs.FirstLaws.{subsets-blocked, subsets-chosen, chosen-size, chosen_none, formula-cells, stored-cells}
use Rattle.verdict_answer.proofs.FirstLaws.{blocked-in-same}
use Rattle.verdict_answer.specs.Formed.{Formed}
use Rattle.verdict_answer.specs.FirstChoice.{memberships_of, memberships-few, chosen-firsts}
use Rattle.verdict_answer.proofs.FirstChoice.{covers-cost, covers-specials, covers-ordinaries}
use Rattle.verdict_answer.specs.Witness.{cost_in, choice_in, specials_of, ordinaries_of, witness_bytes}
use Rattle.verdict_answer.specs.Verdict.{attribute_by, untypable_in, outcome, outcome_in, schema_in, verdict_answer, verdict_space, verdict_schema}
use Rattle.verdict_answer.specs.declared.Outcome.{Outcome}
use Rattle.verdict_answer.specs.declared.Outcome.TheVariants.{Typable, Untypable}
use Rattle.verdict_answer.specs.VerdictLaws.{stored-open}
use Rattle.expression_file.specs.declared.files.Header.{Header}
use Rattle.expression_file.specs.ReadFile.{Accepted}

-- ---- the attribute that is said

module _ (m : ℕ) (allowed : ℕ → ℕ → Bool) where
  -- a column allows nothing
  pub untypable-blocked : blocked_in allowed < 16 → untypable_in m allowed ≡ blocked_in allowed
  unfolding untypable_in
  untypable-blocked h = rw (lt-ltb (blocked_in allowed) 16 h) refl

  -- each allows something, but the relations cannot all be filled
  pub untypable-unfilled : 16 ≤ blocked_in allowed → infinity ≤ cost_in m allowed → untypable_in m allowed ≡ 0
  unfolding untypable_in
  untypable-unfilled none cannot = rw (le-ltb (blocked_in allowed) 16 none, le-ltb (cost_in m allowed) infinity cannot) refl

  -- and they can
  pub untypable-none : 16 ≤ blocked_in allowed → cost_in m allowed < infinity → untypable_in m allowed ≡ 16
  unfolding untypable_in
  untypable-none none can = rw (le-ltb (blocked_in allowed) 16 none, lt-ltb (cost_in m allowed) infinity can) refl

  -- the other way: what 16 says, and what 0 says
  pub typable-parts : 16 ≤ untypable_in m allowed → (16 ≤ blocked_in allowed) × (cost_in m allowed < infinity)
  typable-parts none = go (dec_lt (blocked_in allowed) 16) (dec_lt (cost_in m allowed) infinity)
    where
      go : Dec (blocked_in allowed < 16) → Dec (cost_in m allowed < infinity) → (16 ≤ blocked_in allowed) × (cost_in m allowed < infinity)
      go (yes h) d = let is = untypable-blocked h in absurd (omega arith)
      go (no h) (yes can) = (omega arith, can)
      go (no h) (no cannot) = let is = untypable-unfilled (omega arith) (omega arith) in absurd (omega arith)

  -- ---- the outcome

  module _ (schema : List ℕ) where
    pub outcome-untypable : untypable_in m allowed < 16 → (outcome_in m allowed ≡ Untypable (untypable_in m allowed)) × (schema_in m allowed schema ≡ schema)
    unfolding outcome_in schema_in
    outcome-untypable h = rw (lt-ltb (untypable_in m allowed) 16 h) (refl, refl)

    pub outcome-typable :
        16 ≤ untypable_in m allowed
        → (outcome_in m allowed ≡ Typable (length (witness_bytes m (choice_in m allowed))) (cost_in m allowed))
        × (schema_in m allowed schema ≡ over (witness_bytes m (choice_in m allowed)) schema)
    unfolding outcome_in schema_in
    outcome-typable h = rw (le-ltb (untypable_in m allowed) 16 h) (refl, refl)

    -- ---- by the first subsets that the code finds

    module _ (subsets : Subsets) (are : subsets ≡ subsets_by (first_in allowed)) where
      blocked-is : subsets.blocked ≡ blocked_in allowed
      blocked-is = subsets-blocked (first_in allowed) subsets are

      pub stored-blocked : subsets.blocked < 16 → (Untypable subsets.blocked ≡ outcome_in m allowed) × (schema ≡ schema_in m allowed schema)
      stored-blocked h =
          let is = untypable-blocked (rw blocked-is at h) in
          let gives = outcome-untypable (rw (is, ← blocked-is) h) in
          (ap Untypable (blocked-is ∙ sym is) ∙ sym gives.0, sym gives.1)

    -- where each column allows something, by what filling the relations costs
    pub stored-unfilled : 16 ≤ blocked_in allowed → infinity ≤ cost_in m allowed → (Untypable 0 ≡ outcome_in m allowed) × (schema ≡ schema_in m allowed schema)
    stored-unfilled none cannot =
        let is = untypable-unfilled none cannot in
        let gives = outcome-untypable (rw is (omega arith)) in
        (ap Untypable (sym is) ∙ sym gives.0, sym gives.1)

    pub stored-typable :
        (size count : ℕ) (specials entries written : List ℕ)
        → 16 ≤ blocked_in allowed
        → cost_in m allowed < infinity
        → specials ≡ specials_of (choice_in m allowed)
        → entries ≡ ordinaries_of (choice_in m allowed)
        → size ≡ length (schema_bytes (records_of m (maps_from specials) entries))
        → written ≡ over (schema_bytes (records_of m (maps_from specials) entries)) schema
        → count ≡ cost_in m allowed
        → (Typable size count ≡ outcome_in m allowed) × (written ≡ schema_in m allowed schema)
    unfolding witness_bytes
    stored-typable size count specials entries written none can specials-are entries-are size_is wrote counted =
        let gives = outcome-typable (let is = untypable-none none can in omega arith) in
        let bytes = ap₂ (λ (l es : List ℕ). schema_bytes (records_of m (maps_from l) es)) specials-are entries-are in
        (ap₂ Typable (size_is ∙ ap length bytes) counted ∙ sym gives.0, wrote ∙ ap (λ (l : List ℕ). over l schema) bytes ∙ sym gives.1)

-- ---- where the first subsets give every relation an attribute

module _ (m : ℕ) (few : m ≤ 8) (allowed : ℕ → ℕ → Bool) (formed : Formed m allowed) (schema : List ℕ) (subsets : Subsets) (are : subsets ≡ subsets_by (first_in allowed)) (open-columns : 16 ≤ subsets.blocked) where
  chosen_is : subsets.chosen ≡ chosen_by (first_in allowed)
  chosen_is = subsets-chosen (first_in allowed) subsets are

  none : 16 ≤ blocked_in allowed
  none = stored-open allowed subsets are open-columns

  -- a witness can be written from them
  pub first-writes : (length subsets.chosen ≡ 16) × (get_or subsets.chosen 0 0 ≡ 0)
  first-writes = rw chosen_is (chosen-size (first_in allowed), chosen_none (first_in allowed))

  pub first-typable :
      (size count left : ℕ) (entries written : List ℕ)
      → left ≡ uncovered (2 ^ m - 1) (drop 1 subsets.chosen)
      → left ≡ 0
      → entries ≡ []
      → size ≡ length (schema_bytes (records_of m (maps_from subsets.chosen) entries))
      → written ≡ over (schema_bytes (records_of m (maps_from subsets.chosen) entries)) schema
      → count ≡ memberships_of subsets.chosen
      → (Typable size count ≡ outcome_in m allowed) × (written ≡ schema_in m allowed schema)
  first-typable size count left entries written found nothing no-entries size_is wrote counted =
      let covers : uncovered (2 ^ m - 1) (firsts (first_in allowed) 15) ≡ 0 = sym (found ∙ ap (λ (l : List ℕ). uncovered (2 ^ m - 1) (drop 1 l)) (chosen_is ∙ chosen-firsts (first_in allowed) none)) ∙ nothing in
      let cost-is = covers-cost m few allowed formed none covers in
      let most = memberships-few (chosen_by (first_in allowed)) in
      stored-typable m allowed schema size count subsets.chosen entries written none (omega arith) (chosen_is ∙ sym (covers-specials m few allowed formed none covers))
      (no-entries ∙ sym (covers-ordinaries m few allowed formed none covers)) size_is wrote (counted ∙ ap memberships_of chosen_is ∙ sym cost-is)

-- ---- columns that allow the same give the same outcome

module _ (m : ℕ) (few : m ≤ 8) (f g : ℕ → ℕ → Bool) (same : (i s : ℕ) → i < 16 → s < 256 → f i s ≡ g i s) where
  same-cost : cost_in m f ≡ cost_in m g
  same-cost = cost-same (2 ^ m) f g (λ i h s below. same i s h (lt_of_lt_of_le below (pow_mono {j = 8} few))) 15 (2 ^ m - 1) (omega arith)

  same-choice : choice_in m f ≡ choice_in m g
  same-choice = best-same (2 ^ m) f g (λ i h s below. same i s h (lt_of_lt_of_le below (pow_mono {j = 8} few))) 15 (2 ^ m - 1) (omega arith)

  pub same-untypable : untypable_in m f ≡ untypable_in m g
  unfolding untypable_in
  same-untypable = ap₂ attribute_by (blocked-in-same f g same) same-cost

  same_outcome : outcome_in m f ≡ outcome_in m g
  unfolding outcome_in
  same_outcome =
      ap₂ (λ (a c : ℕ). outcome (ltb a 16) a (witness_bytes m (choice_in m f)) c) same-untypable same-cost
      ∙ ap (λ (l : List ℕ). outcome (ltb (untypable_in m g) 16) (untypable_in m g) (witness_bytes m l) (cost_in m g)) same-choice

  same-schema : (schema : List ℕ) → schema_in m f schema ≡ schema_in m g schema
  unfolding schema_in
  same-schema schema = ap₂ (λ (a : ℕ) (l : List ℕ). cond (ltb a 16) schema (over (witness_bytes m l) schema)) same-untypable same-choice

-- so the outcome of a formula by itself is that of the node at which it stands
pub formula-outcome :
    (formula work : List ℕ) (k m : ℕ)
    → m ≤ 8
    → ((c : ℕ) → c < 16 → column_at formula 0 c ≡ column_at work k c)
    → (outcome_in m (allowed_at formula 0) ≡ outcome_in m (allowed_at work k))
    × ((schema : List ℕ) → schema_in m (allowed_at formula 0) schema ≡ schema_in m (allowed_at work k) schema)
formula-outcome formula work k m few columns =
    let same = formula-cells formula work k columns in
    (same_outcome m few (allowed_at formula 0) (allowed_at work k) same, same-schema m few (allowed_at formula 0) (allowed_at work k) same)

-- and the outcome off the work space is that of the node's expression
pub filled-outcome :
    (file : List ℕ) (k : ℕ) (work filled : List ℕ) (m n : ℕ)
    → Admits file k (length work) m n
    → filled ≡ over (formulas_of file m n) work
    → (outcome_in m (allowed_at filled k) ≡ outcome_in m (allowed_bit m (expression_at file k)))
    × ((schema : List ℕ) → schema_in m (allowed_at filled k) schema ≡ schema_in m (allowed_bit m (expression_at file k)) schema)
filled-outcome file k work filled m n admits is =
    let same = stored-cells filled k m (expression_at file k) (λ c h. rw is (stored-column file work m n admits.work_space k c admits.node h)) in
    let few = (admits-few admits).0 in
    (same_outcome m few (allowed_at filled k) (allowed_bit m (expression_at file k)) same, same-schema m few (allowed_at filled k) (allowed_bit m (expression_at file k)) same)

-- ---- the answer, the work space and the schema slice

module _ (file : List ℕ) (k : ℕ) (work schema : List ℕ) where
  -- the answer and the slices are as the definitions say
  abbrev Results : Result Outcome Refusal → List ℕ → List ℕ → Type 0
  Results o filled written =
      (o ≡ verdict_answer file k (length work) (length schema))
      × ((filled ≡ verdict_space file k work (length schema))
      × (written ≡ verdict_schema file k (length work) schema))

  pub verdict-stops : (r : Refusal) → sliced (admitted file k (length work)) (length schema) schema_size ≡ Err r → Results (Err r) work schema
  unfolding verdict_answer verdict_space verdict_schema
  verdict-stops r e = rw e (refl, (refl, refl))

  -- where nothing is refused: the outcome by the node's expression
  pub verdict-passes :
      (m n : ℕ)
      → sliced (admitted file k (length work)) (length schema) schema_size ≡ Accepted m n
      → Results (Ok (outcome_in m (allowed_bit m (expression_at file k)))) (over (formulas_of file m n) work) (schema_in m (allowed_bit m (expression_at file k)) schema)
  unfolding verdict_answer verdict_space verdict_schema
  verdict-passes m n e = rw e (refl, (refl, refl))

  -- and the same off the work space, once it is filled
  pub verdict-goes :
      (m n : ℕ) (filled written : List ℕ) (o : Outcome)
      → sliced (admitted file k (length work)) (length schema) schema_size ≡ Accepted m n
      → filled ≡ over (formulas_of file m n) work
      → o ≡ outcome_in m (allowed_at filled k)
      → written ≡ schema_in m (allowed_at filled k) schema
      → Results (Ok o) filled written
  verdict-goes m n filled written o e is answered wrote =
      let admits = admitted-passed file k (length work) (sliced-passed (admitted file k (length work)) (length schema) schema_size e).0 in
      let same = filled-outcome file k work filled m n admits is in
      let results = verdict-passes m n e in
      (ap Ok (answered ∙ same.0) ∙ results.0, (is ∙ results.1.0, wrote ∙ same.1 schema ∙ results.1.1))

  -- where it is not refused, none of 1 to 13 applies
  pub verdict-unrefused : ((r : Refusal) → verdict_answer file k (length work) (length schema) ≡ Err r → ⊥) → (m : ℕ) × ((n : ℕ) × (sliced (admitted file k (length work)) (length schema) schema_size ≡ Accepted m n))
  verdict-unrefused other = go (sliced (admitted file k (length work)) (length schema) schema_size) refl
    where
      go : (a : Result Header Refusal) → sliced (admitted file k (length work)) (length schema) schema_size ≡ a → (m : ℕ) × ((n : ℕ) × (sliced (admitted file k (length work)) (length schema) schema_size ≡ Accepted m n))
      go (Err r) is = absurd (other r (sym (verdict-stops r is).0))
      go (Ok h) is = (h.relations, (h.nodes, is))
