-- What Verdict promises about types, over the typing rules (FORMAT 2.6 to 2.14): demand 3, for every accepted file and every
-- node, and the fewest memberships. A reader needs, besides this page:
--   Typed            the typing rules                                       (crate algebra, Rules)
--   Filled           every relation has an attribute                        (crate types, Types)
--   Typing, FilledTyping   an assignment, filled in the second, and a type that the rules derive under it   (crate principal,
--                    Principal)
--   memberships      how many attributes the relations of an assignment have   (crate types, Memberships)
--   subset_list, NotAbove   the subsets of an assignment's attributes as a list, and the order of such lists   (crate
--                    set_cover, Assignments and Choice)
--   expression_at     the expression of a node                               (crate node_expression, NodeExpression)
--   Witness          bytes that are a filled schema which types an expression   (WitnessLaws)
--   verdict_answer, verdict_space, verdict_schema   what Verdict leaves, by its contract   (crate verdict_answer, Verdict)
--   formula_in        the formula that stands in a work space                (crate stored_formula, StoredFormula)
-- What the work space holds afterwards is verdict-space (crate verdict_answer, WorkSpace); how memberships are counted off
-- the records of a schema is schema-memberships (SchemaMemberships).
use Rattle.std.specs.Prelude.{ℕ, ◌*◌, ◌^◌, ◌≤◌, ◌<◌, ◌≡◌, refl, ◌↔◌, true, List, [], length, take, Ok, Err}
use Rattle.std.proofs.Common.{sym, ap, ◌∙◌, lt_of_lt_of_le, arith, pow_mono}
use Rattle.std.proofs.Math.Decide.{dec_lt}
use Rattle.bits.specs.Tab.{take-over}
use Rattle.types.specs.Types.{holders}
use Rattle.types.specs.Memberships.{memberships, Within}
use Rattle.algebra.specs.Expression.{Legal}
use Rattle.principal.specs.Principal.{FilledTyping}
use Rattle.refusal.specs.declared.Refusal.{Refusal}
use Rattle.refusal.specs.Number.{number_of}
use Rattle.expression_file.specs.ReadFile.{acceptance, Accepted}
use Rattle.expression_file.specs.Accepted.{accepted-file, accepted-parts}
use Rattle.admission.specs.Admission.{sliced, admitted, formula_size}
use Rattle.admission.specs.AdmissionLaws.{sliced-passed, sliced-refused, admitted-passed, admitted-refused}
use Rattle.record.specs.Record.{record_of}
use Rattle.record.specs.RecordLaws.{record-empty}
use Rattle.node_expression.specs.NodeExpression.{expression_at, expression-legal}
use Rattle.stored_formula.specs.FormulaBytes.{allowed_bit}
use Rattle.stored_formula.specs.StoredFormula.{formula_in, stored-allowed}
use Rattle.set_cover.specs.Choice.{NotAbove}
use Rattle.set_cover.specs.Assignments.{subset_list}
use Rattle.verdict_theorems.specs.WitnessLaws.{Witness, untypable-is, blocked-attribute, unblocked-columns, witness-typed, witness-records}
use Rattle.verdict_theorems.specs.MembershipLaws.{witness-memberships, witness-subsets, witness-numbered, cost-least, choice-lowest}
use Rattle.verdict_answer.specs.Witness.{cost_in, choice_in, witness_records, witness_bytes}
use Rattle.verdict_answer.specs.Verdict.{untypable_in, outcome_in, schema_in, verdict_answer, verdict_space, verdict_schema}
use Rattle.verdict_answer.proofs.VerdictLaws.{outcome-untypable, outcome-typable, verdict-stops, verdict-passes, verdict-unrefused}
use Rattle.verdict_answer.specs.declared.Outcome.TheVariants.{Typable, Untypable}
use Rattle.type_record.specs.Record.{TypeRecord}
use Rattle.schema.specs.Schema.{schema_size, assignment_of}

-- node k of an accepted file with m relations and n nodes
module _ (file : List ℕ) (m n : ℕ) (accepted : acceptance file ≡ Accepted m n) (k : ℕ) (node : k < n) where
  few : m ≤ 8
  few = (accepted-file file m n accepted).counts.relations.1

  legal : Legal m (expression_at file k)
  legal = expression-legal file m n accepted k node

  -- ---- a verdict that is given: Verdict does not refuse

  module _ (work schema : List ℕ) (given : (r : Refusal) → verdict_answer file k (length work) (length schema) ≡ Err r → ⊥) where
    passes : sliced (admitted file k (length work)) (length schema) schema_size ≡ Accepted m n
    passes =
        let found = verdict-unrefused file k work schema given in
        let counts = sym (admitted-passed file k (length work) (sliced-passed (admitted file k (length work)) (length schema) schema_size found.1.1).0).accepted ∙ accepted in
        let parts = accepted-parts counts in
        let relations : found.0 ≡ m = parts.0 in
        let nodes : found.1.0 ≡ n = parts.1 in
        rw (← relations, ← nodes) found.1.1

    -- the outcome by the node's expression
    answer : verdict_answer file k (length work) (length schema) ≡ Ok (outcome_in m (allowed_bit m (expression_at file k)))
    answer = sym (verdict-passes file k work schema m n passes).0

    -- what is written to the schema slice
    written : verdict_schema file k (length work) schema ≡ schema_in m (allowed_bit m (expression_at file k)) schema
    written = sym (verdict-passes file k work schema m n passes).1.1

    -- the attribute that is said
    attribute-said : (a : ℕ) → verdict_answer file k (length work) (length schema) ≡ Ok (Untypable a) → (untypable_in m (allowed_bit m (expression_at file k)) ≡ a) × (a < 16)
    attribute-said a said = go (dec_lt (untypable_in m (allowed_bit m (expression_at file k))) 16)
      where
        go : Dec (untypable_in m (allowed_bit m (expression_at file k)) < 16) → (untypable_in m (allowed_bit m (expression_at file k)) ≡ a) × (a < 16)
        go (yes h) =
            let both = sym (ap Ok (outcome-untypable m (allowed_bit m (expression_at file k)) schema h).0) ∙ sym answer ∙ said in
            let same : untypable_in m (allowed_bit m (expression_at file k)) ≡ a = cc in
            (same, rw same at h)
        go (no h) = absurd (let other = sym said ∙ answer ∙ ap Ok (outcome-typable m (allowed_bit m (expression_at file k)) schema (omega arith)).0 in let z : ◌≡◌ {A = ℕ} 0 1 = cc in omega arith)

    said-attribute : (a : ℕ) → untypable_in m (allowed_bit m (expression_at file k)) ≡ a → a < 16 → verdict_answer file k (length work) (length schema) ≡ Ok (Untypable a)
    said-attribute a is less = answer ∙ ap Ok (outcome-untypable m (allowed_bit m (expression_at file k)) schema (rw is less)).0 ∙ ap (λ (a : ℕ). Ok (Untypable a)) is

    -- untypable is said exactly where no filled assignment types the node
    pub verdict-untypable : ((a : ℕ) × (verdict_answer file k (length work) (length schema) ≡ Ok (Untypable a))) ↔ (FilledTyping m (expression_at file k) → ⊥)
    verdict-untypable =
        let right = untypable-is m few (expression_at file k) legal in (
          (λ said. let found = attribute-said said.0 said.1 in right.0 (rw found.0 found.1)),
          (λ none. (untypable_in m (allowed_bit m (expression_at file k)), said-attribute (untypable_in m (allowed_bit m (expression_at file k))) refl (right.1 none))),
        )

    -- ---- by the formula that Verdict leaves in the work space

    enough : n * formula_size ≤ length work
    enough = (admitted-passed file k (length work) (sliced-passed (admitted file k (length work)) (length schema) schema_size passes).0).work_space

    -- special column i allows a subset of the m relations
    abbrev AllowsSome : ℕ → Type 0
    AllowsSome i = (s : ℕ) × ((s < 2 ^ m) × ((formula_in (verdict_space file k work (length schema)) m k).allowed i s ≡ true))

    stored : (i s : ℕ) → i < 16 → s < 2 ^ m → (formula_in (verdict_space file k work (length schema)) m k).allowed i s ≡ allowed_bit m (expression_at file k) i s
    stored i s h less =
        rw (← (verdict-passes file k work schema m n passes).1.0)
        (stored-allowed file m n accepted work enough k node i s h (lt_of_lt_of_le less (pow_mono {j = 8} few)))

    -- attribute 0 is said exactly where each special column allows something and no filled assignment types the node
    pub verdict-unfilled :
        (verdict_answer file k (length work) (length schema) ≡ Ok (Untypable 0))
        ↔ ((i : ℕ) → 1 ≤ i → i ≤ 15 → AllowsSome i) × (FilledTyping m (expression_at file k) → ⊥)
    verdict-unfilled = (out, into)
      where
        out : verdict_answer file k (length work) (length schema) ≡ Ok (Untypable 0) → ((i : ℕ) → 1 ≤ i → i ≤ 15 → AllowsSome i) × (FilledTyping m (expression_at file k) → ⊥)
        out said =
            let found = attribute-said 0 said in (
              (λ i some most.
                  let column = unblocked-columns m few (expression_at file k) legal i some most found.0 in
                  (column.0, (column.1.0, stored i column.0 (omega arith) column.1.0 ∙ column.1.1))),
              verdict-untypable.0 (0, said),
            )

        into : ((i : ℕ) → 1 ≤ i → i ≤ 15 → AllowsSome i) × (FilledTyping m (expression_at file k) → ⊥) → verdict_answer file k (length work) (length schema) ≡ Ok (Untypable 0)
        into (columns, none) =
            said-attribute 0
            (blocked-attribute m few (expression_at file k) legal ((untypable-is m few (expression_at file k) legal).1 none)
            (λ i some most. let column = columns i some most in (column.0, (column.1.0, sym (stored i column.0 (omega arith) column.1.0) ∙ column.1.1))))
            (omega arith)

  -- ---- typable

  -- what it comes with: the witness stands at the front of the schema slice
  record SaidTypable (work schema : List ℕ) (size count : ℕ) : Type 0 where
    free : 16 ≤ untypable_in m (allowed_bit m (expression_at file k))
    counted : count ≡ cost_in m (allowed_bit m (expression_at file k))
    bytes : take size (verdict_schema file k (length work) schema) ≡ witness_bytes m (choice_in m (allowed_bit m (expression_at file k)))

  said-typable : (work schema : List ℕ) (size count : ℕ) → verdict_answer file k (length work) (length schema) ≡ Ok (Typable size count) → SaidTypable work schema size count
  said-typable work schema size count said = go (dec_lt (untypable_in m (allowed_bit m (expression_at file k))) 16)
    where
      given : (r : Refusal) → verdict_answer file k (length work) (length schema) ≡ Err r → ⊥
      given r refused = let both = sym said ∙ refused in let z : ◌≡◌ {A = ℕ} 0 1 = cc in omega arith

      go : Dec (untypable_in m (allowed_bit m (expression_at file k)) < 16) → SaidTypable work schema size count
      go (yes h) = absurd (let other = sym said ∙ answer work schema given ∙ ap Ok (outcome-untypable m (allowed_bit m (expression_at file k)) schema h).0 in let z : ◌≡◌ {A = ℕ} 0 1 = cc in omega arith)
      go (no h) =
          let gives = outcome-typable m (allowed_bit m (expression_at file k)) schema (omega arith) in
          let whole = sym said ∙ answer work schema given ∙ ap Ok gives.0 in
          let size_is : size ≡ length (witness_bytes m (choice_in m (allowed_bit m (expression_at file k)))) = cc in
          record {
            free = omega arith;
            counted = cc;
            bytes = rw (size_is, written work schema given ∙ gives.1) (take-over (witness_bytes m (choice_in m (allowed_bit m (expression_at file k)))) schema);
          }

  module _ (work schema : List ℕ) (size count : ℕ) (said : verdict_answer file k (length work) (length schema) ≡ Ok (Typable size count)) where
    -- the part of the schema slice that Verdict wrote
    abbrev pub witness_part : List ℕ
    witness_part = take size (verdict_schema file k (length work) schema)

    -- the witness: it is read as a schema without a refusal, every relation has an attribute, and the rules type the
    -- node
    pub verdict-witness : Witness m (expression_at file k) witness_part
    verdict-witness = let found = said-typable work schema size count said in rw found.bytes (witness-typed m few (expression_at file k) legal found.free)

    -- whatever is said of the witness is said of these records
    module _ (w : Witness m (expression_at file k) witness_part) where
      records-are : w.records ≡ witness_records m (choice_in m (allowed_bit m (expression_at file k)))
      records-are = let found = said-typable work schema size count said in witness-records m few (expression_at file k) legal found.free witness_part found.bytes w

      -- it has exactly so many memberships
      pub verdict-memberships : (bound : ℕ) → Within m (assignment_of w.records) bound → memberships m (assignment_of w.records) bound ≡ count
      verdict-memberships bound within =
          let found = said-typable work schema size count said in
          ap (λ (ts : List TypeRecord). memberships m (assignment_of ts) bound) records-are
          ∙ witness-memberships m few (expression_at file k) legal found.free bound (rw records-are at within)
          ∙ sym found.counted

      -- its ordinary attributes are 16 and on, without a gap, and the subsets of the relations that have them rise
      pub verdict-numbered :
          (a b : ℕ)
          → 16 ≤ a
          → a < b
          → 1 ≤ holders m (assignment_of w.records) b
          → (1 ≤ holders m (assignment_of w.records) a) × (holders m (assignment_of w.records) a < holders m (assignment_of w.records) b)
      verdict-numbered =
          let found = said-typable work schema size count said in
          rw records-are (witness-numbered m few (expression_at file k) legal found.free)

      -- of the filled assignments that type the node with as many memberships none is below it: in the subset of the
      -- first special attribute in which they differ, or else in the first subset of the ordinary attributes
      pub verdict-lowest :
          (own : ℕ)
          → Within m (assignment_of w.records) own
          → (t : FilledTyping m (expression_at file k)) (bound : ℕ)
          → Within m t.typing.assignment bound
          → memberships m t.typing.assignment bound ≡ count
          → NotAbove (subset_list m (assignment_of w.records) own) (subset_list m t.typing.assignment bound)
      verdict-lowest own inside t bound within same =
          let found = said-typable work schema size count said in
          rw (records-are, witness-subsets m few (expression_at file k) legal found.free own (rw records-are at inside))
          (choice-lowest m few (expression_at file k) legal found.free t bound within (same ∙ found.counted))

    -- no filled assignment that types the node has fewer
    pub verdict-fewest : (t : FilledTyping m (expression_at file k)) (bound : ℕ) → Within m t.typing.assignment bound → count ≤ memberships m t.typing.assignment bound
    verdict-fewest t bound within =
        let found = said-typable work schema size count said in
        rw found.counted (cost-least m few (expression_at file k) legal found.free t bound within)

-- ---- Record: where it is empty, Verdict gives the number of the refusal, whatever its slices are

pub record-number : (file : List ℕ) (k : ℕ) → record_of file k ≡ [] → (work schema : List ℕ) → (r : Refusal) × (verdict_answer file k (length work) (length schema) ≡ Err r) × (number_of r ≤ 11)
record-number file k empty work schema =
    let found = record-empty file k empty in
    let refused = sliced-refused (admitted file k (length work)) (length schema) schema_size (admitted-refused file k (length work) found.1) in
    (found.0, sym (verdict-stops file k work schema found.0 refused).0, found.2)
