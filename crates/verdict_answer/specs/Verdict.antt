-- Verdict: a witness schema, or the attribute that leaves none (FORMAT 7.7, 7.8, 7.26).
use Rattle.std.specs.Prelude.{ℕ, Bool, true, false, cond, List, ltb, length, Result, Ok, Err, Option, Some, None}
use Rattle.bits.specs.Tab.{over}
use Rattle.admission.specs.Admission.{after, sliced, admitted}
use Rattle.node_expression.specs.NodeExpression.{expression_at}
use Rattle.stored_formula.specs.FormulaBytes.{allowed_bit, formulas_of}
use Rattle.schema.specs.Schema.{schema_size}
use Rattle.set_cover.specs.Least.{infinity}
use Rattle.verdict_answer.specs.First.{blocked_in}
use Rattle.verdict_answer.specs.Witness.{cost_in, choice_in, witness_bytes}
use Rattle.verdict_answer.specs.declared.Outcome.{Outcome}
use Rattle.verdict_answer.specs.declared.Outcome.TheVariants.{Typable, Untypable}
use Rattle.refusal.specs.declared.Refusal.{Refusal}

-- ---- by what the columns of a node allow, for m relations

-- by the lowest special attribute whose column allows nothing, and by what it costs to fill the relations
abbrev pub attribute_by : ℕ → ℕ → ℕ
attribute_by blocked cost = cond (ltb blocked 16) blocked (cond (ltb cost infinity) 16 0)

-- FORMAT 7.7: the attribute that is said of an untypable node: the lowest special one whose column allows nothing, or 0
-- where each allows something but the relations cannot all be filled; 16 if the node is typable
unfoldable pub untypable_in : ℕ → (ℕ → ℕ → Bool) → ℕ
untypable_in m allowed = attribute_by (blocked_in allowed) (cost_in m allowed)

-- FORMAT 7.7: the answer, by whether the node is untypable
abbrev pub outcome : Bool → ℕ → List ℕ → ℕ → Outcome
outcome true attribute witness count = Untypable attribute
outcome false attribute witness count = Typable (length witness) count

-- FORMAT 7.7: the answer
unfoldable pub outcome_in : ℕ → (ℕ → ℕ → Bool) → Outcome
outcome_in m allowed = outcome (ltb (untypable_in m allowed) 16) (untypable_in m allowed) (witness_bytes m (choice_in m allowed)) (cost_in m allowed)

-- FORMAT 7.7: the witness, over what the slice held; if there is none, the slice stays
unfoldable pub schema_in : ℕ → (ℕ → ℕ → Bool) → List ℕ → List ℕ
schema_in m allowed schema = cond (ltb (untypable_in m allowed) 16) schema (over (witness_bytes m (choice_in m allowed)) schema)

-- ---- the operation: 1 to 13 (FORMAT 8.5), and then the outcome by the node's expression

-- FORMAT 7.7: the answer, for a work space and a schema slice of so many bytes
unfoldable pub verdict_answer : List ℕ → ℕ → ℕ → ℕ → Result Outcome Refusal
verdict_answer file k space size = after (sliced (admitted file k space) size schema_size) Err (λ m n. Ok (outcome_in m (allowed_bit m (expression_at file k))))

-- FORMAT 7.7, 8.7: the schema slice afterwards
unfoldable pub verdict_schema : List ℕ → ℕ → ℕ → List ℕ → List ℕ
verdict_schema file k space schema = after (sliced (admitted file k space) (length schema) schema_size) (λ r. schema) (λ m n. schema_in m (allowed_bit m (expression_at file k)) schema)

-- FORMAT 7.7, 8.6: the work space afterwards
unfoldable pub verdict_space : List ℕ → ℕ → List ℕ → ℕ → List ℕ
verdict_space file k work size = after (sliced (admitted file k (length work)) size schema_size) (λ r. work) (λ m n. over (formulas_of file m n) work)
