-- Recover: the instantiation of a schema, or untyped (FORMAT 7.11).
use Rattle.std.specs.Prelude.{ℕ, Bool, true, false, ◌&&◌, List, length, Result, Option, Err, Ok, Some, None}
use Rattle.bits.specs.Tab.{over}
use Rattle.admission.specs.Admission.{after, sliced, admitted}
use Rattle.algebra.specs.Expression.{Expression}
use Rattle.node_expression.specs.NodeExpression.{expression_at}
use Rattle.schema.specs.Schema.{Schema}
use Rattle.filled_schema.specs.FilledSchema.{filled_reading}
use Rattle.instantiation.specs.Instantiation.{lists_of, instantiation_bytes, instantiation_size}
use Rattle.typing_answer.specs.Typing.{after_schema}
use Rattle.apply_answer.specs.Apply.{read_space}
use Rattle.special_maps.specs.Special.{subsets_from}
use Rattle.fitting.specs.Fit.{entries_fit, specials_fit}
use Rattle.refusal.specs.declared.Refusal.{Refusal}

-- ---- the answers: recovered, with the length of the instantiation, or untyped

pattern abbrev pub Recovered : ℕ → Result (Option ℕ) Refusal
Recovered size = Ok (Some size)

pattern abbrev pub Untyped : Result (Option ℕ) Refusal
Untyped = Ok None

-- ---- a schema's table at a node with expression e of a file with m relations

-- FORMAT 6.3: the table is an instantiation of the node's formula
abbrev pub fits : ℕ → Expression → List ℕ → List ℕ → Bool
fits m e special entries = entries_fit m e entries && specials_fit m e (subsets_from special)

-- FORMAT 7.11: the instantiation that the table is
abbrev pub recovered_bytes : List ℕ → List ℕ → List ℕ
recovered_bytes special entries = instantiation_bytes (subsets_from special) (lists_of entries)

-- FORMAT 7.11: the answer, by whether the table fits
abbrev pub recovered : Bool → List ℕ → List ℕ → Option ℕ
recovered true special entries = Some (length (recovered_bytes special entries))
recovered false special entries = None

-- FORMAT 7.11: the answer over a table
unfoldable pub table_recovered : ℕ → Expression → List ℕ → List ℕ → Option ℕ
table_recovered m e special entries = recovered (fits m e special entries) special entries

-- FORMAT 7.11: the instantiation over what the slice held; if untyped, the slice stays
abbrev pub recovered_over : Bool → List ℕ → List ℕ → List ℕ → List ℕ
recovered_over true special entries out = over (recovered_bytes special entries) out
recovered_over false special entries out = out

-- FORMAT 7.11: the instantiation slice over a table
unfoldable pub table_instantiation : ℕ → Expression → List ℕ → List ℕ → List ℕ → List ℕ
table_instantiation m e special entries out = recovered_over (fits m e special entries) special entries out

-- ---- a schema as it was read: the refusal, or what its table gives

-- FORMAT 7.11: the answer over a schema as it was read
unfoldable pub read_recovered : ℕ → Expression → Schema → Result (Option ℕ) Refusal
read_recovered m e s = after_schema s.judgement Err (Ok (table_recovered m e s.special s.entries))

-- FORMAT 7.11: the instantiation slice over a schema as it was read
unfoldable pub read_instantiation : ℕ → Expression → Schema → List ℕ → List ℕ
read_instantiation m e s out = after_schema s.judgement (λ r. out) (table_instantiation m e s.special s.entries out)

-- ---- the operation: 1 to 12, 13 of the instantiation slice (FORMAT 8.5); and then the schema

-- FORMAT 7.11: the answer, for a work space and an instantiation slice of so many bytes
unfoldable pub recover_answer : List ℕ → ℕ → List ℕ → ℕ → ℕ → Result (Option ℕ) Refusal
recover_answer file k bytes space size =
    after (sliced (admitted file k space) size instantiation_size) Err (λ m n. read_recovered m (expression_at file k) (filled_reading m bytes))

-- FORMAT 7.11, 8.6: the work space afterwards: after untyped it holds the formulas too
unfoldable pub recover_space : List ℕ → ℕ → List ℕ → List ℕ → ℕ → List ℕ
recover_space file k bytes work size =
    after (sliced (admitted file k (length work)) size instantiation_size) (λ r. work) (λ m n. read_space file m n (filled_reading m bytes).judgement work)

-- FORMAT 7.11, 8.7: the instantiation slice afterwards
unfoldable pub recover_out : List ℕ → ℕ → List ℕ → ℕ → List ℕ → List ℕ
recover_out file k bytes space out =
    after (sliced (admitted file k space) (length out) instantiation_size) (λ r. out) (λ m n. read_instantiation m (expression_at file k) (filled_reading m bytes) out)
