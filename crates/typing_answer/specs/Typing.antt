-- Typing: the output record under a schema, or untyped (FORMAT 7.9).
use Rattle.std.specs.Prelude.{ℕ, Bool, true, false, List, length, Result, Option, Err, Ok, Some, None}
use Rattle.bits.specs.Tab.{over}
use Rattle.refusal.specs.declared.Refusal.{Refusal}
use Rattle.admission.specs.Admission.{after, asked, sliced}
use Rattle.algebra.specs.Expression.{Expression}
use Rattle.node_expression.specs.NodeExpression.{expression_at}
use Rattle.type_record.specs.Record.{record_size, record_bytes, output_size}
use Rattle.schema.specs.Schema.{Schema}
use Rattle.filled_schema.specs.FilledSchema.{filled_reading}
use Rattle.table_types.specs.Output.{typed_in, output_map, output_list}
use Rattle.schema.specs.Judgement.{Judgement, Read, Refused as SchemaRefused}

-- ---- the answers: typed, with the length of the output record, or untyped

pattern abbrev pub Typed : ℕ → Result (Option ℕ) Refusal
Typed size = Ok (Some size)

pattern abbrev pub Untyped : Result (Option ℕ) Refusal
Untyped = Ok None

-- ---- over a membership table: maps of special attributes, and entries

-- FORMAT 7.9: the answer, by whether the table types the expression
abbrev pub typed_answer : Bool → Expression → List ℕ → Option ℕ
typed_answer true e entries = Some (record_size (length (output_list e entries)))
typed_answer false e entries = None

-- FORMAT 7.9: the answer over a table
unfoldable pub table_answer : Expression → List ℕ → List ℕ → Option ℕ
table_answer e special entries = typed_answer (typed_in e special entries) e entries

-- FORMAT 7.9: the output record over what the slice held; if untyped, the slice stays
abbrev pub typed_out : Bool → Expression → List ℕ → List ℕ → List ℕ → List ℕ
typed_out true e special entries out = over (record_bytes (output_map e special) (output_list e entries)) out
typed_out false e special entries out = out

-- FORMAT 7.9: the output slice over a table
unfoldable pub table_out : Expression → List ℕ → List ℕ → List ℕ → List ℕ
table_out e special entries out = typed_out (typed_in e special entries) e special entries out

-- ---- over a schema, as it was read: the refusal, or what its table gives

-- the refusal of a schema or an instantiation, or what comes after it is read
abbrev pub after_schema : {A : Type 0} → Judgement → (Refusal → A) → A → A
after_schema (SchemaRefused r) stop go = stop r
after_schema Read stop go = go

-- FORMAT 7.9: the answer over a schema as it was read
unfoldable pub schema_answer : Expression → Schema → Result (Option ℕ) Refusal
schema_answer e s = after_schema s.judgement Err (Ok (table_answer e s.special s.entries))

-- FORMAT 7.9: the output slice over a schema as it was read
unfoldable pub schema_out : Expression → Schema → List ℕ → List ℕ
schema_out e s out = after_schema s.judgement (λ r. out) (table_out e s.special s.entries out)

-- ---- the operation: 1 to 11 and 13 (FORMAT 8.5), without 12, since there is no work space; and then the schema

-- FORMAT 7.9: the answer, for a result slice of so many bytes
unfoldable pub typing_answer : List ℕ → ℕ → List ℕ → ℕ → Result (Option ℕ) Refusal
typing_answer file k schema size = after (sliced (asked file k) size output_size) Err (λ m n. schema_answer (expression_at file k) (filled_reading m schema))

-- FORMAT 7.9, 8.7: the result slice afterwards
unfoldable pub typing_out : List ℕ → ℕ → List ℕ → List ℕ → List ℕ
typing_out file k schema out = after (sliced (asked file k) (length out) output_size) (λ r. out) (λ m n. schema_out (expression_at file k) (filled_reading m schema) out)
