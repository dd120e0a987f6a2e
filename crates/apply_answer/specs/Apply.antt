-- Apply: schema and output record of an instantiation (FORMAT 7.10).
use Rattle.std.specs.Prelude.{ℕ, not, List, length, Result, Err, Ok, Option, Some, None}
use Rattle.bits.specs.Tab.{over}
use Rattle.refusal.specs.Chain.{refuse}
use Rattle.refusal.specs.declared.Refusal.{Refusal}
use Rattle.refusal.specs.declared.Refusal.TheVariants.{TypeVariable, SpecialSubset, EmptyImage}
use Rattle.admission.specs.Admission.{after, sliced, admitted}
use Rattle.algebra.specs.Expression.{Expression}
use Rattle.node_expression.specs.NodeExpression.{expression_at}
use Rattle.stored_formula.specs.FormulaBytes.{formulas_of}
use Rattle.type_record.specs.Record.{record_size, record_bytes, output_size}
use Rattle.schema.specs.Schema.{schema_bytes, records_of, schema_size}
use Rattle.filled_schema.specs.FilledSchema.{table_filled}
use Rattle.instantiation.specs.Instantiation.{Instantiation, instantiation_reading}
use Rattle.table_types.specs.Output.{output_map, output_list}
use Rattle.typing_answer.specs.Typing.{after_schema}
use Rattle.special_maps.specs.Special.{maps_from}
use Rattle.fitting.specs.Fit.{entries_fit, specials_fit}
use Rattle.schema.specs.Judgement.{Judgement}
use Rattle.apply_answer.specs.declared.Application.{Application}

-- the lengths of the schema and of the output record
abbrev pub Applied : ℕ → ℕ → Result Application Refusal
Applied schema output = Ok (record { schema = schema; output = output })

-- ---- an instantiation's table at a node with expression e of a file with m relations

-- FORMAT 8.5: 20 for all entries, then 21, then 26, then what comes
abbrev pub after_fit : {A : Type 0} → ℕ → Expression → List ℕ → List ℕ → (Refusal → A) → A → A
after_fit m e subsets entries stop go =
    refuse stop (not (entries_fit m e entries)) TypeVariable
    (refuse stop (not (specials_fit m e subsets)) SpecialSubset (refuse stop (not (table_filled m (maps_from subsets) entries)) EmptyImage go))

-- FORMAT 6.4: the schema of the image
abbrev pub image_bytes : ℕ → List ℕ → List ℕ → List ℕ
image_bytes m subsets entries = schema_bytes (records_of m (maps_from subsets) entries)

-- FORMAT 6.5: the output record
abbrev pub output_bytes : Expression → List ℕ → List ℕ → List ℕ
output_bytes e subsets entries = record_bytes (output_map e (maps_from subsets)) (output_list e entries)

-- FORMAT 7.10: the answer over a table
unfoldable pub table_applied : ℕ → Expression → List ℕ → List ℕ → Result Application Refusal
table_applied m e subsets entries = after_fit m e subsets entries Err (Applied (length (image_bytes m subsets entries)) (record_size (length (output_list e entries))))

-- FORMAT 7.10: the schema slice over a table
unfoldable pub table_image : ℕ → Expression → List ℕ → List ℕ → List ℕ → List ℕ
table_image m e subsets entries schema = after_fit m e subsets entries (λ r. schema) (over (image_bytes m subsets entries) schema)

-- FORMAT 7.10: the output slice over a table
unfoldable pub table_output : ℕ → Expression → List ℕ → List ℕ → List ℕ → List ℕ
table_output m e subsets entries out = after_fit m e subsets entries (λ r. out) (over (output_bytes e subsets entries) out)

-- ---- an instantiation as it was read: the refusal, or what its table gives

-- FORMAT 7.10: the answer over an instantiation as it was read
unfoldable pub read_applied : ℕ → Expression → Instantiation → Result Application Refusal
read_applied m e i = after_schema i.judgement Err (table_applied m e i.subsets i.entries)

-- FORMAT 7.10: the schema slice over an instantiation as it was read
unfoldable pub read_image : ℕ → Expression → Instantiation → List ℕ → List ℕ
read_image m e i schema = after_schema i.judgement (λ r. schema) (table_image m e i.subsets i.entries schema)

-- FORMAT 7.10: the output slice over an instantiation as it was read
unfoldable pub read_output : ℕ → Expression → Instantiation → List ℕ → List ℕ
read_output m e i out = after_schema i.judgement (λ r. out) (table_output m e i.subsets i.entries out)

-- FORMAT 8.6: the work space is filled once the input is read, with 20, 21 and 26 too
unfoldable pub read_space : List ℕ → ℕ → ℕ → Judgement → List ℕ → List ℕ
read_space file m n judgement work = after_schema judgement (λ r. work) (over (formulas_of file m n) work)

-- ---- the operation: 1 to 12, 13 of the schema slice and then of the output slice (FORMAT 8.5);
-- and then the instantiation

-- FORMAT 7.10: the answer, for a work space, a schema slice and an output slice of so many bytes
unfoldable pub apply_answer : List ℕ → ℕ → List ℕ → ℕ → ℕ → ℕ → Result Application Refusal
apply_answer file k bytes space size out_size =
    after (sliced (sliced (admitted file k space) size schema_size) out_size output_size) Err (λ m n. read_applied m (expression_at file k) (instantiation_reading bytes))

-- FORMAT 7.10, 8.6: the work space afterwards
unfoldable pub apply_space : List ℕ → ℕ → List ℕ → List ℕ → ℕ → ℕ → List ℕ
apply_space file k bytes work size out_size =
    after (sliced (sliced (admitted file k (length work)) size schema_size) out_size output_size) (λ r. work) (λ m n. read_space file m n (instantiation_reading bytes).judgement work)

-- FORMAT 7.10, 8.7: the schema slice afterwards
unfoldable pub apply_schema : List ℕ → ℕ → List ℕ → ℕ → List ℕ → ℕ → List ℕ
apply_schema file k bytes space schema out_size =
    after (sliced (sliced (admitted file k space) (length schema) schema_size) out_size output_size) (λ r. schema) (λ m n. read_image m (expression_at file k) (instantiation_reading bytes) schema)

-- FORMAT 7.10, 8.7: the output slice afterwards
unfoldable pub apply_out : List ℕ → ℕ → List ℕ → ℕ → ℕ → List ℕ → List ℕ
apply_out file k bytes space size out =
    after (sliced (sliced (admitted file k space) size schema_size) (length out) output_size) (λ r. out) (λ m n. read_output m (expression_at file k) (instantiation_reading bytes) out)
