-- Typing answers 25 exactly where one of the schema's records is empty, once none of 1 to 18 applies.
use Rattle.std.specs.Prelude.{ℕ, ◌≤◌, ◌<◌, ◌≡◌, refl, ◌↔◌, Bool, true, false, List, length, get_or, Ok, Err}
use Rattle.std.proofs.Common.{sym, ap, ◌∙◌, arith}
use Rattle.bits.specs.Word.{Bytes}
use Rattle.refusal.specs.declared.Refusal.{Refusal}
use Rattle.refusal.specs.declared.Refusal.TheVariants.{EmptyRecord}
use Rattle.refusal.specs.Several.{several_read as records_read}
use Rattle.expression_file.specs.Accepted.{accepted-file}
use Rattle.admission.specs.Admission.{asked, sliced}
use Rattle.admission.specs.AdmissionLaws.{sliced-passed, asked-passed}
use Rattle.node_expression.specs.NodeExpression.{expression_at}
use Rattle.type_record.specs.Record.{TypeRecord, output_size}
use Rattle.schema.specs.Schema.{read_records, no_record, entries_of}
use Rattle.schema.specs.TableLaws.{read-schema}
use Rattle.filled_schema.specs.FilledSchema.{filled_reading}
use Rattle.filled_schema.proofs.FilledLaws.{empty-record}
use Rattle.table_types.specs.Output.{typed_in}
use Rattle.typing_answer.specs.Typing.{table_answer, schema_answer, typing_answer}
use Rattle.typing_answer.proofs.TypingLaws.{answer_typed, answer-untyped, schema-stops, schema-goes, typing-goes}
use Rattle.expression_file.specs.ReadFile.{Accepted}
use Rattle.schema.specs.Judgement.{Judgement, Read, Refused as SchemaRefused}

-- none of 1 to 13 applies, and the schema has these records, with at most 255 different ordinary attributes
module _ (file : List ℕ) (k : ℕ) (schema out : List ℕ) (below : Bytes schema) (m n : ℕ) (goes : sliced (asked file k) (length out) output_size ≡ Accepted m n)
    (ts : List TypeRecord) (read : read_records m schema ≡ records_read ts) (few : length (entries_of ts) ≤ 255) where
  most : m ≤ 8
  most = (accepted-file file m n (asked-passed file k (sliced-passed (asked file k) (length out) output_size goes).0).0).counts.relations.1

  -- 25 of the reading
  reading-empty : ((filled_reading m schema).judgement ≡ SchemaRefused EmptyRecord) ↔ ((r : ℕ) × ((r < m) × (get_or ts r no_record ≡ no_record)))
  reading-empty = empty-record m schema ts most below (read-schema m schema ts read few)

  answer : typing_answer file k schema (length out) ≡ schema_answer (expression_at file k) (filled_reading m schema)
  answer = sym (typing-goes file k schema out m n _ _ goes refl refl).0

  -- a table is not refused
  table-answers : (special entries : List ℕ) (r : Refusal) → Ok (table_answer (expression_at file k) special entries) ≡ Err r → ⊥
  table-answers special entries r said = let z : ◌≡◌ {A = ℕ} 0 1 = cc in omega arith

  pub typing-empty : (typing_answer file k schema (length out) ≡ Err EmptyRecord) ↔ ((r : ℕ) × ((r < m) × (get_or ts r no_record ≡ no_record)))
  typing-empty = (
    (λ said. go said (filled_reading m schema).judgement refl),
    (λ found. answer ∙ sym (schema-stops (expression_at file k) (filled_reading m schema) out EmptyRecord (reading-empty.1 found)).0),
  )
    where
      go : typing_answer file k schema (length out) ≡ Err EmptyRecord → (j : Judgement) → (filled_reading m schema).judgement ≡ j → (r : ℕ) × ((r < m) × (get_or ts r no_record ≡ no_record))
      go said (SchemaRefused r) is =
          let both = (schema-stops (expression_at file k) (filled_reading m schema) out r is).0 ∙ sym answer ∙ said in
          let same : r ≡ EmptyRecord = cc in
          reading-empty.0 (is ∙ ap SchemaRefused same)
      go said Read is =
          absurd
          (table-answers (filled_reading m schema).special (filled_reading m schema).entries EmptyRecord
          ((schema-goes (expression_at file k) (filled_reading m schema) out is _ _ refl refl).0 ∙ sym answer ∙ said))
