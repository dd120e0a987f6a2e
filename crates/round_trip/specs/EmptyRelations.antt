-- Recover answers 25 exactly where one of the schema's records is empty, once none of 1 to 18 applies; Apply answers 26
-- exactly where the image leaves a relation empty, once none of 1 to 21 applies.
use Rattle.std.specs.Prelude.{ℕ, ◌≤◌, ◌<◌, ◌≡◌, refl, ◌↔◌, Bool, true, false, List, length, get_or, Ok, Err}
use Rattle.std.proofs.Common.{sym, ap, ap₂, ◌∙◌, arith}
use Rattle.bits.specs.Word.{Bytes}
use Rattle.refusal.specs.declared.Refusal.{Refusal}
use Rattle.refusal.specs.declared.Refusal.TheVariants.{EmptyRecord, EmptyImage}
use Rattle.refusal.specs.Several.{several_read as records_read}
use Rattle.types.specs.Types.{Filled}
use Rattle.expression_file.specs.Accepted.{accepted-file}
use Rattle.admission.specs.Admission.{sliced, admitted}
use Rattle.admission.specs.AdmissionLaws.{sliced-passed, admitted-passed}
use Rattle.node_expression.specs.NodeExpression.{expression_at}
use Rattle.type_record.specs.Record.{TypeRecord, output_size}
use Rattle.schema.specs.Schema.{read_records, no_record, assignment_of, records_of, entries_of, schema_size}
use Rattle.schema.specs.TableLaws.{read-schema}
use Rattle.schema.specs.Image.{IsTable, image-size, image-records, image-maps, image-entries}
use Rattle.filled_schema.specs.FilledSchema.{table_filled, filled_reading}
use Rattle.filled_schema.specs.FilledRecords.{table_filled_lem}
use Rattle.filled_schema.proofs.FilledLaws.{empty-record}
use Rattle.special_maps.specs.Special.{maps_from}
use Rattle.instantiation.specs.Instantiation.{Instantiation, entries_in, subsets_of, instantiation_reading, instantiation_size}
use Rattle.instantiation.specs.TableLaws.{ReadInstantiation, read-entries}
use Rattle.fitting.specs.Fit.{entries_fit, specials_fit}
use Rattle.apply_answer.specs.Apply.{table_applied, apply_answer}
use Rattle.apply_answer.specs.ApplyLaws as Applying
use Rattle.recover_answer.specs.Recover.{fits, table_recovered, read_recovered, recover_answer}
use Rattle.recover_answer.specs.RecoverLaws as Recovering
use Rattle.round_trip.specs.RoundTrip.{applied-table}
use Rattle.expression_file.specs.ReadFile.{Accepted}
use Rattle.schema.specs.Judgement.{Judgement, Read, Refused as SchemaRefused}

-- ---- Recover: none of 1 to 13 applies, and the schema has these records, with at most 255 different ordinary attributes

module _ (file : List ℕ) (k : ℕ) (schema work out : List ℕ) (below : Bytes schema) (m n : ℕ)
    (goes : sliced (admitted file k (length work)) (length out) instantiation_size ≡ Accepted m n) (ts : List TypeRecord)
    (read : read_records m schema ≡ records_read ts) (few : length (entries_of ts) ≤ 255) where
  most : m ≤ 8
  most = (accepted-file file m n (admitted-passed file k (length work) (sliced-passed (admitted file k (length work)) (length out) instantiation_size goes).0).accepted).counts.relations.1

  -- 25 of the reading
  reading-empty : ((filled_reading m schema).judgement ≡ SchemaRefused EmptyRecord) ↔ ((r : ℕ) × ((r < m) × (get_or ts r no_record ≡ no_record)))
  reading-empty = empty-record m schema ts most below (read-schema m schema ts read few)

  answer : recover_answer file k schema (length work) (length out) ≡ read_recovered m (expression_at file k) (filled_reading m schema)
  answer = sym (Recovering.recover-goes file k schema work out m n goes _ _ _ refl refl refl).0

  -- a table is not refused
  table-answers : (special entries : List ℕ) (r : Refusal) → Ok (table_recovered m (expression_at file k) special entries) ≡ Err r → ⊥
  table-answers special entries r said = let z : ◌≡◌ {A = ℕ} 0 1 = cc in omega arith

  pub recover-empty : (recover_answer file k schema (length work) (length out) ≡ Err EmptyRecord) ↔ ((r : ℕ) × ((r < m) × (get_or ts r no_record ≡ no_record)))
  recover-empty = (
    (λ said. go said (filled_reading m schema).judgement refl),
    (λ found. answer ∙ sym (Recovering.read-stops file m n (expression_at file k) (filled_reading m schema) work out EmptyRecord (reading-empty.1 found)).0),
  )
    where
      go : recover_answer file k schema (length work) (length out) ≡ Err EmptyRecord → (j : Judgement) → (filled_reading m schema).judgement ≡ j → (r : ℕ) × ((r < m) × (get_or ts r no_record ≡ no_record))
      go said (SchemaRefused r) is =
          let both = (Recovering.read-stops file m n (expression_at file k) (filled_reading m schema) work out r is).0 ∙ sym answer ∙ said in
          let same : r ≡ EmptyRecord = cc in
          reading-empty.0 (is ∙ ap SchemaRefused same)
      go said Read is =
          absurd
          (table-answers (filled_reading m schema).special (filled_reading m schema).entries EmptyRecord
          ((Recovering.read_goes file m n (expression_at file k) (filled_reading m schema) work out is _ _ _ refl refl refl).0 ∙ sym answer ∙ said))

-- ---- Apply: none of 1 to 21 applies, and the instantiation has these lists

module _ (file : List ℕ) (k : ℕ) (bytes work schema out : List ℕ) (below : Bytes bytes) (m n : ℕ)
    (goes : sliced (sliced (admitted file k (length work)) (length schema) schema_size) (length out) output_size ≡ Accepted m n)
    (ls : List (List ℕ)) (r : ReadInstantiation bytes (instantiation_reading bytes) ls)
    (fit : entries_fit m (expression_at file k) (entries_in ls) ≡ true) (special : specials_fit m (expression_at file k) (subsets_of bytes) ≡ true) where
  few : m ≤ 8
  few = (accepted-file file m n (Applying.apply-passed file k (length work) (length schema) (length out) goes).0.accepted).counts.relations.1

  -- the records of the image
  abbrev image : List TypeRecord
  image = records_of m (maps_from (subsets_of bytes)) (entries_in ls)

  table : IsTable m (maps_from (subsets_of bytes)) (entries_in ls)
  table = applied-table m few (expression_at file k) bytes below ls r.long r.read r.once r.few fit special

  image-filled : (table_filled m (maps_from (subsets_of bytes)) (entries_in ls) ≡ true) ↔ Filled m (assignment_of image)
  image-filled =
      rw (image-maps m few (maps_from (subsets_of bytes)) (entries_in ls) table, image-entries m few (maps_from (subsets_of bytes)) (entries_in ls) table) at
      (table_filled_lem m few image (image-size m few (maps_from (subsets_of bytes)) (entries_in ls) table) (image-records m few (maps_from (subsets_of bytes)) (entries_in ls) table))

  table-answer : apply_answer file k bytes (length work) (length schema) (length out) ≡ table_applied m (expression_at file k) (subsets_of bytes) (entries_in ls)
  table-answer =
      sym (Applying.apply-goes file k bytes work schema out m n goes _ _ _ _ refl refl refl refl).0
      ∙ sym (Applying.read_goes file m n (expression_at file k) (instantiation_reading bytes) work schema out (ap (λ (i : Instantiation). i.judgement) r.is) _ _ _ _ refl refl refl refl).0
      ∙ ap₂ (table_applied m (expression_at file k)) (ap (λ (i : Instantiation). i.subsets) r.is) (read-entries bytes (instantiation_reading bytes) ls r)

  pub apply-empty : (apply_answer file k bytes (length work) (length schema) (length out) ≡ Err EmptyImage) ↔ (Filled m (assignment_of (records_of m (maps_from (subsets_of bytes)) (entries_in ls))) → ⊥)
  apply-empty = (
    (λ said filled. wrong said (image-filled.1 filled)),
    (λ left. go left (table_filled m (maps_from (subsets_of bytes)) (entries_in ls)) refl),
  )
    where
      wrong : apply_answer file k bytes (length work) (length schema) (length out) ≡ Err EmptyImage → table_filled m (maps_from (subsets_of bytes)) (entries_in ls) ≡ true → ⊥
      wrong said filled =
          let both = sym (Applying.table_fits m (expression_at file k) (subsets_of bytes) (entries_in ls) schema out fit special filled).0 ∙ sym table-answer ∙ said in
          let z : ◌≡◌ {A = ℕ} 0 1 = cc in omega arith

      go :
          (Filled m (assignment_of image) → ⊥)
          → (t : Bool)
          → table_filled m (maps_from (subsets_of bytes)) (entries_in ls) ≡ t
          → apply_answer file k bytes (length work) (length schema) (length out) ≡ Err EmptyImage
      go left true h = absurd (left (image-filled.0 h))
      go left false h = table-answer ∙ (Applying.image-refused m (expression_at file k) (subsets_of bytes) (entries_in ls) schema out fit special h).0
