-- Laws of a schema that is read with 25: it is read as without, and no record is empty.
use Rattle.std.specs.Prelude.{ℕ, ◌≤◌, ◌<◌, ◌≡◌, ◌↔◌, Bool, List, length, get_or}
use Rattle.std.proofs.Math.Path.{refl, ap}
use Rattle.std.proofs.Common.{sym, ◌∙◌, arith}
use Rattle.std.proofs.Math.Bool.{true, false}
use Rattle.bits.specs.Booleans.{is_false}
use Rattle.bits.specs.Word.{Bytes}
use Rattle.refusal.specs.declared.Refusal.TheVariants.{EmptyRecord}
use Rattle.type_record.specs.Record.{TypeRecord}
use Rattle.schema.specs.Schema.{Schema, no_record, entries_of, maps_of, schema_reading}
use Rattle.schema.specs.RecordsLaws.{AllRecords, records-read}
use Rattle.schema.specs.TableLaws.{ReadSchema, refused-judged}
use Rattle.filled_schema.specs.FilledSchema.{table_filled, filled_reading}
use Rattle.filled_schema.specs.FilledRecords.{none-empty, some-empty}
use Rattle.filled_schema.specs.FilledLaws.{read-empty, read-filled, read_filled, records-filled}
use Rattle.schema.specs.Judgement.{Read, Refused}

-- 25 is said exactly where one of the records is empty
pub empty-record :
    (m : ℕ) (bytes : List ℕ) (ts : List TypeRecord)
    → m ≤ 8
    → Bytes bytes
    → ReadSchema m bytes (schema_reading m bytes) ts
    → ((filled_reading m bytes).judgement ≡ Refused EmptyRecord) ↔ ((r : ℕ) × ((r < m) × (get_or ts r no_record ≡ no_record)))
empty-record m bytes ts few below r = (λ said. found said (read_filled m bytes) refl, said)
  where
    judged : (schema_reading m bytes).judgement ≡ Read
    judged = ap (λ (x : Schema). x.judgement) r.is

    records : (length ts ≡ m) × AllRecords ts
    records = records-read m bytes ts below r.read

    found : (filled_reading m bytes).judgement ≡ Refused EmptyRecord → (t : Bool) → read_filled m bytes ≡ t → (r : ℕ) × ((r < m) × (get_or ts r no_record ≡ no_record))
    found said true h =
        let both = sym judged ∙ sym (ap (λ (x : Schema). x.judgement) (read-filled m bytes judged h)) ∙ said in
        absurd (let z : ◌≡◌ {A = ℕ} 0 1 = cc in omega arith)
    found said false h = some-empty m few ts records.0 records.1 (sym (records-filled m bytes ts r) ∙ h)

    said : (r : ℕ) × ((r < m) × (get_or ts r no_record ≡ no_record)) → (filled_reading m bytes).judgement ≡ Refused EmptyRecord
    said (q, (less, none)) =
        let fails = is_false (table_filled m (maps_of ts) (entries_of ts)) (λ h. (none-empty m few ts records.0 records.1).0 h q less none) in
        ap (λ (x : Schema). x.judgement) (read-empty m bytes judged (records-filled m bytes ts r ∙ fails)) ∙ refused-judged EmptyRecord
