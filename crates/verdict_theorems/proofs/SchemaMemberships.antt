-- The memberships of a schema, counted off its records: each record's special and listed attributes.
use Rattle.std.specs.Prelude.{ℕ, suc, ◌+◌, ◌≤◌, ◌<◌, ◌≡◌, false, List, ◌∷◌, length, []}
use Rattle.std.proofs.Common.{sym, ap, ap₂, ◌∙◌, arith}
use Rattle.bits.specs.Total.{total, count, total-none, total-front}
use Rattle.bits.specs.Word.{Bytes}
use Rattle.types.specs.Memberships.{memberships, Within}
use Rattle.types.proofs.Memberships.{memberships-is}
use Rattle.type_record.specs.Record.{TypeRecord}
use Rattle.schema.specs.Schema.{assignment_of, schema_reading}
use Rattle.schema.specs.RecordsLaws.{AllRecords, records-read}
use Rattle.schema.specs.TableLaws.{ReadSchema}
use Rattle.verdict_theorems.specs.SchemaMemberships.{attributes_of, record-count}

-- ---- all records

records-count : (ts : List TypeRecord) → AllRecords ts → (bound : ℕ) → ((r : ℕ) → r < length ts → (a : ℕ) → bound ≤ a → assignment_of ts r a ≡ false) → total (length ts) (λ r. count bound (assignment_of ts r)) ≡ attributes_of ts
records-count [] are bound none = total-none (λ r. count bound (assignment_of [] r))
records-count (t ∷ ts) are bound none =
    total-front (length ts) (λ r. count bound (assignment_of (t ∷ ts) r))
    ∙ ap₂ (λ (x y : ℕ). x + y) (record-count t are.0 bound (none 0 (omega arith))) (records-count ts are.1 bound (λ r h. none (suc r) (omega arith)))

-- what was read as a schema has as many memberships as its records have special and listed attributes
pub schema-memberships : (m : ℕ) (bytes : List ℕ) (ts : List TypeRecord) → Bytes bytes → ReadSchema m bytes (schema_reading m bytes) ts → (bound : ℕ) → Within m (assignment_of ts) bound → memberships m (assignment_of ts) bound ≡ attributes_of ts
schema-memberships m bytes ts below read bound within =
    let are = records-read m bytes ts below read.read in
    memberships-is m (assignment_of ts) bound
    ∙ ap (λ (n : ℕ). total n (λ r. count bound (assignment_of ts r))) (sym are.0)
    ∙ records-count ts are.1 bound (λ r h. within r (rw are.0 at h))
