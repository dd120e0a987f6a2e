-- Laws of a schema that is read with 25: it is read as without, and no record is empty.
use Rattle.std.specs.Prelude.{ℕ, ◌≤◌, ◌≡◌, Bool, List, length}
use Rattle.std.proofs.Math.Path.{refl, ap}
use Rattle.std.proofs.Common.{sym, ap₂, ◌∙◌, arith}
use Rattle.std.proofs.Math.Bool.{true, false, cond}
use Rattle.refusal.specs.declared.Refusal.{Refusal}
use Rattle.refusal.specs.declared.Refusal.TheVariants.{EmptyRecord}
use Rattle.refusal.specs.Several.{several_read as records_read}
use Rattle.type_record.specs.Record.{TypeRecord}
use Rattle.schema.specs.Schema.{Schema, read_records, entries_of, maps_of, refused_schema, schema_reading}
use Rattle.schema.specs.TableLaws.{ReadSchema, refused-not, schema-read, read-schema, read-entries}
use Rattle.filled_schema.specs.FilledSchema.{table_filled, unless_empty, filled_reading}
use Rattle.schema.specs.Judgement.{Judgement, Read, Refused}

module _ (m : ℕ) (bytes : List ℕ) where
  -- the reading without 25
  abbrev s : Schema
  s = schema_reading m bytes

  -- whether its table leaves no relation empty
  abbrev pub read_filled : Bool
  read_filled = table_filled m (schema_reading m bytes).special (schema_reading m bytes).entries

  -- ---- what is read with 25

  pub filled-read : (filled_reading m bytes).judgement ≡ Read → ((schema_reading m bytes).judgement ≡ Read) × (filled_reading m bytes ≡ schema_reading m bytes) × (read_filled ≡ true)
  unfolding filled_reading
  filled-read e = go s.judgement refl e
    where
      tested : s.judgement ≡ Read → (t : Bool) → read_filled ≡ t → (cond t s (refused_schema EmptyRecord)).judgement ≡ Read → (s.judgement ≡ Read) × (cond t s (refused_schema EmptyRecord) ≡ s) × (read_filled ≡ true)
      tested is true h e = (is, refl, h)
      tested is false h e = absurd (refused-not EmptyRecord e)

      go : (j : Judgement) → s.judgement ≡ j → (unless_empty m s j).judgement ≡ Read → (s.judgement ≡ Read) × (unless_empty m s j ≡ s) × (read_filled ≡ true)
      go (Refused r) is e = absurd (let both = sym is ∙ e in let z : ◌≡◌ {A = ℕ} 0 1 = cc in omega arith)
      go Read is e = tested is read_filled refl e

  -- ---- and the other way: after each outcome of the reading without 25

  pub refused-filled : (r : Refusal) → (schema_reading m bytes).judgement ≡ Refused r → filled_reading m bytes ≡ schema_reading m bytes
  unfolding filled_reading
  refused-filled r is = ap (unless_empty m s) is

  pub read-filled : (schema_reading m bytes).judgement ≡ Read → read_filled ≡ true → filled_reading m bytes ≡ schema_reading m bytes
  unfolding filled_reading
  read-filled is h = ap (unless_empty m s) is ∙ ap (λ (t : Bool). cond t s (refused_schema EmptyRecord)) h

  pub read-empty : (schema_reading m bytes).judgement ≡ Read → read_filled ≡ false → filled_reading m bytes ≡ refused_schema EmptyRecord
  unfolding filled_reading
  read-empty is h = ap (unless_empty m s) is ∙ ap (λ (t : Bool). cond t s (refused_schema EmptyRecord)) h

  -- ---- with its records

  pub records-filled : (ts : List TypeRecord) → ReadSchema m bytes s ts → read_filled ≡ table_filled m (maps_of ts) (entries_of ts)
  records-filled ts r = ap₂ (table_filled m) (ap (λ (x : Schema). x.special) r.is) (read-entries m bytes s ts r)

  pub filled-schema : (filled_reading m bytes).judgement ≡ Read → (ts : List TypeRecord) × (ReadSchema m bytes (filled_reading m bytes) ts × (table_filled m (maps_of ts) (entries_of ts) ≡ true))
  filled-schema e =
      let read = filled-read e in
      let found = schema-read m bytes read.0 in
      (found.0, (record { read = found.1.read; few = found.1.few; is = read.1 ∙ found.1.is }, sym (records-filled found.0 found.1) ∙ read.2))

  -- the records, at most 255 different attributes, and every relation with one: the schema is read
  pub schema-filled :
      (ts : List TypeRecord)
      → read_records m bytes ≡ records_read ts
      → length (entries_of ts) ≤ 255
      → table_filled m (maps_of ts) (entries_of ts) ≡ true
      → ReadSchema m bytes (filled_reading m bytes) ts
  schema-filled ts read few filled =
      let made = read-schema m bytes ts read few in
      let same = read-filled (ap (λ (x : Schema). x.judgement) made.is) (records-filled ts made ∙ filled) in
      record { read = read; few = few; is = same ∙ made.is }
