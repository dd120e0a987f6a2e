-- Laws of Typing: what the code finds is what the definitions say, the results after each refusal, and after none.
use Rattle.std.specs.Prelude.{ℕ, ◌≤◌, ◌≡◌, List, take, Ok, Err}
use Rattle.std.proofs.Common.{sym, ◌∙◌}
use Rattle.bits.specs.Word.{Bytes}
use Rattle.refusal.specs.declared.Refusal.{Refusal}
use Rattle.schema.specs.Schema.{reading_of, EntriesStand, WritesFrom}
use Rattle.schema.specs.TableLaws.{handed-on, read_table, refused-on}
use Rattle.schema.specs.declared.reading.SchemaTable.{SchemaTable}
use Rattle.filled_schema.specs.FilledSchema.{filled_reading}
use Rattle.filled_schema.specs.FilledLaws.{filled-schema}
use Rattle.schema.specs.Judgement.{Read, Refused as SchemaRefused}

-- ---- over a schema

-- what is found in the bytes, by the reading that was handed on
pub read-stopped : (m : ℕ) (bytes : List ℕ) (r : Refusal) → Err r ≡ reading_of (filled_reading m bytes) → (filled_reading m bytes).judgement ≡ SchemaRefused r
read-stopped m bytes r is = refused-on (filled_reading m bytes) r is

-- a schema that was read has such a table
pub record TableRead (m : ℕ) (bytes items : List ℕ) (x : SchemaTable) : Type 0 where
  pub table : WritesFrom x.special items x.count
  pub special : x.special ≡ (filled_reading m bytes).special
  pub entries : take x.count items ≡ (filled_reading m bytes).entries
  pub judged : (filled_reading m bytes).judgement ≡ Read

pub schema-table :
    (m : ℕ) (bytes items : List ℕ) (x : SchemaTable)
    → m ≤ 8
    → Bytes bytes
    → Ok x ≡ reading_of (filled_reading m bytes)
    → EntriesStand (filled_reading m bytes).judgement (filled_reading m bytes).entries items
    → TableRead m bytes items x
schema-table m bytes items x most below is stands =
    let handed = handed-on (filled_reading m bytes) x is in
    let judged = handed.judgement in
    let special = handed.special in
    let number = handed.count in
    let found = filled-schema m bytes judged in
    record {
      table = rw (special, number) (read_table m bytes (filled_reading m bytes) found.0 items most below found.1.0 (stands judged));
      special = special;
      entries = rw number (stands judged);
      judged = judged;
    }
