-- Laws of a schema that was read: its records, and the table that is made of them.
use Rattle.std.specs.Prelude.{ℕ, zero, suc, ◌%◌, ◌≤◌, ◌<◌, ◌≡◌, refl, Bool, true, false, cond, List, [], ◌∷◌, ltb, length, get_or, take, replicate, Ok, Err}
use Rattle.std.proofs.Common.{ap, arith, le-ltb, ltb-false, sym, ◌∙◌}
use Rattle.std.proofs.Math.Decide.{dec_lt}
use Rattle.std.proofs.Math.ListN.{get_or-eq_default}
use Rattle.bits.specs.Tab.{tab, length-tab, get_or-tab}
use Rattle.bits.specs.Word.{Bytes}
use Rattle.refusal.specs.declared.Refusal.{Refusal}
use Rattle.refusal.specs.declared.Refusal.TheVariants.{TooManyAttributes}
use Rattle.refusal.specs.Several.{several_refused as records_refused, several_read as records_read}
use Rattle.type_record.specs.Record.{TypeRecord}
use Rattle.membership.specs.HolderLaws.{items-taken, taken-fit}
use Rattle.membership.specs.TableLaws.{items-stand}
use Rattle.schema.specs.Schema.{Schema, Records, read_records, no_record, entries_of, maps_of, refused_schema, tabled, schema_reading, reading_of, WritesFrom, handed}
use Rattle.schema.specs.RecordsLaws.{AllRecords, records-read}
use Rattle.schema.specs.EntriesLaws.{entries_below, maps_none}
use Rattle.schema.specs.declared.reading.SchemaTable.{SchemaTable}
use Rattle.schema.specs.Judgement.{Read, Refused, Judgement}

-- a schema of m relations that was read from these bytes, with its records
pub record ReadSchema (m : ℕ) (bytes : List ℕ) (s : Schema) (records : List TypeRecord) : Type 0 where
  pub read : read_records m bytes ≡ records_read records
  pub few : length (entries_of records) ≤ 255
  pub is : s ≡ record { judgement = Read; special = maps_of records; entries = entries_of records }

-- a refused one
pub refused-judged : (r : Refusal) → (refused_schema r).judgement ≡ Refused r
unfolding refused_schema
refused-judged r = refl

pub refused-not : (r : Refusal) → (refused_schema r).judgement ≡ Read → ⊥
unfolding refused_schema
refused-not r e = let z : ◌≡◌ {A = ℕ} 0 1 = cc in omega arith

pub schema-read : (m : ℕ) (bytes : List ℕ) → (schema_reading m bytes).judgement ≡ Read → (ts : List TypeRecord) × ReadSchema m bytes (schema_reading m bytes) ts
unfolding schema_reading
schema-read m bytes e = go (read_records m bytes) refl e
  where
    counted :
        (ts : List TypeRecord)
        → read_records m bytes ≡ records_read ts
        → (t : Bool)
        → ltb 255 (length (entries_of ts)) ≡ t
        → (cond t (refused_schema TooManyAttributes) (record { judgement = Read; special = maps_of ts; entries = entries_of ts })).judgement
        ≡ Read
        → (us : List TypeRecord)
        × ReadSchema m bytes
        (cond t (refused_schema TooManyAttributes) (record { judgement = Read; special = maps_of ts; entries = entries_of ts })) us
    counted ts read true many e = absurd (refused-not TooManyAttributes e)
    counted ts read false few e = (ts, record { read = read; few = ltb-false 255 (length (entries_of ts)) few; is = refl })

    go : (rs : Records) → read_records m bytes ≡ rs → (tabled rs).judgement ≡ Read → (us : List TypeRecord) × ReadSchema m bytes (tabled rs) us
    go (records_refused r) read e = absurd (refused-not r e)
    go (records_read ts) read e = counted ts read (ltb 255 (length (entries_of ts))) refl e

-- the records, and at most 255 different attributes: the schema is read
pub read-schema : (m : ℕ) (bytes : List ℕ) (ts : List TypeRecord) → read_records m bytes ≡ records_read ts → length (entries_of ts) ≤ 255 → ReadSchema m bytes (schema_reading m bytes) ts
unfolding schema_reading
read-schema m bytes ts read few = record { read = read; few = few; is = rw (read, le-ltb 255 (length (entries_of ts)) few) }

-- what is handed on of a reading
pub record Handed (s : Schema) (x : SchemaTable) : Type 0 where
  pub judgement : s.judgement ≡ Read
  pub special : x.special ≡ s.special
  pub count : x.count ≡ length s.entries

pub handed-on : (s : Schema) (x : SchemaTable) → Ok x ≡ reading_of s → Handed s x
unfolding reading_of
handed-on s x = go s.judgement refl
  where
    go : (j : Judgement) → s.judgement ≡ j → Ok x ≡ handed j s → Handed s x
    go Read read is =
        let same : x ≡ record { special = s.special; count = length s.entries } = cc in
        record {
          judgement = read;
          special = ap (λ (y : SchemaTable). y.special) same;
          count = ap (λ (y : SchemaTable). y.count) same;
        }
    go (Refused r) read is = absurd (let z : ◌≡◌ {A = ℕ} 0 1 = cc in omega arith)

-- and of a refused one
pub refused-on : (s : Schema) (r : Refusal) → Err r ≡ reading_of s → s.judgement ≡ Refused r
unfolding reading_of
refused-on s r = go s.judgement refl
  where
    go : (j : Judgement) → s.judgement ≡ j → Err r ≡ handed j s → s.judgement ≡ Refused r
    go Read read is = absurd (let z : ◌≡◌ {A = ℕ} 0 1 = cc in omega arith)
    go (Refused q) read is = let same : q ≡ r = cc in read ∙ ap Refused same

pub refused-reading : (r : Refusal) → reading_of (refused_schema r) ≡ Err r
unfolding reading_of refused_schema
refused-reading r = refl

-- ---- what stands in its table

-- the entries
pub read-entries : (m : ℕ) (bytes : List ℕ) (s : Schema) (ts : List TypeRecord) → ReadSchema m bytes s ts → s.entries ≡ entries_of ts
read-entries m bytes s ts r = ap (λ (x : Schema). x.entries) r.is

-- the maps have bit 0 clear
record-even : (ts : List TypeRecord) → AllRecords ts → (r : ℕ) → (get_or ts r no_record).map % 2 ≡ 0
record-even [] all r = refl
record-even (t ∷ ts) all zero = all.0.even
record-even (t ∷ ts) all (suc r) = record-even ts all.1 r

pub maps-at : (ts : List TypeRecord) → AllRecords ts → (r : ℕ) → get_or (maps_of ts) r 0 % 2 ≡ 0
unfolding maps_of
maps-at ts all r = go (dec_lt r 8)
  where
    go : Dec (r < 8) → get_or (tab 8 (λ r. (get_or ts r no_record).map)) r 0 % 2 ≡ 0
    go (yes inside) = rw (get_or-tab 8 (λ r. (get_or ts r no_record).map) r 0 inside) (record-even ts all r)
    go (no past) = let size = length-tab 8 (λ r. (get_or ts r no_record).map) in rw (get_or-eq_default (tab 8 (λ r. (get_or ts r no_record).map)) 0 {n = r} (omega arith))

-- each is that of its relation's record
pub maps-is : (ts : List TypeRecord) (r : ℕ) → r < 8 → get_or (maps_of ts) r 0 ≡ (get_or ts r no_record).map
unfolding maps_of
maps-is ts r h = get_or-tab 8 (λ r. (get_or ts r no_record).map) r 0 h

pub maps-size : (ts : List TypeRecord) → length (maps_of ts) ≡ 8
unfolding maps_of
maps-size ts = length-tab 8 (λ r. (get_or ts r no_record).map)

-- it is one that can be written, where its entries stand in a slice
pub read_table :
    (m : ℕ) (bytes : List ℕ) (s : Schema) (ts : List TypeRecord) (items : List ℕ)
    → m ≤ 8
    → Bytes bytes
    → ReadSchema m bytes s ts
    → take (length s.entries) items ≡ s.entries
    → WritesFrom s.special items (length s.entries)
read_table m bytes s ts items most below r stands =
    let read = records-read m bytes ts below r.read in
    let size = read.0 in
    let is = read-entries m bytes s ts r in
    let number = ap length is in
    let few = r.few in
    let maps = ap (λ (x : Schema). x.special) r.is in
    record {
      maps = rw maps (maps-size ts);
      even = rw maps (maps-at ts read.1);
      few = omega arith;
      fit = items-stand items s.entries stands (rw is (entries_below ts (omega arith) read.1));
    }

-- ---- the entries of a table that was read, as a slice of their own

pub writes-taken : {special items : List ℕ} {count : ℕ} → WritesFrom special items count → WritesFrom special (take count items) (length (take count items))
writes-taken {special} {items} {count} w =
    let size = items-taken w.fit in
    let few = w.few in
    record {
      maps = w.maps;
      even = w.even;
      few = omega arith;
      fit = taken-fit w.fit;
    }
