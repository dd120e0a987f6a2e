-- Laws of a schema's records: what is read are records, writing and reading undo each other, and each
-- assignment has one schema.
use Rattle.std.specs.Prelude.{ℕ, zero, suc, ◌+◌, ◌*◌, ◌≤◌, ◌<◌, ◌≡◌, refl, List, [], ◌∷◌, ◌++◌, length, get_or, drop, Result, Err, Ok}
use Rattle.std.proofs.Common.{sym, ap, ap₂, ◌∙◌, arith, lit<, length-append, take-append-drop, get_or-drop, drop_at}
use Rattle.bits.specs.Word.{Bytes, bytes-append}
use Rattle.type_record.specs.Record.{TypeRecord, read_record, record_size, record_at, record_bytes, output_size, RecordRead}
use Rattle.type_record.specs.RecordBytes.{IsRecord, size_none, size-most, record-length, record-bytes}
use Rattle.type_record.specs.RecordReading.{record-map, record-read}
use Rattle.type_record.specs.RecordRoundTrip.{read-written, written_read, written-record}
use Rattle.type_record.specs.RecordTypes.{type-once}
use Rattle.schema.specs.Schema.{Records, follow, read_records, no_record, schema_bytes, assignment_of}
use Rattle.refusal.specs.Several.{several_refused as records_refused, several_read as records_read, precede, at_end}
use Rattle.refusal.specs.declared.Refusal.TheVariants.{InputFollowed}
use Rattle.refusal.specs.declared.Refusal.{Refusal}
use Rattle.type_record.specs.declared.records.RecordHead.{RecordHead}

-- all of them are records
abbrev pub AllRecords : List TypeRecord → Type 0
AllRecords [] = Unit {0}
AllRecords (t ∷ ts) = IsRecord t × AllRecords ts

-- ---- reading

ended : (bytes : List ℕ) (ts : List TypeRecord) → at_end InputFollowed bytes ≡ records_read ts → (bytes ≡ []) × (ts ≡ [])
ended [] ts e = (refl, cc)
ended (b ∷ bs) ts e = absurd (let z : ◌≡◌ {A = ℕ} 0 1 = cc in omega arith)

-- the first record of those that are read, and the others
record First (m : ℕ) (bytes : List ℕ) (ts : List TypeRecord) : Type 0 where
  map : ℕ
  count : ℕ
  others : List TypeRecord
  reading : read_record bytes ≡ RecordRead map count
  rest : read_records m (drop (record_size count) bytes) ≡ records_read others
  is : ts ≡ record_at bytes map count ∷ others

first : (m : ℕ) (bytes : List ℕ) (ts : List TypeRecord) → read_records (suc m) bytes ≡ records_read ts → First m bytes ts
unfolding read_records
first m bytes ts e = go (read_record bytes) refl e
  where
    others : (map n : ℕ) → read_record bytes ≡ RecordRead map n → (rs : Records) → read_records m (drop (record_size n) bytes) ≡ rs → precede (record_at bytes map n) rs ≡ records_read ts → First m bytes ts
    others map n reading (records_refused r) rest h = absurd (let z : ◌≡◌ {A = ℕ} 0 1 = cc in omega arith)
    others map n reading (records_read us) rest h = record { map = map; count = n; others = us; reading = reading; rest = rest; is = cc }

    go : (r : Result RecordHead Refusal) → read_record bytes ≡ r → follow r bytes (read_records m) ≡ records_read ts → First m bytes ts
    go (Err r) reading h = absurd (let z : ◌≡◌ {A = ℕ} 0 1 = cc in omega arith)
    go (Ok d) reading h = others d.special d.count reading (read_records m (drop (record_size d.count) bytes)) refl h

bytes_after : (n : ℕ) (bytes : List ℕ) → Bytes bytes → Bytes (drop n bytes)
bytes_after n bytes below i = rw get_or-drop (below (n + i))

-- what is read: m records
pub records-read : (m : ℕ) (bytes : List ℕ) (ts : List TypeRecord) → Bytes bytes → read_records m bytes ≡ records_read ts → (length ts ≡ m) × AllRecords ts
unfolding read_records
records-read zero bytes ts below e = let none = (ended bytes ts e).1 in rw none (refl, tt)
records-read (suc m) bytes ts below e =
    let f = first m bytes ts e in
    let rest = records-read m (drop (record_size f.count) bytes) f.others (bytes_after (record_size f.count) bytes below) f.rest in
    rw f.is (ap suc rest.0, ((record-read bytes f.map f.count below f.reading).is, rest.1))

-- ---- writing what was read

-- writing what was read gives the same bytes
pub records-written : (m : ℕ) (bytes : List ℕ) (ts : List TypeRecord) → Bytes bytes → read_records m bytes ≡ records_read ts → schema_bytes ts ≡ bytes
unfolding read_records schema_bytes
records-written zero bytes ts below e = let none = ended bytes ts e in rw (none.0, none.1)
records-written (suc m) bytes ts below e =
    let f = first m bytes ts e in
    let size = record_size f.count in
    rw (f.is, record-map bytes f.map f.count)
    (ap₂ ◌++◌ (read-written bytes f.map f.count below f.reading) (records-written m (drop size bytes) f.others (bytes_after size bytes below) f.rest)
    ∙ take-append-drop size bytes)

-- ---- reading what was written

-- reading what was written gives the same records
pub written-records : (ts : List TypeRecord) → AllRecords ts → read_records (length ts) (schema_bytes ts) ≡ records_read ts
unfolding read_records schema_bytes
written-records [] all = refl
written-records (t ∷ ts) all =
    let size = drop_at (record_bytes t.map t.ordinary) (schema_bytes ts) (record_size (length t.ordinary)) (record-length t.map t.ordinary) in
    rw (written_read t (schema_bytes ts) all.0, written-record t (schema_bytes ts) all.0, size, written-records ts all.1)

-- a schema has at most 513 bytes a record
pub schema-most : (ts : List TypeRecord) → AllRecords ts → length (schema_bytes ts) ≤ length ts * output_size
unfolding schema_bytes
schema-most [] all = omega arith
schema-most (t ∷ ts) all =
    let rest = schema-most ts all.1 in
    let most = (size-most (length t.ordinary) all.0.few).1 in
    let size = record-length t.map t.ordinary in
    rw length-append (omega arith)

-- a record without a list has two bytes
pub schema-listless : (ts : List TypeRecord) → ((r : ℕ) → r < length ts → length (get_or ts r no_record).ordinary ≡ 0) → length (schema_bytes ts) ≡ length ts * 2
unfolding schema_bytes
schema-listless [] none = refl
schema-listless (t ∷ ts) none =
    let here = record-length t.map t.ordinary ∙ ap record_size (none 0 (omega arith)) ∙ size_none in
    let rest = schema-listless ts (λ r h. none (suc r) (omega arith)) in
    length-append (record_bytes t.map t.ordinary) (schema_bytes ts) ∙ omega arith

-- and they are bytes
pub schema-bytes : (ts : List TypeRecord) → AllRecords ts → Bytes (schema_bytes ts)
unfolding schema_bytes
schema-bytes [] all = λ i. lit< tt
schema-bytes (t ∷ ts) all = bytes-append (record_bytes t.map t.ordinary) (schema_bytes ts) (record-bytes t all.0) (schema-bytes ts all.1)

-- ---- the assignment that a schema means

records-once : (ts us : List TypeRecord) → length ts ≡ length us → AllRecords ts → AllRecords us → ((r : ℕ) → r < length ts → (a : ℕ) → assignment_of ts r a ≡ assignment_of us r a) → ts ≡ us
records-once [] [] size t-all u-all same = refl
records-once [] (u ∷ us) size t-all u-all same = absurd (omega arith)
records-once (t ∷ ts) [] size t-all u-all same = absurd (omega arith)
records-once (t ∷ ts) (u ∷ us) size t-all u-all same =
    ap₂ ◌∷◌ (type-once t u t-all.0 u-all.0 (same 0 (omega arith)))
    (records-once ts us (omega arith) t-all.1 u-all.1 (λ r h. same (suc r) (omega arith)))

-- two schemas that mean the same are the same bytes
pub schema-once :
    (m : ℕ) (bytes others : List ℕ) (ts us : List TypeRecord)
    → Bytes bytes
    → Bytes others
    → read_records m bytes ≡ records_read ts
    → read_records m others ≡ records_read us
    → ((r : ℕ) → r < m → (a : ℕ) → assignment_of ts r a ≡ assignment_of us r a)
    → bytes ≡ others
schema-once m bytes others ts us below below' e e' same =
    let t = records-read m bytes ts below e in
    let u = records-read m others us below' e' in
    let t-size = t.0 in
    let u-size = u.0 in
    sym (records-written m bytes ts below e)
    ∙ ap schema_bytes (records-once ts us (omega arith) t.1 u.1 (λ r h. same r (omega arith)))
    ∙ records-written m others us below' e'
