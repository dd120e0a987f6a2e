-- Schemas (FORMAT 5.1 to 5.3, 8.4).
use Rattle.std.specs.Prelude.{ℕ, zero, suc, ◌+◌, ◌%◌, ◌^◌, ◌≤◌, ◌≡◌, cond, List, [], ◌∷◌, ◌++◌, ltb, length, get_or, take, drop, Result, Err, Ok}
use Rattle.bits.specs.Tab.{tab}
use Rattle.types.specs.Types.{Assignment}
use Rattle.refusal.specs.declared.Refusal.{Refusal}
use Rattle.refusal.specs.declared.Refusal.TheVariants.{InputFollowed, TooManyAttributes}
use Rattle.refusal.specs.Several.{Several, several_refused as records_refused, several_read as records_read, precede, at_end}
use Rattle.type_record.specs.Record.{TypeRecord, read_record, record_size, record_at, record_bytes, type_of, RecordRead}
use Rattle.membership.specs.Entries.{enter}
use Rattle.membership.specs.Holders.{held_by, ItemsFit}
use Rattle.schema.specs.declared.reading.SchemaTable.{SchemaTable}
use Rattle.type_record.specs.declared.records.RecordHead.{RecordHead}
use Rattle.schema.specs.Judgement.{Judgement, Read, Refused}

-- FORMAT 9.9: the bytes of the longest schema, and the least length of a slice for one
abbrev pub schema_size : ℕ
schema_size = 4104

-- ---- the records

-- the records of a schema, or the first refusal
abbrev pub Records : Type 0
Records = Several TypeRecord

-- what a record's reading gives, with the reading of what follows it
abbrev pub follow : Result RecordHead Refusal → List ℕ → (List ℕ → Records) → Records
follow (Err r) bytes rest = records_refused r
follow (Ok d) bytes rest = precede (record_at bytes d.special d.count) (rest (drop (record_size d.count) bytes))

-- FORMAT 5.1, 8.4: so many records, each where the one before ends, and then 17
unfoldable pub read_records : ℕ → List ℕ → Records
read_records zero bytes = at_end InputFollowed bytes
read_records (suc m) bytes = follow (read_record bytes) bytes (read_records m)

-- FORMAT 5.1: the bytes of these records
unfoldable pub schema_bytes : List TypeRecord → List ℕ
schema_bytes [] = []
schema_bytes (t ∷ ts) = record_bytes t.map t.ordinary ++ schema_bytes ts

-- ---- what they say

-- the record of the empty type
abbrev pub no_record : TypeRecord
no_record = record { map = 0; ordinary = [] }

-- FORMAT 5.3: the assignment that the records mean: relation r has the type of record r
abbrev pub assignment_of : List TypeRecord → Assignment
assignment_of ts r = type_of (get_or ts r no_record)

-- ---- the membership table

-- the entries, once relations from r on have these records
abbrev pub entries_from : ℕ → List TypeRecord → List ℕ → List ℕ
entries_from r [] es = es
entries_from r (t ∷ ts) es = entries_from (r + 1) ts (enter (2 ^ r) t.ordinary es)

-- the different ordinary attributes, each with the relations that hold it
unfoldable pub entries_of : List TypeRecord → List ℕ
entries_of ts = entries_from 0 ts []

-- the map of special attributes of each of eight relations; 0 where there is no record
unfoldable pub maps_of : List TypeRecord → List ℕ
maps_of ts = tab 8 (λ r. (get_or ts r no_record).map)

-- ---- reading

-- what the bytes of a schema say: whether it is refused, and if not its membership table
pub record Schema : Type 0 where
  pub judgement : Judgement
  -- a map of special attributes for each relation
  pub special : List ℕ
  pub entries : List ℕ

-- a refused schema: its table is empty
unfoldable pub refused_schema : Refusal → Schema
refused_schema r = record { judgement = Refused r; special = maps_of []; entries = [] }

-- FORMAT 8.4: 18, once the records are read; and the membership table
abbrev pub tabled : Records → Schema
tabled (records_refused r) = refused_schema r
tabled (records_read ts) =
    cond (ltb 255 (length (entries_of ts))) (refused_schema TooManyAttributes)
    (record { judgement = Read; special = maps_of ts; entries = entries_of ts })

-- FORMAT 8.4: what the bytes of a schema of m relations say
unfoldable pub schema_reading : ℕ → List ℕ → Schema
schema_reading m bytes = tabled (read_records m bytes)

-- the same as it is handed on, with the number of the entries
abbrev pub handed : Judgement → Schema → Result SchemaTable Refusal
handed Read s = Ok (record { special = s.special; count = length s.entries })
handed (Refused r) s = Err r

-- the same by its judgement
unfoldable pub reading_of : Schema → Result SchemaTable Refusal
reading_of s = handed s.judgement s

-- if the input was read, its entries stand at the front of the slice; after a refusal the slice is free
abbrev pub EntriesStand : Judgement → List ℕ → List ℕ → Type 0
EntriesStand judgement entries items = judgement ≡ Read → take (length entries) items ≡ entries

-- ---- writing

-- FORMAT 5.3: the records of m relations that a table says
unfoldable pub records_of : ℕ → List ℕ → List ℕ → List TypeRecord
records_of m special entries = tab m (λ r. record { map = get_or special r 0; ordinary = held_by r entries })

-- what a table that is written must be: maps with bit 0 clear, at most 255 entries below 2 ^ 24
pub record WritesFrom (special items : List ℕ) (count : ℕ) : Type 0 where
  pub maps : length special ≡ 8
  pub even : (r : ℕ) → get_or special r 0 % 2 ≡ 0
  pub few : count ≤ 255
  pub fit : ItemsFit items count
