-- The image of a table is a schema, and reading it gives the table back.
use Rattle.std.specs.Prelude.{ℕ, zero, suc, ◌%◌, ◌^◌, ◌≤◌, ◌<◌, ◌≡◌, Bool, true, false, cond, List, [], ◌∷◌, eqb, length, get_or}
use Rattle.std.proofs.Common.{sym, ap, ◌∙◌, lt_of_lt_of_le, arith, lit<, pow_pos, pow_mono, ext_get_or}
use Rattle.std.proofs.Math.Decide.{dec_lt}
use Rattle.std.proofs.Math.ListN.{get_or-eq_default}
use Rattle.bits.specs.Bit.{bit, bit-above}
use Rattle.bits.specs.Pack.{bits-once}
use Rattle.bits.specs.Rising.{member}
use Rattle.type_record.specs.Record.{TypeRecord}
use Rattle.membership.specs.Entries.{attribute_of, subset_of, holders_in}
use Rattle.membership.specs.EnterLaws.{RisingEntries}
use Rattle.membership.specs.EntriesOnce.{Positive, entries-once}
use Rattle.membership.specs.Holders.{held_by}
use Rattle.membership.specs.HolderLaws.{held-member, held-rising, held-few, held_below, holders-small}
use Rattle.membership.specs.TableLaws.{Below}
use Rattle.schema.specs.Schema.{read_records, no_record, schema_bytes, entries_of, maps_of, schema_reading, records_of}
use Rattle.schema.specs.RecordsLaws.{AllRecords, written-records}
use Rattle.schema.specs.EntriesLaws.{entries-rising, entries_below, entries-holders, records-size, record_of_lem, records-all}
use Rattle.schema.specs.TableLaws.{ReadSchema, read-schema, maps-at, maps-is, maps-size}
use Rattle.schema.specs.Bounds.{Held, schema-held}
use Rattle.refusal.specs.Several.{several_read as records_read}

-- a table of m relations: rising entries of two bytes, each held by some of them, at most 255; a map for each, with bit
-- 0 clear, and empty ones from m on
pub record IsTable (m : ℕ) (maps es : List ℕ) : Type 0 where
  pub size : length maps ≡ 8
  pub even : (r : ℕ) → get_or maps r 0 % 2 ≡ 0
  pub small : (r : ℕ) → get_or maps r 0 < 65536
  pub empty : (r : ℕ) → m ≤ r → get_or maps r 0 ≡ 0
  pub few : length es ≤ 255
  pub rising : RisingEntries 15 es
  pub below : Below 16777216 es
  pub held : Held m es

-- ---- general facts

pub held-positive : (m : ℕ) (es : List ℕ) → Held m es → Positive es
held-positive m [] h = tt
held-positive m (e ∷ es) h = (h.0, held-positive m es h.2)

pub holders-held : (m : ℕ) (es : List ℕ) → Held m es → (a : ℕ) → holders_in es a < 2 ^ m
holders-held m [] h a = pow_pos m
holders-held m (e ∷ es) h a = go (eqb a (attribute_of e)) (holders-held m es h.2 a)
  where
    go : (t : Bool) → holders_in es a < 2 ^ m → cond t (subset_of e) (holders_in es a) < 2 ^ m
    go true rest = h.1
    go false rest = rest

-- ---- the image

module _ (m : ℕ) (few : m ≤ 8) (maps es : List ℕ) (table : IsTable m maps es) where
  pub image-size : length (records_of m maps es) ≡ m
  image-size = records-size m maps es

  pub image-at : (r : ℕ) → r < m → get_or (records_of m maps es) r no_record ≡ record { map = get_or maps r 0; ordinary = held_by r es }
  image-at r h = record_of_lem m maps es r h

  pub image-records : AllRecords (records_of m maps es)
  image-records =
      records-all m maps es
      (λ r h. let most = held-few r es in
      let fits = table.few in
      record {
        even = table.even r;
        small = table.small r;
        few = omega arith;
        rising = held-rising 15 r es table.rising;
        below = held_below r es table.below;
      })

  -- it is read as its records
  pub image-read : read_records m (schema_bytes (records_of m maps es)) ≡ records_read (records_of m maps es)
  image-read = ap (λ (n : ℕ). read_records n (schema_bytes (records_of m maps es))) (sym image-size) ∙ written-records (records_of m maps es) image-records

  -- the entries of the records are those of the table
  same-holders : (a : ℕ) → holders_in (entries_of (records_of m maps es)) a ≡ holders_in es a
  same-holders a =
      let size = image-size in
      bits-once 8 (holders_in (entries_of (records_of m maps es)) a) (holders_in es a) (holders-small (entries_of (records_of m maps es)) a) (holders-small es a)
      (λ r h. entries-holders (records_of m maps es) (omega arith) image-records a r h ∙ go r h (dec_lt r m))
    where
      go : (r : ℕ) → r < 8 → Dec (r < m) → member a (get_or (records_of m maps es) r no_record).ordinary ≡ bit (holders_in es a) r
      go r h (yes below) = ap (λ (t : TypeRecord). member a t.ordinary) (image-at r below) ∙ held-member 15 r es h table.rising a
      go r h (no above) =
          let size = image-size in
          ap (λ (t : TypeRecord). member a t.ordinary) (get_or-eq_default (records_of m maps es) no_record {n = r} (omega arith))
          ∙ sym (bit-above (holders_in es a) r (lt_of_lt_of_le (holders-held m es table.held a) (pow_mono (omega arith))))

  pub image-entries : entries_of (records_of m maps es) ≡ es
  image-entries =
      let size = image-size in
      entries-once 15 (entries_of (records_of m maps es)) es (entries-rising (records_of m maps es) (omega arith) image-records) table.rising
      (held-positive m (entries_of (records_of m maps es)) (schema-held m (records_of m maps es) few (omega arith)))
      (held-positive m es table.held)
      same-holders

  -- reading it refuses nothing
  pub image-schema : ReadSchema m (schema_bytes (records_of m maps es)) (schema_reading m (schema_bytes (records_of m maps es))) (records_of m maps es)
  image-schema = let back = image-entries in read-schema m (schema_bytes (records_of m maps es)) (records_of m maps es) image-read (rw back table.few)

  -- and so are the maps
  pub image-maps : maps_of (records_of m maps es) ≡ maps
  image-maps =
      ext_get_or 0 (maps_of (records_of m maps es)) maps (maps-size (records_of m maps es) ∙ sym table.size)
      (λ r h. let size = maps-size (records_of m maps es) in maps-is (records_of m maps es) r (omega arith) ∙ go r (dec_lt r m))
    where
      go : (r : ℕ) → Dec (r < m) → (get_or (records_of m maps es) r no_record).map ≡ get_or maps r 0
      go r (yes below) = ap (λ (t : TypeRecord). t.map) (image-at r below)
      go r (no above) =
          let size = image-size in
          ap (λ (t : TypeRecord). t.map) (get_or-eq_default (records_of m maps es) no_record {n = r} (omega arith)) ∙ sym (table.empty r (omega arith))

-- ---- the table of a schema is one

record-small : (ts : List TypeRecord) → AllRecords ts → (r : ℕ) → (get_or ts r no_record).map < 65536
record-small [] all r = lit< tt
record-small (t ∷ ts) all zero = all.0.small
record-small (t ∷ ts) all (suc r) = record-small ts all.1 r

maps-small : (ts : List TypeRecord) → AllRecords ts → (r : ℕ) → get_or (maps_of ts) r 0 < 65536
maps-small ts all r = go (dec_lt r 8)
  where
    go : Dec (r < 8) → get_or (maps_of ts) r 0 < 65536
    go (yes h) = rw (maps-is ts r h) (record-small ts all r)
    go (no h) = let size = maps-size ts in rw (get_or-eq_default (maps_of ts) 0 {n = r} (omega arith)) (lit< tt)

maps-empty : (ts : List TypeRecord) (r : ℕ) → length ts ≤ r → get_or (maps_of ts) r 0 ≡ 0
maps-empty ts r past = go (dec_lt r 8)
  where
    go : Dec (r < 8) → get_or (maps_of ts) r 0 ≡ 0
    go (yes h) = maps-is ts r h ∙ ap (λ (t : TypeRecord). t.map) (get_or-eq_default ts no_record {n = r} past)
    go (no h) = let size = maps-size ts in get_or-eq_default (maps_of ts) 0 {n = r} (omega arith)

pub schema-table : (m : ℕ) (ts : List TypeRecord) → m ≤ 8 → length ts ≡ m → AllRecords ts → length (entries_of ts) ≤ 255 → IsTable m (maps_of ts) (entries_of ts)
schema-table m ts few size all fits =
    record {
      size = maps-size ts;
      even = maps-at ts all;
      small = maps-small ts all;
      empty = λ r h. maps-empty ts r (omega arith);
      few = fits;
      rising = entries-rising ts (omega arith) all;
      below = entries_below ts (omega arith) all;
      held = schema-held m ts few (omega arith);
    }
