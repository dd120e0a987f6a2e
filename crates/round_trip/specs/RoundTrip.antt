-- The second half of demand 2: Apply and Recover undo each other, byte by byte. First in tables: what is read from the
-- bytes that the other has written.
use Rattle.std.specs.Prelude.{ℕ, ◌≤◌, ◌≡◌, true, false, List, [], length, get_or, drop}
use Rattle.std.proofs.Common.{sym, ap, ap₂, ◌∙◌, arith}
use Rattle.bits.specs.Word.{Bytes}
use Rattle.algebra.specs.Expression.{Expression}
use Rattle.type_record.specs.Record.{TypeRecord}
use Rattle.schema.specs.Schema.{read_records, schema_bytes, records_of, entries_of, maps_of, schema_reading}
use Rattle.schema.specs.RecordsLaws.{AllRecords, records-read, records-written}
use Rattle.schema.specs.EntriesLaws.{table-records}
use Rattle.schema.specs.TableLaws.{ReadSchema}
use Rattle.instantiation.specs.Seen.{nothing_seen, repeated_in}
use Rattle.instantiation.specs.Instantiation.{read_lists, entries_in, all_listed, subsets_of, lists_of, instantiation_bytes, instantiation_reading}
use Rattle.instantiation.specs.ReadLaws.{IsLists, lists-read, lists-written, written-lists, written-subsets}
use Rattle.instantiation.specs.EntriesLaws.{entries-rising, entries_below, entries-lists}
use Rattle.instantiation.proofs.EntriesLaws.{lists-of, lists-once, lists-entries}
use Rattle.instantiation.specs.TableLaws.{ReadInstantiation, read-instantiation, subsets-size, subsets-none, subsets-small}
use Rattle.special_maps.specs.Special.{maps_from, subsets_from}
use Rattle.special_maps.specs.SpecialLaws.{subsets-back, maps-back, subset-zero}
use Rattle.special_maps.specs.SpecialLaws as Special
use Rattle.fitting.specs.Fit.{entries_fit, specials_fit}
use Rattle.apply_answer.specs.Apply.{image_bytes}
use Rattle.recover_answer.specs.Recover.{recovered_bytes}
use Rattle.schema.specs.Image.{IsTable, held-positive, image-schema as table-schema, schema-table}
use Rattle.round_trip.specs.Tables.{fit-table}
use Rattle.refusal.specs.Several.{several_read as records_read, several_read as lists_read}

-- ---- an instantiation that fits, its image, and what is recovered from it

module _ (m : ℕ) (few : m ≤ 8) (e : Expression) (bytes : List ℕ) (below : Bytes bytes) (ls : List (List ℕ)) (long : 47 ≤ length bytes)
    (read : read_lists bytes 256 0 (drop 47 bytes) ≡ lists_read ls) (once : repeated_in nothing_seen (all_listed ls) ≡ false)
    (most : length (entries_in ls) ≤ 255) (fit : entries_fit m e (entries_in ls) ≡ true) (special : specials_fit m e (subsets_of bytes) ≡ true)
  where
    lists : IsLists ls
    lists = lists-read bytes ls below long read

    pub applied-table : IsTable m (maps_from (subsets_of bytes)) (entries_in ls)
    applied-table = fit-table m few e (subsets_of bytes) (entries_in ls) (subsets-none bytes) fit special most (entries-rising ls lists) (entries_below ls lists)

    -- the image is read as the table that was applied
    pub image-schema : ReadSchema m (image_bytes m (subsets_of bytes) (entries_in ls)) (schema_reading m (image_bytes m (subsets_of bytes) (entries_in ls))) (records_of m (maps_from (subsets_of bytes)) (entries_in ls))
    image-schema = table-schema m few (maps_from (subsets_of bytes)) (entries_in ls) applied-table

    -- what is recovered from that table is the instantiation
    pub recovered-same : get_or ls 0 [] ≡ [] → recovered_bytes (maps_from (subsets_of bytes)) (entries_in ls) ≡ bytes
    recovered-same none =
        ap₂ instantiation_bytes (subsets-back (subsets_of bytes) (subsets-size bytes) (subsets-small bytes below)) (entries-lists ls lists none once)
        ∙ lists-written bytes ls below long read

-- ---- a schema that fits, its instantiation, and what is applied to it

module _ (m : ℕ) (few : m ≤ 8) (schema : List ℕ) (below : Bytes schema) (ts : List TypeRecord) (read : read_records m schema ≡ records_read ts) (most : length (entries_of ts) ≤ 255) where
  records : (length ts ≡ m) × AllRecords ts
  records = records-read m schema ts below read

  pub recovered-table : IsTable m (maps_of ts) (entries_of ts)
  recovered-table = schema-table m ts few records.0 records.1 most

  written-lists-are : IsLists (lists_of (entries_of ts))
  written-lists-are = lists-of (entries_of ts) recovered-table.rising recovered-table.below most

  -- the instantiation is read as the table that was recovered
  pub written-instantiation :
      47 ≤ length (recovered_bytes (maps_of ts) (entries_of ts))
      → ReadInstantiation (recovered_bytes (maps_of ts) (entries_of ts)) (instantiation_reading (recovered_bytes (maps_of ts) (entries_of ts)))
      (lists_of (entries_of ts))
  written-instantiation long =
      let back = lists-entries (entries_of ts) recovered-table.rising (held-positive m (entries_of ts) recovered-table.held) in
      read-instantiation (recovered_bytes (maps_of ts) (entries_of ts)) (lists_of (entries_of ts)) long
      (written-lists (subsets_from (maps_of ts)) (lists_of (entries_of ts)) written-lists-are)
      (lists-once (entries_of ts) recovered-table.rising)
      (rw back most)

  pub written-table : (subsets_of (recovered_bytes (maps_of ts) (entries_of ts)) ≡ subsets_from (maps_of ts)) × (entries_in (lists_of (entries_of ts)) ≡ entries_of ts)
  written-table = (
    written-subsets (subsets_from (maps_of ts)) (lists_of (entries_of ts)) (Special.subsets-size (maps_of ts)) (subset-zero (maps_of ts) recovered-table.even),
    lists-entries (entries_of ts) recovered-table.rising (held-positive m (entries_of ts) recovered-table.held),
  )

  -- its image is the schema
  pub image-same : image_bytes m (subsets_from (maps_of ts)) (entries_of ts) ≡ schema
  image-same =
      let size = records.0 in
      ap (λ (x : List ℕ). schema_bytes (records_of m x (entries_of ts))) (maps-back (maps_of ts) recovered-table.size recovered-table.small)
      ∙ ap (λ (n : ℕ). schema_bytes (records_of n (maps_of ts) (entries_of ts))) (sym size)
      ∙ ap schema_bytes (table-records ts (omega arith) records.1)
      ∙ records-written m schema ts below read
