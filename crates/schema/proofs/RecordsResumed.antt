-- The reading of a schema, resumed at relation r and byte `at`: what it answers after one more record, at a refusal and at the end.
use Prim.Native.Nat.{ℕ, suc, ◌+◌, ◌-◌, ◌*◌, ◌%◌, ◌^◌, ◌≤◌, ◌<◌}
use mathlib.Core.Path.{◌≡◌, refl, sym, ap, ap₂, ◌∙◌}
use mathlib.Core.List.{List, [], ◌∷◌, ◌++◌}
use native.Mathlib.Nat.{sub-zero}
use native.Mathlib.Decide.{dec_lt}
use native.Mathlib.Omega.{arith}
use borrow.Author.Tests.{lt-ltb, le-ltb}
use lib.ListN.{length, set, take, drop, replicate, length-append, length-drop, drop_of_length-le}
use lib.Seq.{drop-drop, drop-cons, get_or-drop}
use Rattle.bits.specs.Bit.{shifted_one}
use Rattle.bits.specs.Part.{part-from}
use Rattle.bits.specs.Tab.{tab, length-tab}
use Rattle.bits.specs.Word.{word, Bytes}
use Rattle.refusal.specs.declared.Refusal.{Refusal}
use Rattle.refusal.specs.declared.Refusal.TheVariants.{InputFollowed, TooManyAttributes}
use Rattle.refusal.specs.Several.{several_read as records_read, at_end, precede_all, precede-more, precede-refused, precede-none}
use Rattle.type_record.specs.ListLaws.{listed-tab}
use Rattle.type_record.specs.Record.{TypeRecord, read_record, record_size, record_at, RecordRead}
use Rattle.type_record.specs.RecordBytes.{size-some, size-most}
use Rattle.type_record.specs.RecordReading.{ReadRecord, record-map, record-ordinary, record-read}
use Rattle.membership.specs.Entries.{enter, ListFits, TableIn, RoomFor, SpareFor}
use Rattle.membership.specs.EnterLaws.{enter-few}
use Rattle.entering.specs.Merging.{Enters}
use Rattle.entering.specs.Entering.{CopyFits}
use Rattle.membership.specs.TableLaws.{table_none, table-few, table-least, table-reaches, table-count, table-full, table-all, enter-table}
use Rattle.schema.specs.Schema.{Records, follow, read_records, entries_of, maps_of, tabled, refused_schema, schema_reading, reading_of, EntriesStand, Schema}
use Rattle.schema.specs.RecordsLaws.{AllRecords}
use Rattle.schema.specs.EntriesLaws.{maps_none}
use Rattle.schema.proofs.OneMoreRecord.{all_more, entries-more, maps-more}
use Rattle.std.specs.Prelude.{Result, Err, Ok}
use Rattle.type_record.specs.declared.records.RecordHead.{RecordHead}
use Rattle.schema.specs.Judgement.{Read, Refused}
use Rattle.schema.specs.TableLaws.{refused-reading, refused-not}

pub record Resumed (m : ℕ) (bytes special items : List ℕ) (found at r : ℕ) : Type 0 where
  -- the records of the relations before r
  pub done : List TypeRecord
  pub count : length done ≡ r
  pub all : AllRecords done
  pub most : r ≤ m
  pub inside : at ≤ length bytes
  pub maps : special ≡ maps_of done
  pub table : TableIn (entries_of done) items found
  -- two bytes were read for each entry
  pub short : length (entries_of done) * 2 ≤ at
  pub rest : read_records m bytes ≡ precede_all done (read_records (m - r) (drop at bytes))

-- a schema that is refused: the answer, and no entries to stand anywhere
pub refused-so : (m : ℕ) (bytes items : List ℕ) (x : Refusal) → refused_schema x ≡ schema_reading m bytes →
    (Err x ≡ reading_of (schema_reading m bytes)) × EntriesStand (schema_reading m bytes).judgement (schema_reading m bytes).entries items
refused-so m bytes items x is = (sym (refused-reading x) ∙ ap reading_of is, λ read. absurd (refused-not x (ap (λ (s : Schema). s.judgement) is ∙ read)))

pub resumed-start : (m : ℕ) (bytes items : List ℕ) → Resumed m bytes (replicate 8 0) items 0 0 0
unfolding entries_of
resumed-start m bytes items =
    record {
      done = [];
      count = refl;
      all = tt;
      most = omega arith;
      inside = omega arith;
      maps = sym maps_none;
      table = table_none items;
      short = omega arith;
      rest = ap (λ (n : ℕ). read_records n bytes) (sym (sub-zero m));
    }

module _ {m : ℕ} {bytes special items : List ℕ} {found at r : ℕ} (h : Resumed m bytes special items found at r) (below : Bytes bytes) (few : m ≤ 8) where
  -- the record at `at` as the code reads it
  abbrev Reads : Result RecordHead Refusal → Type 0
  Reads x = read_record (take (length bytes - at) (drop at bytes)) ≡ x

  one_more : (x : Result RecordHead Refusal) → r < m → Reads x → read_records (m - r) (drop at bytes) ≡ follow x (drop at bytes) (read_records (m - (r + 1)))
  unfolding read_records
  one_more x more e =
      let left : m - r ≡ suc (m - (r + 1)) = omega arith in
      let reading : read_record (drop at bytes) ≡ x = rw part-from at e in
      rw (left, reading)

  pub resumed-refused : {x : Refusal} → r < m → Reads (Err x) → refused_schema x ≡ schema_reading m bytes
  unfolding schema_reading
  resumed-refused {x} more e = sym (ap tabled
      (h.rest ∙ ap (precede_all h.done) (one_more (Err x) more e) ∙ precede-refused h.done x))

  -- ---- one record more

  module _ {map n : ℕ} (e : Reads (RecordRead map n)) where
    is_read : ReadRecord (drop at bytes) map n
    is_read = record-read (drop at bytes) map n (λ i. rw get_or-drop (below (at + i))) (rw part-from at e)

    -- its bytes, and those of its list
    pub record-fits : (n ≤ 255) × (at + 2 ≤ length bytes) × (at + record_size n ≤ length bytes)
    record-fits =
        let few = is_read.few in
        let fits = is_read.fits in
        let size = (size-most n few).0 in
        let inside = h.inside in
        let left = length-drop at bytes in
        (few, omega arith, omega arith)

    pub list-fits : ListFits n (take (length bytes - (at + 2)) (drop (at + 2) bytes))
    list-fits i some =
        let size = size-some n (omega arith) in
        let fits = record-fits.2 in
        let left = length-drop (at + 2) bytes in
        rw part-from (omega arith)

    -- its list can be entered
    pub enters : Enters (take (length bytes - (at + 2)) (drop (at + 2) bytes)) n items found
    enters = record { few = record-fits.0; fits = list-fits; most = table-few h.table; enough = table-reaches h.table }

    -- two bytes for each entry and each listed attribute
    entries-short : (found + n) * 2 ≤ length bytes
    entries-short = go (dec_lt 0 n)
      where
        go : Dec (0 < n) → (found + n) * 2 ≤ length bytes
        go (yes some) = let least = table-least h.table in let short = h.short in let size = size-some n some in let end = record-fits.2 in omega arith
        go (no none) = let least = table-least h.table in let short = h.short in let inside = record-fits.1 in omega arith

    -- and there is room for them
    pub copy-fits : (slice : List ℕ) → RoomFor (length bytes) slice → CopyFits n found slice
    copy-fits slice wide k less under = let short = entries-short in let one = wide (k + 1) (omega arith) (omega arith) in omega arith

    pub spare-fits : (slice : List ℕ) → SpareFor (length bytes) slice → n + found ≤ length slice
    spare-fits slice wide =
        let short = entries-short in
        let few = record-fits.0 in
        let most = table-few h.table in
        wide (n + found) (omega arith) (omega arith)

    listed-is : tab n (λ x. word (take (length bytes - (at + 2)) (drop (at + 2) bytes)) (x * 2 + 1)) ≡ (record_at (drop at bytes) map n).ordinary
    listed-is =
        rw (part-from bytes (at + 2), record-ordinary (drop at bytes) map n, drop-drop 2 at bytes) (sym (listed-tab (drop (at + 2) bytes) n))

    -- the entries with its attributes
    entered-is :
        {next : List ℕ} {size : ℕ}
        → r < m
        → TableIn
        (enter (1 * 2 ^ r % 256) (tab n (λ x. word (take (length bytes - (at + 2)) (drop (at + 2) bytes)) (x * 2 + 1)))
        (take found items))
        next size
        → TableIn (entries_of (h.done ++ (record_at (drop at bytes) map n ∷ []))) next size
    entered-is more t =
        rw (entries-more (record_at (drop at bytes) map n) h.done, h.count)
        (enter-table h.table (2 ^ r) (record_at (drop at bytes) map n).ordinary (rw (shifted_one 8 r (omega arith), listed-is) at t))

    entered-short : length (entries_of (h.done ++ (record_at (drop at bytes) map n ∷ []))) * 2 ≤ at + record_size n
    entered-short = go (dec_lt 0 n)
      where
        least : length (entries_of (h.done ++ (record_at (drop at bytes) map n ∷ []))) ≤ n + length (entries_of h.done)
        least =
            let size = sym (ap length listed-is) ∙ length-tab n (λ x. word (take (length bytes - (at + 2)) (drop (at + 2) bytes)) (x * 2 + 1)) in
            let few = enter-few (2 ^ length h.done) (record_at (drop at bytes) map n).ordinary (entries_of h.done) in
            rw (entries-more (record_at (drop at bytes) map n) h.done) (omega arith)

        go : Dec (0 < n) → length (entries_of (h.done ++ (record_at (drop at bytes) map n ∷ []))) * 2 ≤ at + record_size n
        go (yes some) = let l = least in let short = h.short in let end = size-some n some in omega arith
        go (no none) = let l = least in let short = h.short in omega arith

    maps-is : r < m → set special r map ≡ maps_of (h.done ++ (record_at (drop at bytes) map n ∷ []))
    maps-is more =
        let c = h.count in
        ap (set special r) (sym (record-map (drop at bytes) map n))
        ∙ rw (h.maps, ← c) (maps-more (record_at (drop at bytes) map n) h.done (omega arith))

    pub resumed-next :
        {next : List ℕ} {number size : ℕ}
        → r < m
        → TableIn
        (enter (1 * 2 ^ r % 256) (tab n (λ x. word (take (length bytes - (at + 2)) (drop (at + 2) bytes)) (x * 2 + 1)))
        (take found items))
        next number
        → size ≡ record_size n
        → Resumed m bytes (set special r map) next number (at + size) (r + 1)
    resumed-next more made size_is =
        let fits = record-fits.2 in
        let c = h.count in
        let whole = length-append h.done (record_at (drop at bytes) map n ∷ []) in
        record {
          done = h.done ++ (record_at (drop at bytes) map n ∷ []);
          count = omega arith;
          all = all_more (record_at (drop at bytes) map n) h.done h.all is_read.is;
          most = omega arith;
          inside = omega arith;
          maps = maps-is more;
          table = entered-is more made;
          short = rw size_is entered-short;
          rest =
              h.rest
              ∙ ap (precede_all h.done) (one_more (RecordRead map n) more e)
              ∙ precede-more h.done (record_at (drop at bytes) map n) (read_records (m - (r + 1)) (drop (record_size n) (drop at bytes)))
              ∙ rw (size_is, drop-drop (record_size n) at bytes);
        }

  -- ---- the end

  ended : m ≤ r → read_records m bytes ≡ precede_all h.done (at_end InputFollowed (drop at bytes))
  unfolding read_records
  ended last =
      let none : m - r ≡ 0 = omega arith in
      h.rest ∙ rw none

  pub resumed-followed : m ≤ r → at < length bytes → refused_schema InputFollowed ≡ schema_reading m bytes
  unfolding schema_reading
  resumed-followed last more =
      sym
      (ap tabled
      (ended last
      ∙ ap (λ (l : List ℕ). precede_all h.done (at_end InputFollowed l)) (drop-cons bytes at 0 more)
      ∙ precede-refused h.done InputFollowed))

  read_all : m ≤ r → length bytes ≤ at → read_records m bytes ≡ records_read h.done
  read_all last none = ended last ∙ ap (λ (l : List ℕ). precede_all h.done (at_end InputFollowed l)) (drop_of_length-le bytes none) ∙ precede-none h.done

  -- over 255 entries, as the table counts them and as they are
  full : 255 < found → 255 < length (entries_of h.done)
  full over = go (dec_lt 255 (length (entries_of h.done)))
    where
      go : Dec (255 < length (entries_of h.done)) → 255 < length (entries_of h.done)
      go (yes more) = more
      go (no less) = let count = table-count h.table (omega arith) in absurd (omega arith)

  fitting : found ≤ 255 → length (entries_of h.done) ≤ 255
  fitting under = go (dec_lt 255 (length (entries_of h.done)))
    where
      go : Dec (255 < length (entries_of h.done)) → length (entries_of h.done) ≤ 255
      go (yes more) = let over = table-full h.table more in absurd (omega arith)
      go (no less) = omega arith

  pub resumed-over : m ≤ r → length bytes ≤ at → 255 < found → refused_schema TooManyAttributes ≡ schema_reading m bytes
  unfolding schema_reading
  resumed-over last none over = sym (ap tabled (read_all last none) ∙ rw (lt-ltb 255 (length (entries_of h.done)) (full over)))

  pub resumed-end :
      m ≤ r
      → length bytes ≤ at
      → found ≤ 255
      → (Ok (record { special = special; count = found }) ≡ reading_of (schema_reading m bytes))
      × (take (length (schema_reading m bytes).entries) items ≡ (schema_reading m bytes).entries)
  unfolding schema_reading reading_of
  resumed-end last none under =
      let small = fitting under in
      let is : tabled (read_records m bytes)
      ≡ record { judgement = Read; special = maps_of h.done; entries = entries_of h.done } = ap tabled (read_all last none)
      ∙ rw (le-ltb 255 (length (entries_of h.done)) small) in
      let number = table-count h.table small in
      let stands = table-all h.table small in
      rw is (ap₂ (λ (s : List ℕ) (n : ℕ). Ok (record { special = s; count = n })) h.maps number, rw (← number) stands)

  -- a slice with room for the bytes has room for the entries
  pub resumed-fits : found ≤ 255 → (slice : List ℕ) → SpareFor (length bytes) slice → found ≤ length slice
  resumed-fits under slice room =
      let least = table-least h.table in
      let short = h.short in
      let inside = h.inside in
      room found (omega arith) (omega arith)
