-- The reading of an instantiation once its lists are read: 17, 19, 18 (FORMAT 8.4).
use Rattle.std.specs.Prelude.{ℕ, ◌*◌, ◌≤◌, ◌<◌, ◌≡◌, refl, Bool, true, drop, replicate, Result, Ok, Err}
use Rattle.std.proofs.Math.Path.{sym, ap, ap₂, subst}
use Rattle.std.proofs.Common.{◌∙◌}
use Rattle.std.proofs.Math.Bool.{false}
use mathlib.Core.List.{List}
use Rattle.std.proofs.Math.Decide.{dec_lt}
use native.Mathlib.Omega.{arith}
use borrow.Author.Tests.{lt-ltb, le-ltb}
use Rattle.std.proofs.Math.ListN.{length, take}
use Rattle.bits.specs.Tab.{tab-same}
use Rattle.bits.specs.Word.{Bytes}
use Rattle.refusal.specs.declared.Refusal.{Refusal}
use Rattle.refusal.specs.declared.Refusal.TheVariants.{InputTruncated, TooManyAttributes, RepeatedAttribute}
use Rattle.refusal.specs.Several.{several_refused as lists_refused, several_read as lists_read}
use Rattle.membership.specs.Entries.{TableIn, RoomFor}
use Rattle.membership.specs.Holders.{ItemsFit}
use Rattle.membership.specs.TableLaws.{table-count, table-full, table-all, table-reaches}
use Rattle.entry_sorting.specs.Order.{ascending}
use Rattle.entry_sorting.specs.Passes.{front-fit}
use Rattle.entry_sorting.specs.Sorting.{by_attribute}
use Rattle.schema.specs.Schema.{EntriesStand}
use Rattle.instantiation.specs.Instantiation.{Instantiation, Lists, read_lists, entries_in, all_listed, subsets_of, refused_instantiation, instantiation_reading, reading_of}
use Rattle.instantiation.specs.Gathering.{listed_from, gathered, GatheredIn}
use Rattle.instantiation.specs.ReadLaws.{IsLists, lists-read}
use Rattle.instantiation.specs.Seen.{nothing_seen, repeated_in}
use Rattle.instantiation.specs.SortedLists.{listed_below, rising-apart, falling-repeated, sorted-lists, sorted-length}
use Rattle.schema.specs.Judgement.{Read, Refused}

-- ---- a refusal

-- what is handed on
pub refused-fields : (r : Refusal) → Err r ≡ reading_of (refused_instantiation r)
unfolding reading_of refused_instantiation
refused-fields r = refl

-- what is handed on, and nothing is said of the entries
pub refused-reading :
    (bytes items : List ℕ) (r : Refusal)
    → refused_instantiation r ≡ instantiation_reading bytes
    → (Err r ≡ reading_of (instantiation_reading bytes))
    × EntriesStand (instantiation_reading bytes).judgement (instantiation_reading bytes).entries items
unfolding reading_of refused_instantiation
refused-reading bytes items r same = (
  ap reading_of same,
  λ said. absurd (let other = ap (λ (i : Instantiation). i.judgement) same ∙ said in let z : ◌≡◌ {A = ℕ} 0 1 = cc in omega arith),
)

pub reading-short : (bytes : List ℕ) → length bytes < 47 → refused_instantiation InputTruncated ≡ instantiation_reading bytes
unfolding instantiation_reading
reading-short bytes short = sym (rw (lt-ltb (length bytes) 47 short))

pub lists-refused : (bytes : List ℕ) {x : Result ℕ Refusal} {r : Refusal} → 47 ≤ length bytes →
    x ≡ gathered (read_lists bytes 256 0 (drop 47 bytes)) → x ≡ Err r → refused_instantiation r ≡ instantiation_reading bytes
unfolding instantiation_reading
lists-refused bytes {x} {r} enough is e = go (read_lists bytes 256 0 (drop 47 bytes)) refl
  where
    go : (ls : Lists) → read_lists bytes 256 0 (drop 47 bytes) ≡ ls → refused_instantiation r ≡ instantiation_reading bytes
    go (lists_refused q) read =
        let said = sym (is ∙ ap gathered read) ∙ e in
        let same : q ≡ r = cc in
        sym (rw (le-ltb (length bytes) 47 enough, read, same))
    go (lists_read ls) read = absurd (let said = sym (is ∙ ap gathered read) ∙ e in let z : ◌≡◌ {A = ℕ} 0 1 = cc in omega arith)

-- ---- the lists, judged together

-- a reading that is not refused has lists
pub record Found (bytes items : List ℕ) (k : ℕ) : Type 0 where
  lists : List (List ℕ)
  long : 47 ≤ length bytes
  read : read_lists bytes 256 0 (drop 47 bytes) ≡ lists_read lists
  are : IsLists lists
  table : TableIn (listed_from 0 lists) items k
  short : k * 2 ≤ length bytes

pub lists-found :
    (bytes items : List ℕ) {k : ℕ} {x : Result ℕ Refusal}
    → 47 ≤ length bytes
    → Bytes bytes
    → x ≡ gathered (read_lists bytes 256 0 (drop 47 bytes))
    → GatheredIn (length bytes) (read_lists bytes 256 0 (drop 47 bytes)) items
    → x ≡ Ok k
    → Found bytes items k
lists-found bytes items {k} long below is stand e = go (read_lists bytes 256 0 (drop 47 bytes)) refl stand
  where
    go : (ls : Lists) → read_lists bytes 256 0 (drop 47 bytes) ≡ ls → GatheredIn (length bytes) ls items → Found bytes items k
    go (lists_refused q) read t = absurd (let said = sym (is ∙ ap gathered read) ∙ e in let z : ◌≡◌ {A = ℕ} 0 1 = cc in omega arith)
    go (lists_read ls) read t =
        let said = sym (is ∙ ap gathered read) ∙ e in
        let count : length (take 256 (listed_from 0 ls)) ≡ k = cc in
        record {
          lists = ls;
          long = long;
          read = read;
          are = lists-read bytes ls below long read;
          table = subst (TableIn (listed_from 0 ls) items) count t.0;
          short = subst (λ (n : ℕ). n * 2 ≤ length bytes) count t.1;
        }

module _ {bytes items : List ℕ} {k : ℕ} (f : Found bytes items k) where
  -- 19: an attribute is in two lists
  repeated : repeated_in nothing_seen (all_listed f.lists) ≡ true → refused_instantiation RepeatedAttribute ≡ instantiation_reading bytes
  unfolding instantiation_reading
  repeated twice = sym (rw (le-ltb (length bytes) 47 f.long, f.read, twice))

  -- over 255 entries
  module _ {twice : Bool} (over : 255 < k) (told : (ls : List (List ℕ)) → read_lists bytes 256 0 (drop 47 bytes) ≡ lists_read ls → twice
      ≡ repeated_in nothing_seen (all_listed ls)) where
    pub over-repeated : twice ≡ true → refused_instantiation RepeatedAttribute ≡ instantiation_reading bytes
    over-repeated t = repeated (sym (told f.lists f.read) ∙ t)

    pub over-many : twice ≡ false → refused_instantiation TooManyAttributes ≡ instantiation_reading bytes
    unfolding instantiation_reading
    over-many t =
        let once = sym (told f.lists f.read) ∙ t in
        sym (rw (le-ltb (length bytes) 47 f.long, f.read, once, lt-ltb 255 (length (entries_in f.lists)) (many once (dec_lt 255 (length (listed_from 0 f.lists))))))
      where
        many : repeated_in nothing_seen (all_listed f.lists) ≡ false → Dec (255 < length (listed_from 0 f.lists)) → 255 < length (entries_in f.lists)
        many once (yes more) = let same = sorted-length f.lists f.are once in omega arith
        many once (no less) = absurd (let count = table-count f.table (omega arith) in omega arith)

  -- at most 255
  module _ (under : k ≤ 255) where
    few : length (listed_from 0 f.lists) ≤ 255
    few = go (dec_lt 255 (length (listed_from 0 f.lists)))
      where
        go : Dec (255 < length (listed_from 0 f.lists)) → length (listed_from 0 f.lists) ≤ 255
        go (yes more) = absurd (let full = table-full f.table more in omega arith)
        go (no less) = omega arith

    pub lists-fit : ItemsFit items k
    lists-fit = front-fit (table-reaches f.table) (table-all f.table few) (listed_below f.lists f.are)

    -- there is room for them in the other slice
    pub lists-room : (spare : List ℕ) → RoomFor (length bytes) spare → k ≤ length spare
    lists-room spare room = room k (omega arith) f.short

    module _ (sorted : List ℕ) {rise : Bool} (sorted-is : take k sorted ≡ by_attribute (take k items)) (rise-is : rise ≡ ascending (take k sorted)) where
      sorted-listed : take k sorted ≡ by_attribute (listed_from 0 f.lists)
      sorted-listed = sorted-is ∙ ap by_attribute (table-all f.table few)

      rises-as : ascending (by_attribute (listed_from 0 f.lists)) ≡ rise
      rises-as = ap ascending (sym sorted-listed) ∙ sym rise-is

      pub falls : rise ≡ false → refused_instantiation RepeatedAttribute ≡ instantiation_reading bytes
      falls t = repeated (falling-repeated f.lists f.are (rises-as ∙ t))

      module _ (t : rise ≡ true) where
        once : repeated_in nothing_seen (all_listed f.lists) ≡ false
        once = rising-apart f.lists f.are (rises-as ∙ t)

        entries : take k sorted ≡ entries_in f.lists
        entries = sorted-listed ∙ sorted-lists f.lists f.are once

        count : k ≡ length (entries_in f.lists)
        count = table-count f.table few ∙ sorted-length f.lists f.are once

        reading : record { judgement = Read; subsets = subsets_of bytes; entries = entries_in f.lists } ≡ instantiation_reading bytes
        unfolding instantiation_reading
        reading =
            let size = count in
            sym (rw (le-ltb (length bytes) 47 f.long, f.read, once, le-ltb 255 (length (entries_in f.lists)) (omega arith)))

        pub lists-read-all :
            {subsets : List ℕ}
            → subsets ≡ subsets_of bytes
            → (Ok (record { subsets = subsets; count = k }) ≡ reading_of (instantiation_reading bytes))
            × EntriesStand (instantiation_reading bytes).judgement (instantiation_reading bytes).entries sorted
        unfolding reading_of
        lists-read-all subsets-are =
            let stands = subst (λ (n : ℕ). take n sorted ≡ entries_in f.lists) count entries in (
              ap₂ (λ (l : List ℕ) (n : ℕ). Ok (record { subsets = l; count = n })) subsets-are count
                  ∙ ap reading_of reading,
              λ said. subst (λ (i : Instantiation). take (length i.entries) sorted ≡ i.entries) reading stands,
            )
