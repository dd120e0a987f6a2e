-- The reading of an instantiation's lists into a slice: k entries stand there when it is resumed at subset s and byte `at`.
use Prim.Native.Nat.{ℕ, zero, suc, ◌+◌, ◌-◌, ◌*◌, ◌/◌, ◌%◌, ◌^◌, ◌≤◌, ◌<◌}
use mathlib.Core.Path.{◌≡◌, refl, sym, ap, ap₂, subst, ◌∙◌}
use mathlib.Core.Bool.{true, false}
use mathlib.Core.List.{List, [], ◌++◌, map, append-nil}
use native.Mathlib.Nat.{add-zero}
use native.Mathlib.Omega.{arith}
use lib.ListN.{length, get_or, take, drop, length-map}
use Rattle.bits.specs.Tab.{tab, length-tab}
use Rattle.bits.specs.Word.{word, Bytes}
use Rattle.refusal.specs.declared.Refusal.{Refusal}
use Rattle.refusal.specs.declared.Refusal.TheVariants.{InputFollowed}
use Rattle.refusal.specs.Several.{several_refused as lists_refused, several_read as lists_read}
use Rattle.type_record.specs.Lists.{listed}
use Rattle.membership.specs.Entries.{entry, TableIn, RoomFor}
use Rattle.membership.specs.TableLaws.{table_none, table-few, table-reaches}
use Rattle.instantiation.specs.Instantiation.{Lists, standing, read_lists}
use Rattle.instantiation.specs.Gathering.{listed_from, gathered, GatheredIn, Appends}
use Rattle.instantiation_reader.proofs.AppendedEntries.{append-table, append-few}
use Rattle.instantiation.specs.OneMoreList.{entries-more}
use Rattle.instantiation.specs.ListsResumed.{Walk, walk_start, rest-clear, walk-clear, Reads, walk_refused, list_inside, list-fits, attributes-are, walk-next, walk-followed, walk_end}
use Rattle.std.specs.Prelude.{Ok, Err}

pub record Resumed (bytes before items : List ℕ) (k at s : ℕ) : Type 0 where
  pub walk : Walk bytes at s
  pub size : length items ≡ length before
  -- an entry for each two bytes at most
  pub short : k * 2 ≤ at
  pub table : TableIn (listed_from 0 walk.done) items k

pub resumed-start : (bytes items : List ℕ) → 47 ≤ length bytes → Resumed bytes items items 0 47 0
resumed-start bytes items enough = record { walk = walk_start bytes enough; size = refl; short = omega arith; table = table_none items }

-- what is refused, and what is read
refused-is : (size : ℕ) (items : List ℕ) {r : Refusal} (ls : Lists) → ls ≡ lists_refused r → (Err r ≡ gathered ls) × GatheredIn size ls items
refused-is size items {r} ls e = subst (λ (l : Lists). (Err r ≡ gathered l) × GatheredIn size l items) (sym e) (refl, tt)

read_is : (size : ℕ) {items : List ℕ} {k : ℕ} (done : List (List ℕ)) (ls : Lists) → ls ≡ lists_read done →
    TableIn (listed_from 0 done) items k → k * 2 ≤ size → (Ok k ≡ gathered ls) × GatheredIn size ls items
read_is size {items} {k} done ls e t short =
    subst (λ (l : Lists). (Ok k ≡ gathered l) × GatheredIn size l items) (sym e) (
      ap Ok t.count-is,
      (subst (TableIn (listed_from 0 done) items) t.count-is t, subst (λ (n : ℕ). n * 2 ≤ size) t.count-is short),
    )

module _ {bytes before items : List ℕ} {k at s : ℕ} (h : Resumed bytes before items k at s) where
  -- ---- clear bits

  pub resumed-clear : s < 256 → standing bytes s ≡ false → Resumed bytes before items k at (s + 1)
  resumed-clear more clear =
      record {
        walk = walk-clear h.walk more clear;
        size = h.size;
        short = h.short;
        table = subst (λ (l : List ℕ). TableIn l items k) (sym (entries-more [] h.walk.done ∙ append-nil (listed_from 0 h.walk.done))) h.table;
      }

  -- ---- a list

  pub resumed-refused :
      {x : Refusal}
      → s < 256
      → standing bytes s ≡ true
      → Reads h.walk (Err x)
      → (Err x ≡ gathered (read_lists bytes 256 0 (drop 47 bytes)))
      × GatheredIn (length bytes) (read_lists bytes 256 0 (drop 47 bytes)) items
  resumed-refused more stands e = refused-is (length bytes) items (read_lists bytes 256 0 (drop 47 bytes)) (walk_refused h.walk more stands e)

  module _ {n : ℕ} (below : Bytes bytes) (e : Reads h.walk (Ok n)) where
    -- there is room for its entries
    pub resumed-appends : RoomFor (length bytes) before → Appends (take (length bytes - at) (drop at bytes)) n items k
    resumed-appends room =
        record {
          few = (list_inside h.walk below e).0;
          fits = list-fits h.walk below e;
          most = table-few h.table;
          enough = table-reaches h.table;
          room = λ x few more.
              let size = h.size in
              let short = h.short in
              let end = (list_inside h.walk below e).1 in
              let next = room (x + 1) (omega arith) (omega arith) in
              omega arith;
        }

    pub resumed-next :
        {out : List ℕ} {r : ℕ}
        → s < 256
        → standing bytes s ≡ true
        → length out ≡ length items
        → TableIn (take k items ++ map (λ a. entry a s) (tab n (λ x. word (take (length bytes - at) (drop at bytes)) (x * 2 + 1)))) out r
        → Resumed bytes before out r (at + (n * 2 + 1)) (s + 1)
    resumed-next {out} {r} more stands same table =
        let few = append-few items k (map (λ a. entry a s) (tab n (λ x. word (take (length bytes - at) (drop at bytes)) (x * 2 + 1))))
        (table-reaches h.table) table in
        let mapped = length-map (tab n (λ x. word (take (length bytes - at) (drop at bytes)) (x * 2 + 1))) (λ a. entry a s) in
        let size = length-tab n (λ x. word (take (length bytes - at) (drop at bytes)) (x * 2 + 1)) in
        let short = h.short in
        record {
          walk = walk-next h.walk below e more stands;
          size = same ∙ h.size;
          short = omega arith;
          table =
              subst (λ (l : List ℕ). TableIn l out r)
              (ap₂ (λ (m : ℕ) (l : List ℕ). listed_from 0 h.walk.done ++ map (λ a. entry a m) l) (sym h.walk.count)
              (attributes-are h.walk below e)
              ∙ sym (entries-more (listed n (drop at bytes)) h.walk.done))
              (append-table (map (λ a. entry a s) (tab n (λ x. word (take (length bytes - at) (drop at bytes)) (x * 2 + 1)))) h.table table);
        }

  -- ---- after all 256 subsets

  pub resumed-followed : 256 ≤ s → at < length bytes →
      (Err InputFollowed ≡ gathered (read_lists bytes 256 0 (drop 47 bytes)))
      × GatheredIn (length bytes) (read_lists bytes 256 0 (drop 47 bytes)) items
  resumed-followed last more = refused-is (length bytes) items (read_lists bytes 256 0 (drop 47 bytes)) (walk-followed h.walk last more)

  pub resumed-end : 256 ≤ s → length bytes ≤ at →
      (Ok k ≡ gathered (read_lists bytes 256 0 (drop 47 bytes)))
      × GatheredIn (length bytes) (read_lists bytes 256 0 (drop 47 bytes)) items
  resumed-end last none =
      let short = h.short in
      let inside = h.walk.inside in
      read_is (length bytes) h.walk.done (read_lists bytes 256 0 (drop 47 bytes)) (walk_end h.walk last none) h.table (omega arith)

-- so many clear bits
resumed-clears : {bytes before items : List ℕ} {k at s : ℕ} (n : ℕ) → Resumed bytes before items k at s → s + n ≤ 256 →
    ((i : ℕ) → i < n → standing bytes (s + i) ≡ false) → Resumed bytes before items k at (s + n)
resumed-clears {bytes} {before} {items} {k} {at} {s} zero h fits clear = subst (Resumed bytes before items k at) (sym (add-zero s)) h
resumed-clears {bytes} {before} {items} {k} {at} {s} (suc n) h fits clear =
    let first = ap (standing bytes) (sym (add-zero s)) ∙ clear 0 (omega arith) in
    let next : s + 1 + n ≡ s + suc n = omega arith in
    subst (Resumed bytes before items k at) next
    (resumed-clears {s = s + 1} n (resumed-clear h (omega arith) first) (omega arith)
    (λ i less. let place : s + 1 + i ≡ s + suc i = omega arith in ap (standing bytes) place ∙ clear (suc i) (omega arith)))

-- the rest of a byte of the map
pub resumed-byte : {bytes before items : List ℕ} {k at s : ℕ} → Resumed bytes before items k at s → s < 256 →
    ◌≡◌ {A = ℕ} (get_or bytes (15 + s / 8) 0 / 2 ^ (s % 8)) 0 → Resumed bytes before items k at ((s / 8 + 1) * 8)
resumed-byte {bytes} {before} {items} {k} {at} {s} h more none =
    let next : s + (8 - s % 8) ≡ (s / 8 + 1) * 8 = omega arith in
    subst (Resumed bytes before items k at) next
    (resumed-clears (8 - s % 8) h (omega arith) (λ i less. rest-clear bytes s none i (omega arith)))
