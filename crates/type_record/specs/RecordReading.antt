-- Reading a type record: what the bytes hold where one is read, and that it is a record.
use Rattle.std.specs.Prelude.{ℕ, zero, suc, ◌+◌, ◌-◌, ◌%◌, ◌≤◌, ◌≡◌, Bool, List, drop, Result, Ok, Err}
use Rattle.std.proofs.Math.Path.{refl}
use Rattle.std.proofs.Common.{sym, ap, ap₂, ◌∙◌, arith, lit<, length-drop, get_or-drop}
use Rattle.std.proofs.Math.Bool.{true, false, cond}
use borrow.Author.Tests.{ltb-false, eqb-true, eqb-false, le-ltb, eq-eqb, ne_eqb}
use Rattle.std.proofs.Math.Dec.{eqb}
use Rattle.std.proofs.Math.ListN.{length}
use Rattle.bits.specs.Word.{word, Bytes, word_below}
use Rattle.refusal.specs.Chain.{refuse, refuse-passes, refuse-past}
use Rattle.refusal.specs.declared.Refusal.{Refusal}
use Rattle.type_record.specs.Lists.{read_list, listed}
use Rattle.type_record.specs.ListLaws.{list-holds, listed-none, listed-length}
use Rattle.type_record.specs.ListBytes.{IsList, list_read}
use Rattle.type_record.specs.Record.{with_list, read_record, record_size, record_at, follows, RecordRead}
use Rattle.type_record.specs.RecordBytes.{IsRecord, follows-some, size_none, size-some}
use Rattle.type_record.specs.declared.records.RecordHead.{RecordHead}

-- one reading has one map and one number
pub reading-parts : {map n map' n' : ℕ} → RecordRead map n ≡ RecordRead map' n' → (map ≡ map') × (n ≡ n')
reading-parts {map} {n} {map'} {n'} e =
    let same : ◌≡◌ {A = RecordHead} (record { special = map; count = n }) (record { special = map'; count = n' }) = cc in
    (ap (λ (d : RecordHead). d.special) same, ap (λ (d : RecordHead). d.count) same)

-- a record that is read gets past the test
passed : (t : Bool) (r : Refusal) {next : Result RecordHead Refusal} {map n : ℕ} → refuse Err t r next ≡ RecordRead map n → (t ≡ false) × (next ≡ RecordRead map n)
passed t r {next} = refuse-past Err t r next (λ e. let z : ◌≡◌ {A = ℕ} 0 1 = cc in omega arith)

with-list : (read : ℕ) (l : Result ℕ Refusal) {map n : ℕ} → with_list read l ≡ RecordRead map n → (map ≡ read) × (l ≡ Ok n)
with-list read (Ok k) e = let parts = reading-parts e in (sym parts.0, ap Ok parts.1)
with-list read (Err r) e = absurd (let z : ◌≡◌ {A = ℕ} 0 1 = cc in omega arith)

module _ (bytes : List ℕ) where
  pub read_none : 2 ≤ length bytes → word bytes 0 % 2 ≡ 0 → read_record bytes ≡ RecordRead (word bytes 0) 0
  unfolding read_record
  read_none enough even = refuse-passes _ _ _ _ (le-ltb (length bytes) 2 enough) ∙ rw (eq-eqb (word bytes 0 % 2) 0 even)

  pub read_some : 2 ≤ length bytes → (word bytes 0 % 2 ≡ 0 → ⊥) → read_record bytes ≡ with_list (word bytes 0 - 1) (read_list (drop 2 bytes))
  unfolding read_record
  read_some enough odd = refuse-passes _ _ _ _ (le-ltb (length bytes) 2 enough) ∙ rw (ne_eqb (word bytes 0 % 2) 0 odd)

  -- what the bytes hold where a record is read
  pub record Holds (map n : ℕ) : Type 0 where
    pub even : map % 2 ≡ 0
    pub first : word bytes 0 ≡ map + follows n
    pub enough : 2 ≤ length bytes
    pub list : 1 ≤ n → read_list (drop 2 bytes) ≡ Ok n

  pub record-holds : (map n : ℕ) → read_record bytes ≡ RecordRead map n → Holds map n
  unfolding read_record
  record-holds map n e = let enough = passed _ _ e in go (ltb-false _ _ enough.0) (eqb (word bytes 0 % 2) 0) refl enough.1
    where
      go : 2 ≤ length bytes → (t : Bool) → eqb (word bytes 0 % 2) 0 ≡ t → cond t (RecordRead (word bytes 0) 0) (with_list (word bytes 0 - 1) (read_list (drop 2 bytes))) ≡ RecordRead map n → Holds map n
      go enough true even e =
          let parts = reading-parts e in
          let map_is : map ≡ word bytes 0 = sym parts.0 in
          let n-is : n ≡ 0 = sym parts.1 in
          rw (map_is, n-is)
          (record {
            even = eqb-true (word bytes 0 % 2) 0 even;
            first = omega arith;
            enough = enough;
            list = λ some. absurd (omega arith);
          })
      go enough false odd e =
          let list = with-list (word bytes 0 - 1) (read_list (drop 2 bytes)) e in
          let map_is = list.0 in
          let one = follows-some n (list-holds (drop 2 bytes) n list.1).some in
          let nonzero = eqb-false (word bytes 0 % 2) 0 odd in
          record {
            even = omega arith;
            first = omega arith;
            enough = enough;
            list = λ some. list.1;
          }

  pub holds-record : (map n : ℕ) → Holds map n → read_record bytes ≡ RecordRead map n
  holds-record map zero h =
      let first : word bytes 0 ≡ map = omega arith in
      read_none h.enough (rw first h.even) ∙ ap (λ (m : ℕ). RecordRead m 0) first
  holds-record map (suc k) h =
      let one = follows-some (suc k) (omega arith) in
      let first : word bytes 0 - 1 ≡ map = omega arith in
      read_some h.enough (λ e. omega arith) ∙ ap₂ with_list first (h.list (omega arith))

-- what the record says
pub record-map : (bytes : List ℕ) (map n : ℕ) → (record_at bytes map n).map ≡ map
unfolding record_at
record-map bytes map n = refl

pub record-ordinary : (bytes : List ℕ) (map n : ℕ) → (record_at bytes map n).ordinary ≡ listed n (drop 2 bytes)
unfolding record_at
record-ordinary bytes map n = refl

-- what is read is a record, and lies within the bytes
pub record ReadRecord (bytes : List ℕ) (map n : ℕ) : Type 0 where
  pub few : n ≤ 255
  pub fits : record_size n ≤ length bytes
  pub is : IsRecord (record_at bytes map n)

-- its list, which may be empty
list-is : (bytes : List ℕ) (n : ℕ) → Bytes bytes → (1 ≤ n → read_list bytes ≡ Ok n) → IsList (listed n bytes)
list-is bytes zero below read = rw listed-none (record { rising = tt; few = omega arith; below = λ i. lit< tt })
list-is bytes (suc k) below read = list_read bytes (suc k) below (read (omega arith))

list_inside : (bytes : List ℕ) (n : ℕ) → 2 ≤ length bytes → (1 ≤ n → read_list (drop 2 bytes) ≡ Ok n) → record_size n ≤ length bytes
list_inside bytes zero enough read = let size = size_none in omega arith
list_inside bytes (suc k) enough read =
    let size = size-some (suc k) (omega arith) in
    let fits = (list-holds (drop 2 bytes) (suc k) (read (omega arith))).fits in
    let rest = length-drop 2 bytes in
    omega arith

pub record-read : (bytes : List ℕ) (map n : ℕ) → Bytes bytes → read_record bytes ≡ RecordRead map n → ReadRecord bytes map n
unfolding record_at
record-read bytes map n below e =
    let holds = record-holds bytes map n e in
    let list = list-is (drop 2 bytes) n (λ j. rw get_or-drop (below (2 + j))) holds.list in
    let first = word_below bytes 0 below in
    record {
      few = rw listed-length at list.few;
      fits = list_inside bytes n holds.enough holds.list;
      is = record { even = holds.even; small = omega arith; few = list.few; rising = list.rising; below = list.below };
    }
