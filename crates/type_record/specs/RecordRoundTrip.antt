-- Writing a type record that was read and reading one that was written give the same.
use Rattle.std.specs.Prelude.{ℕ, zero, suc, ◌+◌, ◌*◌, ◌/◌, ◌%◌, ◌≤◌, ◌≡◌, List, [], ◌∷◌, ◌++◌, length, take, Ok}
use Rattle.std.proofs.Common.{sym, ap, ap₂, ◌∙◌, arith}
use Rattle.bits.specs.Word.{Bytes, word_bytes}
use Rattle.type_record.specs.Lists.{read_list, listed, list_bytes}
use Rattle.type_record.specs.ListLaws.{listed-none, listed-length}
use Rattle.type_record.specs.ListBytes.{list_written, written_listed, written-list}
use Rattle.type_record.specs.Record.{TypeRecord, read_record, record_size, record_at, follows, record_bytes, RecordRead}
use Rattle.type_record.specs.RecordBytes.{IsRecord, follows-most, size_none, size-some}
use Rattle.type_record.specs.RecordReading.{holds-record, record-holds, reading-parts}

-- ---- writing what was read

-- the list behind the two bytes of the map
list_same : (low high : ℕ) (bytes : List ℕ) (n : ℕ) → Bytes bytes → (1 ≤ n → read_list bytes ≡ Ok n) → low ∷ high ∷ list_bytes (listed n bytes) ≡ take (record_size n) (low ∷ high ∷ bytes)
list_same low high bytes zero below read = rw (listed-none, size_none)
list_same low high bytes (suc k) below read =
    let size = size-some (suc k) (omega arith) in
    let long : record_size (suc k) ≡ suc (suc (suc k * 2 + 1)) = omega arith in
    rw long (ap (λ (l : List ℕ). low ∷ high ∷ l) (list_written bytes (suc k) below (read (omega arith))))

-- writing what was read gives the same bytes
pub read-written : (bytes : List ℕ) (map n : ℕ) → Bytes bytes → read_record bytes ≡ RecordRead map n → record_bytes map (record_at bytes map n).ordinary ≡ take (record_size n) bytes
unfolding record_at record_bytes
read-written [] map n below e = let enough = (record-holds [] map n e).enough in absurd (omega arith)
read-written (low ∷ []) map n below e = let enough = (record-holds (low ∷ []) map n e).enough in absurd (omega arith)
read-written (low ∷ high ∷ bytes) map n below e =
    let holds = record-holds (low ∷ high ∷ bytes) map n e in
    let even = holds.even in
    let first = sym (word_bytes (low ∷ high ∷ bytes) 0) ∙ holds.first in
    let bit = follows-most n in
    let byte = below 0 in
    let low-is : map % 256 + follows n ≡ low = omega arith in
    let high_is : map / 256 ≡ high = omega arith in
    ap₂ (λ (b c : ℕ). b ∷ c ∷ list_bytes (listed n bytes)) (ap (λ (k : ℕ). map % 256 + follows k) (listed-length bytes n) ∙ low-is) high_is
    ∙ list_same low high bytes n (λ i. below (suc (suc i))) holds.list

-- ---- reading what was written

-- reading what was written gives the same record, whatever follows it
pub written_read : (t : TypeRecord) (rest : List ℕ) → IsRecord t → read_record (record_bytes t.map t.ordinary ++ rest) ≡ RecordRead t.map (length t.ordinary)
unfolding record_bytes
written_read t rest is =
    let first = word_bytes (record_bytes t.map t.ordinary ++ rest) 0 in
    holds-record (record_bytes t.map t.ordinary ++ rest) t.map (length t.ordinary)
    (record { even = is.even; first = omega arith; enough = omega arith; list = λ some. written-list t.ordinary rest some is.rising })

list-again : (l rest : List ℕ) → listed (length l) (list_bytes l ++ rest) ≡ l
list-again [] rest = listed-none rest
list-again (a ∷ l) rest = written_listed (a ∷ l) rest (omega arith)

pub written-record : (t : TypeRecord) (rest : List ℕ) → IsRecord t → record_at (record_bytes t.map t.ordinary ++ rest) t.map (length t.ordinary) ≡ t
unfolding record_at record_bytes
written-record t rest is = ap (λ (l : List ℕ). record { map = t.map; ordinary = l }) (list-again t.ordinary rest)

-- two records with the same bytes are one
pub bytes-once : (t u : TypeRecord) → IsRecord t → IsRecord u → record_bytes t.map t.ordinary ≡ record_bytes u.map u.ordinary → t ≡ u
bytes-once t u t-is u-is e =
    let reading : RecordRead t.map (length t.ordinary) ≡ RecordRead u.map (length u.ordinary) =
    sym (written_read t [] t-is) ∙ ap (λ (b : List ℕ). read_record (b ++ [])) e ∙ written_read u [] u-is
    in
    let parts = reading-parts reading in
    let map_is : t.map ≡ u.map = parts.0 in
    let count-is : length t.ordinary ≡ length u.ordinary = parts.1 in
    sym (written-record t [] t-is) ∙ rw (e, map_is, count-is) (written-record u [] u-is)
