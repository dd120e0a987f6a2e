-- The records of the relations before r, written to the front of a slice: one record more, and the whole.
use Prim.Native.Nat.{ℕ, ◌+◌, ◌-◌, ◌*◌, ◌≤◌, ◌<◌}
use mathlib.Core.Path.{◌≡◌, sym, ap, ◌∙◌}
use mathlib.Core.List.{List, [], ◌∷◌, ◌++◌, append_assoc, append-nil}
use native.Mathlib.Numerals.{add-one}
use native.Mathlib.Omega.{arith}
use borrow.Rule.Slice.PartMut.{put_mid, mid_of}
use lib.ListN.{length, get_or, take, length-append}
use Rattle.bits.specs.Bit.{bit}
use Rattle.bits.specs.Part.{over-more}
use Rattle.bits.specs.Tab.{tab-none, tab-more, over, over_none, over-length}
use Rattle.type_record.specs.Record.{TypeRecord, record_size, record_bytes}
use Rattle.type_record.specs.RecordBytes.{size-most, record-length}
use Rattle.type_record.specs.WritingLaws.{Ordinaries}
use Rattle.membership.specs.Holders.{held_by}
use Rattle.membership.specs.HolderLaws.{held-few, items-taken, listed-reaches, listed-fits}
use Rattle.schema.specs.Schema.{schema_bytes, records_of, WritesFrom}

-- ---- one more

bytes-more : (ts : List TypeRecord) (t : TypeRecord) → schema_bytes (ts ++ (t ∷ [])) ≡ schema_bytes ts ++ record_bytes t.map t.ordinary
unfolding schema_bytes
bytes-more [] t = append-nil (record_bytes t.map t.ordinary)
bytes-more (u ∷ ts) t =
    ap (λ (l : List ℕ). record_bytes u.map u.ordinary ++ l) (bytes-more ts t)
    ∙ sym (append_assoc (record_bytes u.map u.ordinary) (schema_bytes ts) (record_bytes t.map t.ordinary))

prefix-more : (special es : List ℕ) (r : ℕ) →
    schema_bytes (records_of (r + 1) special es) ≡ schema_bytes (records_of r special es) ++ record_bytes (get_or special r 0) (held_by r es)
unfolding records_of
prefix-more special es r =
    rw (add-one r)
    (ap schema_bytes (tab-more r (λ r. record { map = get_or special r 0; ordinary = held_by r es }))
    ∙ bytes-more (records_of r special es) (record { map = get_or special r 0; ordinary = held_by r es }))

-- ---- the loop

pub record Prefix (m : ℕ) (special es old out : List ℕ) (at r : ℕ) : Type 0 where
  pub up_to : r ≤ m
  pub most : at ≤ r * 513
  pub size : at ≡ length (schema_bytes (records_of r special es))
  pub written : out ≡ over (schema_bytes (records_of r special es)) old

bytes-none : (special es : List ℕ) → schema_bytes (records_of 0 special es) ≡ []
unfolding schema_bytes records_of
bytes-none special es = ap schema_bytes (tab-none (λ r. record { map = get_or special r 0; ordinary = held_by r es }))

pub prefix-first : (m : ℕ) (special es old : List ℕ) → Prefix m special es old old 0 0
prefix-first m special es old =
    record {
      up_to = omega arith;
      most = omega arith;
      size = sym (ap length (bytes-none special es));
      written = sym (ap (λ (b : List ℕ). over b old) (bytes-none special es) ∙ over_none old);
    }

module _ {m : ℕ} {special items : List ℕ} {count : ℕ} {old out : List ℕ} {at r : ℕ} (eight : m ≤ 8) (w : WritesFrom special items count)
    (fits : 4104 ≤ length old) (h : Prefix m special (take count items) old out at r) where
  pub same_size : length out ≡ length old
  same_size =
      let up_to = h.up_to in
      let most = h.most in
      let size = h.size in
      ap length h.written ∙ over-length (schema_bytes (records_of r special (take count items))) old (omega arith)

  -- there is room for a record
  pub room : r < m → at + 513 ≤ length out
  room more = let most = h.most in let same = same_size in omega arith

  held-most : length (held_by r (take count items)) ≤ 255
  held-most =
      let least = held-few r (take count items) in
      let few = w.few in
      let taken = items-taken w.fit in
      omega arith

  -- the attributes that the relation holds, as they are listed
  module _ {n : ℕ} (list : List ℕ) (number : n ≡ length (held_by r (take count items))) (listed-is : take n list ≡ held_by r (take count items)) where
    pub list-reaches : n ≤ length list
    list-reaches = listed-reaches items count (λ e. bit e r) list number listed-is

    pub listed-most : (length (take n list) ≤ 255) × Ordinaries (take n list)
    listed-most = listed-fits items count (λ e. bit e r) list number listed-is w.fit w.few

    pub prefix-next :
        {size : ℕ} {part : List ℕ}
        → r < m
        → size ≡ record_size (length (take n list))
        → part ≡ over (record_bytes (get_or special r 0) (take n list)) (mid_of at (length out - at) out)
        → Prefix m special (take count items) old (put_mid at (length out - at) out part) (at + size) (r + 1)
    prefix-next more size_is part-is =
        let most = h.most in
        let before = h.size in
        let is = size_is ∙ ap (λ (l : List ℕ). record_size (length l)) listed-is in
        let small = (size-most (length (held_by r (take count items))) held-most).1 in
        let own = record-length (get_or special r 0) (held_by r (take count items)) in
        let whole = length-append (schema_bytes (records_of r special (take count items))) (record_bytes (get_or special r 0) (held_by r (take count items))) in
        record {
          up_to = omega arith;
          most = omega arith;
          size = rw prefix-more (omega arith);
          written =
              rw (part-is, listed-is, prefix-more special (take count items) r, h.size)
              (over-more (schema_bytes (records_of r special (take count items)))
              (record_bytes (get_or special r 0) (held_by r (take count items))) old out h.written);
        }

  -- all m records
  pub prefix-end : m ≤ r → (at ≡ length (schema_bytes (records_of m special (take count items))))
      × (out ≡ over (schema_bytes (records_of m special (take count items))) old)
  prefix-end last =
      let up_to = h.up_to in
      let all : r ≡ m = omega arith in
      rw (← all) (h.size, h.written)
