-- The type that a record stands for: two records of one type are one.
use Rattle.std.specs.Prelude.{ℕ, zero, suc, ◌≤◌, ◌<◌, ◌≡◌, Bool, true, false, cond, List, eqb}
use Rattle.std.proofs.Common.{sym, ap, ap₂, ◌∙◌, arith}
use Rattle.std.proofs.Math.Decide.{dec_le}
use Rattle.bits.specs.Bit.{bit, bit-first}
use Rattle.bits.specs.Pack.{bits-once}
use Rattle.bits.specs.Rising.{member, rising-above, member_below, rising-once}
use Rattle.attribute_set.specs.AttrSet.{special}
use Rattle.attribute_set.specs.Laws.{special-in, special-above, special-zero}
use Rattle.types.specs.Types.{IsType}
use Rattle.types.specs.Laws.{finite-by}
use Rattle.type_record.specs.Record.{TypeRecord, type_of}
use Rattle.type_record.specs.RecordBytes.{IsRecord}

-- the map says the special attributes, the list the others
pub type-of-special : (t : TypeRecord) (a : ℕ) → special a ≡ true → type_of t a ≡ bit t.map a
unfolding type_of
type-of-special t a e = ap (λ (b : Bool). cond b (bit t.map a) (member a t.ordinary)) e

pub type-of-other : (t : TypeRecord) (a : ℕ) → special a ≡ false → type_of t a ≡ member a t.ordinary
unfolding type_of
type-of-other t a e = ap (λ (b : Bool). cond b (bit t.map a) (member a t.ordinary)) e

type-special : (t : TypeRecord) (a : ℕ) → 1 ≤ a → a ≤ 15 → type_of t a ≡ bit t.map a
type-special t a least most = type-of-special t a (special-in a least most)

type-ordinary : (t : TypeRecord) (a : ℕ) → 16 ≤ a → type_of t a ≡ member a t.ordinary
type-ordinary t a least = type-of-other t a (special-above a least)

pub clear_first : (t : TypeRecord) → IsRecord t → bit t.map 0 ≡ false
clear_first t is = bit-first t.map ∙ ap (λ (d : ℕ). eqb d 1) is.even

module _ (t u : TypeRecord) (t-is : IsRecord t) (u-is : IsRecord u) (same : (a : ℕ) → type_of t a ≡ type_of u a) where
  map-once : t.map ≡ u.map
  map-once = bits-once 16 t.map u.map t-is.small u-is.small bits
    where
      bits : (a : ℕ) → a < 16 → bit t.map a ≡ bit u.map a
      bits zero h = clear_first t t-is ∙ sym (clear_first u u-is)
      bits (suc a) h = sym (type-special t (suc a) (omega arith) (omega arith)) ∙ same (suc a) ∙ type-special u (suc a) (omega arith) (omega arith)

  ordinary-once : t.ordinary ≡ u.ordinary
  ordinary-once = rising-once 15 t.ordinary u.ordinary t-is.rising u-is.rising (λ a. members a (dec_le a 15))
    where
      members : (a : ℕ) → Dec (a ≤ 15) → member a t.ordinary ≡ member a u.ordinary
      members a (yes h) = rising-above 15 t.ordinary a t-is.rising h ∙ sym (rising-above 15 u.ordinary a u-is.rising h)
      members a (no h) = sym (type-ordinary t a (omega arith)) ∙ same a ∙ type-ordinary u a (omega arith)

-- two records of one type are one: the encoding is canonical
pub type-once : (t u : TypeRecord) → IsRecord t → IsRecord u → ((a : ℕ) → type_of t a ≡ type_of u a) → t ≡ u
type-once t u t-is u-is same =
    ap₂ (λ (map : ℕ) (ordinary : List ℕ). record { map = map; ordinary = ordinary }) (map-once t u t-is u-is same) (ordinary-once t u t-is u-is same)

type-zero : (t : TypeRecord) → IsRecord t → type_of t 0 ≡ false
type-zero t is = type-of-other t 0 special-zero ∙ rising-above 15 t.ordinary 0 is.rising (omega arith)

-- a record's type is a type
pub record-type : (t : TypeRecord) → IsRecord t → IsType (type_of t)
record-type t is =
    record {
      positive = type-zero t is;
      finite = finite-by 65536 (λ a h. type-ordinary t a (omega arith) ∙ member_below 65536 t.ordinary a is.below h);
    }
