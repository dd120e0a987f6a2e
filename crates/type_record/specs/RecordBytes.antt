-- What a type record can be, its length and its bytes.
use Rattle.std.specs.Prelude.{ℕ, zero, suc, ◌+◌, ◌*◌, ◌%◌, ◌≤◌, ◌<◌, ◌≡◌, refl, Bool, true, false, cond, List, [], ◌∷◌, eqb, length, get_or}
use Rattle.std.proofs.Common.{sym, ap, arith, ne_eqb}
use Rattle.bits.specs.Rising.{Rising}
use Rattle.bits.specs.Word.{Bytes}
use Rattle.type_record.specs.ListBytes.{bytes-length, list-bytes}
use Rattle.type_record.specs.Record.{TypeRecord, record_size, follows, record_bytes, output_size}

-- what a record can be: bit 0 of the map clear, at most 255 ordinary attributes, rising, each of two bytes
pub record IsRecord (t : TypeRecord) : Type 0 where
  pub even : t.map % 2 ≡ 0
  pub small : t.map < 65536
  pub few : length t.ordinary ≤ 255
  pub rising : Rising 15 t.ordinary
  pub below : (i : ℕ) → get_or t.ordinary i 0 < 65536

-- ---- its length

pub size_none : record_size 0 ≡ 2
unfolding record_size
size_none = refl

pub size-some : (n : ℕ) → 1 ≤ n → record_size n ≡ n * 2 + 3
unfolding record_size
size-some n h = ap (λ (t : Bool). cond t 2 (n * 2 + 3)) (ne_eqb n 0 (λ z. omega arith))

pub size-most : (n : ℕ) → n ≤ 255 → (2 ≤ record_size n) × (record_size n ≤ output_size)
size-most zero h = let size = size_none in (omega arith, omega arith)
size-most (suc n) h = let size = size-some (suc n) (omega arith) in (omega arith, omega arith)

pub record-length : (map : ℕ) (ordinary : List ℕ) → length (record_bytes map ordinary) ≡ record_size (length ordinary)
unfolding record_bytes
record-length map [] = sym size_none
record-length map (a ∷ l) =
    let list = bytes-length (a ∷ l) (omega arith) in
    let size = size-some (length (a ∷ l)) (omega arith) in
    omega arith

-- ---- its bytes

pub follows-most : (n : ℕ) → follows n ≤ 1
follows-most n = go (eqb n 0)
  where
    go : (t : Bool) → cond t 0 1 ≤ 1
    go true = omega arith
    go false = omega arith

pub follows-some : (n : ℕ) → 1 ≤ n → follows n ≡ 1
follows-some n h = ap (λ (t : Bool). cond t 0 1) (ne_eqb n 0 (λ z. omega arith))

pub record-bytes : (t : TypeRecord) → IsRecord t → Bytes (record_bytes t.map t.ordinary)
unfolding record_bytes
record-bytes t is zero = let even = is.even in let list = follows-most (length t.ordinary) in omega arith
record-bytes t is (suc zero) = let small = is.small in omega arith
record-bytes t is (suc (suc p)) = list-bytes t.ordinary is.few is.below p
