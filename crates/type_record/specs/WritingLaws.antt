-- Laws of writing a record: its first bytes, one attribute more, and the whole.
use Prim.Native.Nat.{ℕ, suc, ◌+◌, ◌*◌, ◌/◌, ◌%◌, ◌≤◌, ◌<◌}
use Rattle.std.specs.Prelude.{◌≡◌, refl, List, length, get_or, set}
use Rattle.std.proofs.Common.{sym, ◌∙◌}
use Rattle.std.proofs.Math.Path.{ap}
use native.Mathlib.Omega.{arith}
use Rattle.std.proofs.Math.ListN.{length-set}
use Rattle.std.proofs.lemmas.List.{set_comm}
use Rattle.bits.specs.Tab.{over, over-is}
use Rattle.bits.specs.Written.{Written, written_none, written-more}
use Rattle.type_record.specs.ListBytes.{bytes_count, bytes_low, bytes_high}
use Rattle.type_record.specs.Record.{record_size, follows, record_bytes}
use Rattle.type_record.specs.RecordBytes.{size_none, follows-some, record-length}

-- attributes of two bytes each
abbrev pub Ordinaries : List ℕ → Type 0
Ordinaries listed = (i : ℕ) → get_or listed i 0 < 65536

-- byte p of the record
abbrev pub record_byte : ℕ → List ℕ → ℕ → ℕ
record_byte map ordinary = λ p. get_or (record_bytes map ordinary) p 0

module _ (map : ℕ) (ordinary old : List ℕ) where
  -- the map, its second byte written first
  written-map : (low : ℕ) → 2 ≤ length old → low ≡ map % 256 + follows (length ordinary) → Written (record_byte map ordinary) 2 old (set (set old 1 (map / 256)) 0 low)
  unfolding record_bytes
  written-map low fits e =
      let size = length-set old 0 low in
      let first = written-more (record_byte map ordinary) 0 old old low (omega arith) (written_none (record_byte map ordinary) old) e in
      rw (set_comm old 1 0 (map / 256) low (λ z. omega arith))
      (written-more (record_byte map ordinary) 1 old (set old 0 low) (map / 256) (omega arith) first refl)

  -- the whole
  pub written-bytes : (n : ℕ) (now : List ℕ) → record_size (length ordinary) ≡ n → n ≤ length old → Written (record_byte map ordinary) n old now → now ≡ over (record_bytes map ordinary) old
  written-bytes n now size fits w =
      let whole = record-length map ordinary in
      over-is (record_bytes map ordinary) old now 0 (omega arith) w.size (λ i h. w.front i (omega arith)) (λ i h. w.back i (omega arith))

  pub written-short : length ordinary ≡ 0 → 2 ≤ length old → set (set old 1 (map / 256)) 0 (map % 256) ≡ over (record_bytes map ordinary) old
  written-short none fits =
      let clear : follows (length ordinary) ≡ 0 = ap follows none in
      written-bytes 2 _ (ap record_size none ∙ size_none) fits (written-map (map % 256) fits (omega arith))

  -- the map and the count
  pub written-head : 1 ≤ length ordinary → 3 ≤ length old → Written (record_byte map ordinary) 3 old (set (set (set old 1 (map / 256)) 0 (map % 256 + 1)) 2 (length ordinary))
  unfolding record_bytes
  written-head some fits =
      let one = follows-some (length ordinary) some in
      let mapped = written-map (map % 256 + 1) (omega arith) (omega arith) in
      let size = mapped.size in
      written-more (record_byte map ordinary) 2 old (set (set old 1 (map / 256)) 0 (map % 256 + 1)) (length ordinary) (omega arith) mapped (sym (bytes_count ordinary))

  -- one attribute more
  pub written-attribute :
      (k : ℕ) (now : List ℕ)
      → k * 2 + 5 ≤ length now
      → Written (record_byte map ordinary) (k * 2 + 3) old now
      → Written (record_byte map ordinary) ((k + 1) * 2 + 3) old
      (set (set now (k * 2 + 3) (get_or ordinary k 0 % 256)) (k * 2 + 4) (get_or ordinary k 0 / 256))
  unfolding record_bytes
  written-attribute k now fits w =
      let size = length-set now (k * 2 + 3) (get_or ordinary k 0 % 256) in
      let next : k * 2 + 3 + 1 ≡ k * 2 + 4 = omega arith in
      let end : (k + 1) * 2 + 3 ≡ k * 2 + 4 + 1 = omega arith in
      let low-at : k * 2 + 3 ≡ suc (suc (k * 2 + 1)) = omega arith in
      let high-at : k * 2 + 4 ≡ suc (suc (k * 2 + 2)) = omega arith in
      let low-is = ap (record_byte map ordinary) low-at ∙ bytes_low ordinary k in
      let high_is = ap (record_byte map ordinary) high-at ∙ bytes_high ordinary k in
      let low = rw next at (written-more (record_byte map ordinary) (k * 2 + 3) old now (get_or ordinary k 0 % 256) (omega arith) w (sym low-is)) in
      rw end
      (written-more (record_byte map ordinary) (k * 2 + 4) old (set now (k * 2 + 3) (get_or ordinary k 0 % 256)) (get_or ordinary k 0 / 256) (omega arith) low (sym high_is))
