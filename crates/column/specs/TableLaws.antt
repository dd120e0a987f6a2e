-- Laws of the maps over subsets.
use Rattle.std.specs.Prelude.{ℕ, ◌+◌, ◌-◌, ◌*◌, ◌^◌, ◌≤◌, ◌<◌, ◌≡◌, refl, Bool, true, false, ltb}
use Rattle.std.proofs.Common.{sym, ◌∙◌, lt_of_lt_of_le, arith, lt-ltb, le-ltb, ltb-true, ltb-false, lit<, pow_mono}
use Rattle.std.proofs.Math.Pow.{ones_lt}
use Rattle.bits.specs.Bit.{bit, bit-above, bit-ones, bit-none}
use Rattle.bits.specs.Pack.{byte-is}
use Rattle.column.specs.Tables.{subset_byte}

-- the number with the lowest n bits
low_ones : (n i : ℕ) → bit (2 ^ n - 1) i ≡ ltb i n
low_ones n i = go (ltb i n) refl
  where
    go : (t : Bool) → ltb i n ≡ t → bit (2 ^ n - 1) i ≡ t
    go true e = bit-ones n i (ltb-true i n e)
    go false e = bit-above (2 ^ n - 1) i (lt_of_lt_of_le (ones_lt n) (pow_mono (ltb-false i n e)))

-- ---- the three cases of a byte: no subset, eight, or some

pub none_left : (count j : ℕ) → count ≤ j * 8 → 0 ≡ subset_byte count j
unfolding subset_byte
none_left count j h = byte-is 0 (λ i. ltb (j * 8 + i) count) (lit< tt) (λ i below. bit-none i ∙ sym (le-ltb (j * 8 + i) count (omega arith)))

pub eight-left : (count j : ℕ) → 8 ≤ count - j * 8 → 255 ≡ subset_byte count j
unfolding subset_byte
eight-left count j h = byte-is 255 (λ i. ltb (j * 8 + i) count) (lit< tt) (λ i below. bit-ones 8 i below ∙ sym (lt-ltb (j * 8 + i) count (omega arith)))

pub some_left : (count j : ℕ) → count - j * 8 < 8 → 2 ^ (count - j * 8) - 1 ≡ subset_byte count j
unfolding subset_byte
some_left count j h =
    byte-is (2 ^ (count - j * 8) - 1) (λ i. ltb (j * 8 + i) count) below-256 (λ i below. low_ones (count - j * 8) i ∙ shift i (ltb i (count - j * 8)) refl)
  where
    below-256 : 2 ^ (count - j * 8) - 1 < 256
    below-256 = lt_of_lt_of_le (ones_lt (count - j * 8)) (pow_mono {j = 8} (omega arith))

    shift : (i : ℕ) (t : Bool) → ltb i (count - j * 8) ≡ t → ltb i (count - j * 8) ≡ ltb (j * 8 + i) count
    shift i true e = let l = ltb-true i (count - j * 8) e in e ∙ sym (lt-ltb (j * 8 + i) count (omega arith))
    shift i false e = let l = ltb-false i (count - j * 8) e in e ∙ sym (le-ltb (j * 8 + i) count (omega arith))
