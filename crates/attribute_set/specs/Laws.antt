-- The laws of attribute sets: what building, adding and testing do to each other, and that bit 0 stays clear.
use Rattle.std.specs.Prelude.{ℕ, ◌^◌, ◌≤◌, ◌≡◌, refl, Bool, true, false, cond, ◌&&◌, ◌||◌, eqb, Some, None}
use Rattle.std.proofs.Common.{ap, ◌∙◌, arith}
use Rattle.std.proofs.Math.Bool.{or_comm}
use Rattle.std.specs.Int.Bits.{bit_or}
use Rattle.bits.specs.Bit.{bit, bit-none, bit-or, bit-power}
use Rattle.bits.specs.Booleans.{is_false}
use Rattle.bits.specs.Range.{in-range, range-in}
use Rattle.attribute_set.specs.declared.AttrSet.{AttrSet}
use Rattle.attribute_set.specs.AttrSet.{special, has_attribute, empty_set, bits_of, set_of, from_bits, with_attribute}

pub special-range : (a : ℕ) → special a ≡ true → (1 ≤ a) × (a ≤ 15)
unfolding special
special-range a e = in-range 1 15 a e

pub special-above : (a : ℕ) → 16 ≤ a → special a ≡ false
special-above a h = go (special a) refl
  where
    go : (t : Bool) → special a ≡ t → t ≡ false
    go true e = let range = special-range a e in absurd (omega arith)
    go false e = refl

pub special-zero : special 0 ≡ false
special-zero = is_false (special 0) (λ e. let range = special-range 0 e in omega arith)

pub special-in : (a : ℕ) → 1 ≤ a → a ≤ 15 → special a ≡ true
unfolding special
special-in a l h = range-in 1 15 a l h

-- a set has the attributes whose bits stand
pub has-bit : (s : AttrSet) (a : ℕ) → has_attribute s a ≡ bit (bits_of s) a
unfolding has_attribute
has-bit s a = refl

pub has-empty : (a : ℕ) → has_attribute empty_set a ≡ false
unfolding has_attribute
has-empty a = bit-none a

pub has-set : (bits a : ℕ) → has_attribute (set_of bits) a ≡ bit bits a
unfolding has_attribute set_of
has-set bits a = refl

pub bits-set : (bits : ℕ) → bits_of (set_of bits) ≡ bits
unfolding set_of
bits-set bits = refl

-- a set is that of its bits
pub set-bits : (s : AttrSet) → set_of (bits_of s) ≡ s
unfolding set_of
set-bits s = refl

-- adding `a` makes `a` a member and changes nothing else
pub has-with : (s : AttrSet) (a b : ℕ) → has_attribute (with_attribute s a) b ≡ special a && eqb a b || has_attribute s b
unfolding has_attribute with_attribute set_of
has-with s a b = go (special a)
  where
    go : (t : Bool) → bit (cond t (set_of (bit_or s.bits (2 ^ a))) s).bits b ≡ t && eqb a b || bit s.bits b
    go true = bit-or s.bits (2 ^ a) b ∙ or_comm (bit s.bits b) (bit (2 ^ a) b) ∙ ap (λ (t : Bool). t || bit s.bits b) (bit-power a b)
    go false = refl

-- a set has bit 0 clear
unfoldable pub Clear : AttrSet → Type 0
Clear s = has_attribute s 0 ≡ false

pub clear-lacks : (s : AttrSet) → Clear s → has_attribute s 0 ≡ false
unfolding Clear
clear-lacks s h = h

-- building refuses exactly where bit 0 stands, and else gives the set with these bits, bit 0 clear
pub built-none : (bits : ℕ) → from_bits bits ≡ None → bit bits 0 ≡ true
unfolding from_bits
built-none bits = go (bit bits 0)
  where
    go : (t : Bool) → cond t None (Some (set_of bits)) ≡ None → t ≡ true
    go true e = refl
    go false e = absurd (let z : ◌≡◌ {A = ℕ} 0 1 = cc in omega arith)

pub built-set : (bits : ℕ) (s : AttrSet) → from_bits bits ≡ Some s → (bit bits 0 ≡ false) × (s ≡ set_of bits)
unfolding from_bits
built-set bits s = go (bit bits 0)
  where
    go : (t : Bool) → cond t None (Some (set_of bits)) ≡ Some s → (t ≡ false) × (s ≡ set_of bits)
    go true e = absurd (let z : ◌≡◌ {A = ℕ} 0 1 = cc in omega arith)
    go false e = (refl, cc)

pub clear-set : (bits : ℕ) → bit bits 0 ≡ false → Clear (set_of bits)
unfolding Clear
clear-set bits h = has-set bits 0 ∙ h
