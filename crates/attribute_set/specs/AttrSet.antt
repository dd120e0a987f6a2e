-- What the functions on attribute sets give (FORMAT 1.5).
use Rattle.std.specs.Prelude.{ℕ, ◌^◌, Bool, cond, Option, Some, None}
use Rattle.std.specs.Int.Bits.{bit_or}
use Rattle.bits.specs.Bit.{bit}
use Rattle.bits.specs.Range.{in_range}
use Rattle.attribute_set.specs.declared.AttrSet.{AttrSet}

-- FORMAT 2.1: the attributes 1 to 15
unfoldable pub special : ℕ → Bool
special a = in_range 1 15 a

-- FORMAT 1.5: attribute i belongs where bit i stands
unfoldable pub has_attribute : AttrSet → ℕ → Bool
has_attribute s a = bit s.bits a

-- the set without members
abbrev pub empty_set : AttrSet
empty_set = record { bits = 0 }

-- the sixteen bits of a set
abbrev pub bits_of : AttrSet → ℕ
bits_of s = s.bits

-- the set with these bits
unfoldable pub set_of : ℕ → AttrSet
set_of bits = record { bits = bits }

-- FORMAT 1.5: sixteen bits are a set where bit 0 is clear
unfoldable pub from_bits : ℕ → Option AttrSet
from_bits bits = cond (bit bits 0) None (Some (set_of bits))

-- the set with attribute a as well; a number that is no special attribute adds nothing
unfoldable pub with_attribute : AttrSet → ℕ → AttrSet
with_attribute s a = cond (special a) (set_of (bit_or s.bits (2 ^ a))) s
