-- Numbers of two bytes, low first.
use Rattle.std.specs.Prelude.{ℕ, ◌+◌, ◌-◌, ◌*◌, ◌<◌, ◌≡◌, refl, List, ◌++◌, length, get_or}
use Rattle.std.proofs.Math.Decide.{dec_lt}
use Rattle.std.proofs.Common.{arith}
use Rattle.std.proofs.Math.ListN.{get_or-append}
use Rattle.bits.specs.Tab.{get_or-right}

-- the number at a place
unfoldable pub word : List ℕ → ℕ → ℕ
word bytes at = get_or bytes at 0 + get_or bytes (at + 1) 0 * 256

pub word_bytes : (bytes : List ℕ) (at : ℕ) → word bytes at ≡ get_or bytes at 0 + get_or bytes (at + 1) 0 * 256
unfolding word
word_bytes bytes at = refl

-- a list of bytes
abbrev pub Bytes : List ℕ → Type 0
Bytes bytes = (i : ℕ) → get_or bytes i 0 < 256

pub word_below : (bytes : List ℕ) (at : ℕ) → Bytes bytes → word bytes at < 65536
unfolding word
word_below bytes at h = let low = h at in let high = h (at + 1) in omega arith

pub bytes-append : (a b : List ℕ) → Bytes a → Bytes b → Bytes (a ++ b)
bytes-append a b front back i = go (dec_lt i (length a))
  where
    go : Dec (i < length a) → get_or (a ++ b) i 0 < 256
    go (yes h) = rw (get_or-append a b 0 i h) (front i)
    go (no h) = rw (get_or-right a b i 0 (omega arith)) (back (i - length a))
