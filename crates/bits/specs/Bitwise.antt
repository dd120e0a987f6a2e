-- Numbers of w bits do what their bits do: the operations of code, by what each bit of the result is.
use Rattle.std.specs.Prelude.{ℕ, ◌-◌, ◌^◌, ◌<◌, ◌≡◌, refl, Bool, false, not, ◌&&◌, ◌||◌}
use Rattle.std.proofs.Common.{ap, ap₂, ◌∙◌, lt_of_le_of_lt, arith, pow_pos}
use Rattle.std.specs.Int.Bits.{bit_and, bit_or, bit_xor}
use Rattle.std.proofs.lemmas.Nat.{and_le_l, or_lt, xor_lt}
use Rattle.bits.specs.Bit.{bit, differs, bit-none, bit-and, bit-or, bit-xor, bit_not}
use Rattle.bits.specs.Pack.{pack, pack-is}

-- a number of w bits whose bit i is f i
pub record BitsOf (w x : ℕ) (f : ℕ → Bool) : Type 0 where
  pub below : x < 2 ^ w
  pub bits : (i : ℕ) → i < w → bit x i ≡ f i

-- it is the only one
pub packed : {w x : ℕ} {f : ℕ → Bool} → BitsOf w x f → x ≡ pack w f
packed {w} {x} {f} b = pack-is w x f b.below b.bits

pub own_bits : {w : ℕ} (x : ℕ) → x < 2 ^ w → BitsOf w x (bit x)
own_bits x h = record { below = h; bits = λ i below. refl }

pub no_bits : {w : ℕ} → BitsOf w 0 (λ i. false)
no_bits {w} = record { below = pow_pos w; bits = λ i h. bit-none i }

module _ {w x y : ℕ} {f g : ℕ → Bool} (b : BitsOf w x f) (d : BitsOf w y g) where
  pub and-bits : BitsOf w (bit_and x y) (λ i. f i && g i)
  and-bits = record { below = lt_of_le_of_lt (and_le_l x y) b.below; bits = λ i h. bit-and x y i ∙ ap₂ ◌&&◌ (b.bits i h) (d.bits i h) }

  pub or-bits : BitsOf w (bit_or x y) (λ i. f i || g i)
  or-bits = record { below = or_lt w x y b.below d.below; bits = λ i h. bit-or x y i ∙ ap₂ ◌||◌ (b.bits i h) (d.bits i h) }

  pub xor-bits : BitsOf w (bit_xor x y) (λ i. differs (f i) (g i))
  xor-bits = record { below = xor_lt w x y b.below d.below; bits = λ i h. bit-xor x y i ∙ ap₂ differs (b.bits i h) (d.bits i h) }

pub not-bits : {w x : ℕ} {f : ℕ → Bool} → BitsOf w x f → BitsOf w (2 ^ w - 1 - x) (λ i. not (f i))
not-bits {w} {x} {f} b = record { below = let h = b.below in omega arith; bits = λ i h. bit_not w x i b.below h ∙ ap not (b.bits i h) }
