-- A number from its bits, the highest first: what a loop has that goes down from bit n and stands at bit i.
use Rattle.std.specs.Prelude.{ℕ, zero, suc, ◌+◌, ◌-◌, ◌*◌, ◌/◌, ◌%◌, ◌^◌, ◌≤◌, ◌<◌, ◌≡◌, refl, Bool, cond, eqb}
use Rattle.std.proofs.Common.{ap, mod-lt, add-zero, arith, lit<}
use Rattle.std.proofs.Math.Nat.{sub-zero, sub_self}
use Rattle.bits.specs.Bit.{bit}
use Rattle.bits.specs.Pack.{pack, pack-same, pack-below}

-- bits i to n - 1 of the number whose bit j stands where f j holds
unfoldable pub pack_from : ℕ → (ℕ → Bool) → ℕ → ℕ
pack_from n f i = pack (n - i) (λ j. f (i + j))

pub from-none : (n : ℕ) (f : ℕ → Bool) → pack_from n f n ≡ 0
unfolding pack_from pack
from-none n f = rw (sub_self n)

pub pack-step : (n : ℕ) (f : ℕ → Bool) → pack (suc n) f ≡ cond (f 0) 1 0 + pack n (λ j. f (suc j)) * 2
unfolding pack
pack-step n f = refl

-- one bit lower
pub from-lower : (n : ℕ) (f : ℕ → Bool) (i : ℕ) → 1 ≤ i → i ≤ n → pack_from n f (i - 1) ≡ pack_from n f i * 2 + cond (f (i - 1)) 1 0
unfolding pack_from
from-lower n f i some most = go (i - 1) (n - (i - 1)) (n - i) (omega arith) (omega arith)
  where
    go : (k count rest : ℕ) → count ≡ suc rest → i ≡ suc k → pack count (λ j. f (k + j)) ≡ pack rest (λ j. f (i + j)) * 2 + cond (f k) 1 0
    go k count rest c e =
        let first = ap {B = ℕ} (λ (j : ℕ). cond (f j) 1 0) (add-zero k) in
        let others = pack-same rest (λ j. f (k + suc j)) (λ j. f (suc k + j)) (λ j h. ap f (omega arith)) in
        let split = pack-step rest (λ j. f (k + j)) in
        rw (c, e) (omega arith)

pub from-below : (n : ℕ) (f : ℕ → Bool) (i : ℕ) → pack_from n f i < 2 ^ (n - i)
unfolding pack_from
from-below n f i = pack-below (n - i) (λ j. f (i + j))

pub from_all : (n : ℕ) (f : ℕ → Bool) → pack_from n f 0 ≡ pack n f
unfolding pack_from
from_all n f = rw (sub-zero n) (pack-same n (λ j. f (0 + j)) f (λ j h. ap f (omega arith)))

-- ---- the digit of a bit, as code has it

digit : (d : ℕ) → d < 2 → cond (eqb d 1) 1 0 ≡ d
digit zero h = refl
digit (suc zero) h = refl
digit (suc (suc d)) h = absurd (omega arith)

pub bit-digit : (x r : ℕ) → cond (bit x r) 1 0 ≡ x / 2 ^ r % 2
unfolding bit
bit-digit x r = digit (x / 2 ^ r % 2) (mod-lt (x / 2 ^ r) (lit< tt))
