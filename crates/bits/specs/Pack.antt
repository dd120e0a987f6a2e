-- A number from its bits.
use Rattle.std.specs.Prelude.{ℕ, zero, suc, ◌+◌, ◌*◌, ◌/◌, ◌%◌, ◌^◌, ◌<◌, ◌≡◌, refl, Bool, true, false, cond, eqb}
use Rattle.std.proofs.Common.{suc-le-suc, sym, ap, ap₂, ◌∙◌, pow-suc, le_of_suc-le-suc, arith}
use Rattle.std.proofs.Math.Arith.{lt-one}
use Rattle.bits.specs.Bit.{bit, bit-first, bit-next}

-- the number below 2 ^ n whose bit j stands where f j holds
unfoldable pub pack : ℕ → (ℕ → Bool) → ℕ
pack zero f = 0
pack (suc n) f = cond (f 0) 1 0 + pack n (λ j. f (suc j)) * 2

low : (b : Bool) (x : ℕ) → ((cond b 1 0 + x * 2) / 2 ≡ x) × (eqb ((cond b 1 0 + x * 2) % 2) 1 ≡ b)
low true x =
    let half : (1 + x * 2) / 2 ≡ x = omega arith in
    let rest : (1 + x * 2) % 2 ≡ 1 = omega arith in
    (half, rw rest)
low false x =
    let half : (0 + x * 2) / 2 ≡ x = omega arith in
    let rest : (0 + x * 2) % 2 ≡ 0 = omega arith in
    (half, rw rest)

pub bit-pack : (n : ℕ) (f : ℕ → Bool) (j : ℕ) → j < n → bit (pack n f) j ≡ f j
unfolding pack
bit-pack zero f j h = absurd (omega arith)
bit-pack (suc n) f zero h = bit-first _ ∙ (low (f 0) (pack n (λ j. f (suc j)))).1
bit-pack (suc n) f (suc j) h =
    bit-next _ j ∙ ap (λ (x : ℕ). bit x j) (low (f 0) (pack n (λ j. f (suc j)))).0 ∙ bit-pack n (λ j. f (suc j)) j (le_of_suc-le-suc h)

pub pack-below : (n : ℕ) (f : ℕ → Bool) → pack n f < 2 ^ n
unfolding pack
pack-below zero f = omega arith
pack-below (suc n) f = first (f 0) (pack n (λ j. f (suc j))) (pack-below n (λ j. f (suc j)))
  where
    first : (b : Bool) (x : ℕ) → x < 2 ^ n → cond b 1 0 + x * 2 < 2 ^ suc n
    first true x h = rw pow-suc (omega arith)
    first false x h = rw pow-suc (omega arith)

same-digit : (a b : ℕ) → a < 2 → b < 2 → eqb a 1 ≡ eqb b 1 → a ≡ b
same-digit zero zero ha hb e = refl
same-digit zero (suc zero) ha hb e = absurd (let z : ◌≡◌ {A = ℕ} 0 1 = cc in omega arith)
same-digit (suc zero) zero ha hb e = absurd (let z : ◌≡◌ {A = ℕ} 0 1 = cc in omega arith)
same-digit (suc zero) (suc zero) ha hb e = refl
same-digit (suc (suc a)) b ha hb e = absurd (omega arith)
same-digit zero (suc (suc b)) ha hb e = absurd (omega arith)
same-digit (suc zero) (suc (suc b)) ha hb e = absurd (omega arith)

-- two numbers below 2 ^ n with the same bits are one
pub bits-once : (n x y : ℕ) → x < 2 ^ n → y < 2 ^ n → ((j : ℕ) → j < n → bit x j ≡ bit y j) → x ≡ y
bits-once zero x y hx hy e = lt-one hx ∙ sym (lt-one hy)
bits-once (suc n) x y hx hy e =
    let hx' = rw pow-suc at hx in
    let hy' = rw pow-suc at hy in
    let halves : x / 2 ≡ y / 2 =
    bits-once n (x / 2) (y / 2) (omega arith) (omega arith)
    (λ j below. sym (bit-next x j) ∙ e (suc j) (suc-le-suc below) ∙ bit-next y j)
    in
    let lows : x % 2 ≡ y % 2 =
    same-digit (x % 2) (y % 2) (omega arith) (omega arith) (sym (bit-first x) ∙ e 0 (omega arith) ∙ bit-first y)
    in
    omega arith

pub pack-same : (n : ℕ) (f g : ℕ → Bool) → ((j : ℕ) → j < n → f j ≡ g j) → pack n f ≡ pack n g
unfolding pack
pack-same zero f g e = refl
pack-same (suc n) f g e =
    ap₂ (λ (b : Bool) (x : ℕ). cond b 1 0 + x * 2) (e 0 (omega arith)) (pack-same n (λ j. f (suc j)) (λ j. g (suc j)) (λ j h. e (suc j) (omega arith)))

pub pack-bits : (n x : ℕ) → x < 2 ^ n → pack n (bit x) ≡ x
pack-bits n x h = bits-once n (pack n (bit x)) x (pack-below n (bit x)) h (λ j below. bit-pack n (bit x) j below)

-- a number of n bits with these bits
pub pack-is : (n x : ℕ) (f : ℕ → Bool) → x < 2 ^ n → ((j : ℕ) → j < n → bit x j ≡ f j) → x ≡ pack n f
pack-is n x f h e = bits-once n x (pack n f) h (pack-below n f) (λ j below. e j below ∙ sym (bit-pack n f j below))

-- a byte with these bits
pub byte-is : (x : ℕ) (f : ℕ → Bool) → x < 256 → ((j : ℕ) → j < 8 → bit x j ≡ f j) → x ≡ pack 8 f
byte-is = pack-is 8
