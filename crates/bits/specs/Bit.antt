-- The bits of a number.
use Rattle.std.specs.Prelude.{ℕ, zero, suc, ◌+◌, ◌*◌, ◌/◌, ◌%◌, ◌^◌, ◌-◌, ◌<◌, ◌≡◌, refl, Bool, true, false, not, ◌||◌, ◌&&◌, eqb}
use Rattle.std.proofs.Common.{sym, ap, ◌∙◌, true≢false, div-one, mul_comm, one-mul, pow-suc, mod-lt, mod-eq_of_lt, le_of_suc-le-suc, mul-div_cancel, arith, eq-eqb, pow_pos, shr-shr, lit<}
use Rattle.std.proofs.Math.Bool.{and-true}
use Rattle.std.proofs.Math.Nat.{div-div-eq-div-mul, div-eq_of_lt, mul-mod_left, zero-div}
use Rattle.std.proofs.Math.Pow.{pow-lt}
use Rattle.std.proofs.Math.Dec.{eqb-zero-suc, eqb-suc-zero, eqb-suc-suc}
use Rattle.std.specs.Int.Bits.{xor_add_and, bit_or, bit_and, bit_xor}
use Rattle.std.proofs.lemmas.Nat.{and_mask, or_shr, or_mod, and_shr, and_mod, xor_shr, xor_mod}

-- bit j of x stands
unfoldable pub bit : ℕ → ℕ → Bool
bit x j = eqb (x / 2 ^ j % 2) 1

-- exactly one of two stands
abbrev pub differs : Bool → Bool → Bool
differs true b = not b
differs false b = b

-- the test in code: shift, then the lowest digit
pub bit_test : (x j : ℕ) → eqb (x / 2 ^ j % 2) 1 ≡ bit x j
unfolding bit
bit_test x j = refl

-- a number shifted to the right
pub bit-right : (x s j : ℕ) → bit (x / 2 ^ s) j ≡ bit x (s + j)
unfolding bit
bit-right x s j = ap (λ (d : ℕ). eqb (d % 2) 1) (shr-shr x s j)

pub bit-first : (x : ℕ) → bit x 0 ≡ eqb (x % 2) 1
unfolding bit
bit-first x = ap (λ (y : ℕ). eqb (y % 2) 1) (div-one x)

pub bit-next : (x j : ℕ) → bit x (suc j) ≡ bit (x / 2) j
unfolding bit
bit-next x j =
    ap (λ (d : ℕ). eqb (d % 2) 1)
    (ap (λ (p : ℕ). x / p) (pow-suc 2 j ∙ mul_comm (2 ^ j) 2) ∙ sym (div-div-eq-div-mul x 2 (2 ^ j)))

-- a number has no bit from its width up
pub bit-above : (x j : ℕ) → x < 2 ^ j → bit x j ≡ false
unfolding bit
bit-above x j h = ap (λ (d : ℕ). eqb (d % 2) 1) (div-eq_of_lt h)

pub bit-none : (j : ℕ) → bit 0 j ≡ false
unfolding bit
bit-none j = ap (λ (d : ℕ). eqb (d % 2) 1) (zero-div (2 ^ j))

pub bit-power : (a b : ℕ) → bit (2 ^ a) b ≡ eqb a b
unfolding bit
bit-power zero zero = refl
bit-power zero (suc b) = bit-next 1 b ∙ bit-none b ∙ sym (eqb-zero-suc b)
bit-power (suc a) zero =
    bit-first (2 ^ suc a)
    ∙ ap (λ (d : ℕ). eqb d 1) (ap (λ (p : ℕ). p % 2) (pow-suc 2 a) ∙ mul-mod_left (2 ^ a) 2)
    ∙ sym (eqb-suc-zero a)
bit-power (suc a) (suc b) =
    bit-next (2 ^ suc a) b
    ∙ ap (λ (x : ℕ). bit x b) (ap (λ (p : ℕ). p / 2) (pow-suc 2 a) ∙ mul-div_cancel (2 ^ a) (lit< tt))
    ∙ bit-power a b
    ∙ sym (eqb-suc-suc a b)

-- 1 << j in a number of w bits is not cut
pub shifted_one : (w j : ℕ) → j < w → 1 * 2 ^ j % 2 ^ w ≡ 2 ^ j
shifted_one w j h = ap (λ (p : ℕ). p % 2 ^ w) (one-mul (2 ^ j)) ∙ mod-eq_of_lt (pow-lt {j = w} h)

-- a digit is 0 or 1
digit : (P : ℕ → Type 0) → P 0 → P 1 → (x : ℕ) → x < 2 → P x
digit P z o zero h = z
digit P z o (suc zero) h = o
digit P z o (suc (suc x)) h = absurd (omega arith)

-- a digit that is not 1 is 0
pub digit_clear : (d : ℕ) → d < 2 → eqb d 1 ≡ false → d ≡ 0
digit_clear = digit (λ (d : ℕ). eqb d 1 ≡ false → d ≡ 0) (λ e. refl) (λ e. absurd (true≢false e))

-- an operation on numbers that goes digit by digit, with its table: its bit j is the table's value at the two bits j
bit-table :
    (op : ℕ → ℕ → ℕ) (table : Bool → Bool → Bool)
    → ((x y j : ℕ) → op x y / 2 ^ j ≡ op (x / 2 ^ j) (y / 2 ^ j))
    → ((x y j : ℕ) → op x y % 2 ^ j ≡ op (x % 2 ^ j) (y % 2 ^ j))
    → eqb (op 0 0) 1 ≡ table false false
    → eqb (op 0 1) 1 ≡ table false true
    → eqb (op 1 0) 1 ≡ table true false
    → eqb (op 1 1) 1 ≡ table true true
    → (x y j : ℕ)
    → bit (op x y) j ≡ table (bit x j) (bit y j)
unfolding bit
bit-table op table shift low t00 t01 t10 t11 x y j =
    ap (λ (d : ℕ). eqb d 1) (ap (λ (z : ℕ). z % 2) (shift x y j) ∙ low (x / 2 ^ j) (y / 2 ^ j) 1)
    ∙ digits (x / 2 ^ j % 2) (y / 2 ^ j % 2) (mod-lt (x / 2 ^ j) (lit< tt)) (mod-lt (y / 2 ^ j) (lit< tt))
  where
    digits : (a b : ℕ) → a < 2 → b < 2 → eqb (op a b) 1 ≡ table (eqb a 1) (eqb b 1)
    digits a b ha hb =
        digit (λ (a : ℕ). eqb (op a b) 1 ≡ table (eqb a 1) (eqb b 1))
        (digit (λ (b : ℕ). eqb (op 0 b) 1 ≡ table (eqb 0 1) (eqb b 1)) t00 t01 b hb)
        (digit (λ (b : ℕ). eqb (op 1 b) 1 ≡ table (eqb 1 1) (eqb b 1)) t10 t11 b hb)
        a
        ha

pub bit-or : (x y j : ℕ) → bit (bit_or x y) j ≡ bit x j || bit y j
bit-or = bit-table bit_or ◌||◌ or_shr or_mod refl refl refl refl

pub bit-and : (x y j : ℕ) → bit (bit_and x y) j ≡ bit x j && bit y j
bit-and = bit-table bit_and ◌&&◌ and_shr and_mod refl refl refl refl

pub bit-xor : (x y j : ℕ) → bit (bit_xor x y) j ≡ differs (bit x j) (bit y j)
bit-xor = bit-table bit_xor differs xor_shr xor_mod refl refl refl refl

pub bit-ones : (n j : ℕ) → j < n → bit (2 ^ n - 1) j ≡ true
bit-ones zero j h = absurd (omega arith)
bit-ones (suc n) zero h =
    let p = pow_pos n in
    let odd : (2 ^ suc n - 1) % 2 ≡ 1 = rw pow-suc (omega arith) in
    bit-first (2 ^ suc n - 1) ∙ eq-eqb ((2 ^ suc n - 1) % 2) 1 odd
bit-ones (suc n) (suc j) h =
    let p = pow_pos n in
    let half : (2 ^ suc n - 1) / 2 ≡ 2 ^ n - 1 = rw pow-suc (omega arith) in
    bit-next (2 ^ suc n - 1) j ∙ ap (λ (x : ℕ). bit x j) half ∙ bit-ones n j (le_of_suc-le-suc h)

-- the low n bits of a number
pub bit-low : (n x j : ℕ) → j < n → bit (x % 2 ^ n) j ≡ bit x j
bit-low n x j h =
    ap (λ (y : ℕ). bit y j) (sym (and_mask x n)) ∙ bit-and x (2 ^ n - 1) j ∙ ap (λ (b : Bool). bit x j && b) (bit-ones n j h) ∙ and-true (bit x j)

-- the complement of a number of w bits
pub bit_not : (w x j : ℕ) → x < 2 ^ w → j < w → bit (2 ^ w - 1 - x) j ≡ not (bit x j)
bit_not w x j hx hj =
    let complement : 2 ^ w - 1 - x ≡ bit_xor x (2 ^ w - 1) =
    let sum = xor_add_and x (2 ^ w - 1) in
    let mask = and_mask x w in
    let low = mod-eq_of_lt {m = 2 ^ w} hx in
    omega arith
    in
    ap (λ (y : ℕ). bit y j) complement ∙ bit-xor x (2 ^ w - 1) j ∙ ones (bit x j)
  where
    ones : (b : Bool) → differs b (bit (2 ^ w - 1) j) ≡ not b
    ones true = ap not (bit-ones w j hj)
    ones false = bit-ones w j hj
