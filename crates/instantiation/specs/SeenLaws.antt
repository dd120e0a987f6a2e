-- Laws of attributes that were listed before: repeats in two lists, and the mark of one attribute.
use Rattle.std.specs.Prelude.{ℕ, ◌*◌, ◌/◌, ◌%◌, ◌^◌, ◌<◌, ◌≡◌, refl, Bool, false, ◌||◌, List, [], ◌∷◌, ◌++◌, eqb, length, get_or, set, replicate}
use Rattle.std.proofs.Common.{sym, ap, ap₂, ◌∙◌, arith, eq-eqb, ne_eqb, get_or-set_same, get_or-set_other}
use Rattle.std.proofs.Math.Bool.{or_assoc, or-false}
use Rattle.std.proofs.Math.Decide.{dec_lt, ℕ_discrete}
use Rattle.std.specs.Int.Bits.{bit_or}
use Rattle.std.proofs.lemmas.List.{length-replicate, get_or-replicate}
use Rattle.std.proofs.Math.ListN.{get_or-eq_default}
use Rattle.bits.specs.Bit.{bit, bit-or, bit-power, bit-none, shifted_one}
use Rattle.bits.specs.Rising.{member}
use Rattle.instantiation.specs.Seen.{repeated_in, seen_in}

-- ---- repeats

-- it matters only what was seen
pub repeated-same : (s t : ℕ → Bool) (xs : List ℕ) → ((a : ℕ) → s a ≡ t a) → repeated_in s xs ≡ repeated_in t xs
repeated-same s t [] e = refl
repeated-same s t (x ∷ xs) e =
    ap₂ ◌||◌ (e x) (repeated-same (λ a. s a || eqb a x) (λ a. t a || eqb a x) xs (λ a. ap (λ (b : Bool). b || eqb a x) (e a)))

-- what stands in the first list was seen before the second
pub repeated-append : (s : ℕ → Bool) (xs ys : List ℕ) → repeated_in s (xs ++ ys) ≡ repeated_in s xs || repeated_in (λ a. s a || member a xs) ys
repeated-append s [] ys = repeated-same s (λ a. s a || false) ys (λ a. sym (or-false (s a)))
repeated-append s (x ∷ xs) ys =
    ap (λ (b : Bool). s x || b)
    (repeated-append (λ a. s a || eqb a x) xs ys
    ∙ ap (λ (b : Bool). repeated_in (λ a. s a || eqb a x) xs || b)
    (repeated-same (λ a. s a || eqb a x || member a xs) (λ a. s a || (eqb a x || member a xs)) ys (λ a. or_assoc (s a) (eqb a x) (member a xs))))
    ∙ sym (or_assoc (s x) (repeated_in (λ a. s a || eqb a x) xs) (repeated_in (λ a. s a || member a (x ∷ xs)) ys))

-- ---- marks

-- no mark at first
pub marks-none : (n a : ℕ) → seen_in (replicate n 0) a ≡ false
marks-none n a = ap (λ (x : ℕ). bit x (a % 8)) (go (dec_lt (a / 8) n)) ∙ bit-none (a % 8)
  where
    go : Dec (a / 8 < n) → ◌≡◌ {A = ℕ} (get_or (replicate n 0) (a / 8) 0) 0
    go (yes h) = get_or-replicate n (a / 8) 0 0 h
    go (no h) = let size = length-replicate {A = ℕ} n 0 in get_or-eq_default (replicate n 0) 0 {n = a / 8} (omega arith)

-- the marks with that of attribute x
abbrev pub with_mark : List ℕ → ℕ → List ℕ
with_mark marks x = set marks (x / 8) (bit_or (get_or marks (x / 8) 0) (1 * 2 ^ (x % 8) % 256))

pub mark-one : (marks : List ℕ) (x : ℕ) → x / 8 < length marks → (a : ℕ) → seen_in (with_mark marks x) a ≡ seen_in marks a || eqb a x
mark-one marks x inside a = go (ℕ_discrete (a / 8) (x / 8))
  where
    digit : a / 8 ≡ x / 8 → Dec (a % 8 ≡ x % 8) → eqb (x % 8) (a % 8) ≡ eqb a x
    digit e (yes f) = eq-eqb (x % 8) (a % 8) (sym f) ∙ sym (eq-eqb a x (omega arith))
    digit e (no f) = ne_eqb (x % 8) (a % 8) (λ g. f (sym g)) ∙ sym (ne_eqb a x (λ g. f (ap (λ (n : ℕ). n % 8) g)))

    go : Dec (a / 8 ≡ x / 8) → seen_in (with_mark marks x) a ≡ seen_in marks a || eqb a x
    go (yes e) =
        rw (e, get_or-set_same marks (x / 8) (bit_or (get_or marks (x / 8) 0) (1 * 2 ^ (x % 8) % 256)) 0 inside, shifted_one 8 (x % 8) (omega arith), bit-or, bit-power)
        (ap (λ (b : Bool). bit (get_or marks (x / 8) 0) (a % 8) || b) (digit e (ℕ_discrete (a % 8) (x % 8))))
    go (no e) =
        rw (get_or-set_other marks (x / 8) (a / 8) (bit_or (get_or marks (x / 8) 0) (1 * 2 ^ (x % 8) % 256)) 0 e, ne_eqb a x (λ g. e (ap (λ (n : ℕ). n / 8) g)))
        (sym (or-false (seen_in marks a)))
