-- Columns: the subsets of eight entries as eight bytes of a number, one for each relation, and a
-- relation's word from these bytes.
use Rattle.std.specs.Prelude.{ℕ, ◌+◌, ◌-◌, ◌*◌, ◌/◌, ◌%◌, ◌^◌, ◌≤◌, ◌<◌, min, ◌≡◌, refl, Bool, true, false, cond, not, ◌&&◌, ◌||◌, List, ◌⊎◌, ltb, eqb, length, get_or, set, take}
use Rattle.std.proofs.Common.{sym, ap, ap₂, ◌∙◌, true≢false, inl, inr, eq-or-lt_of_le, mod-lt, arith, ltb-true, ltb-false, eqb-true, lt-ltb, le-ltb, lit<, length-set, pow_mono, get_or-take, get_or-set_same, get_or-set_other, length-take-le, take-take}
use Rattle.std.proofs.Math.Bool.{or-false}
use Rattle.std.proofs.Math.Decide.{dec_lt}
use Rattle.std.proofs.Math.Nat.{mul-mod_left}
use Rattle.std.specs.Int.Bits.{bit_or, bit_and, bit_xor}
use Rattle.std.proofs.Math.ListN.{get_or-eq_default}
use Rattle.std.proofs.lemmas.Nat.{shl-shr}
use Rattle.bits.specs.AllBelow.{all_below, all_in}
use Rattle.bits.specs.Bit.{bit, differs, bit-above, bit-none, bit-or, bit-and, bit-xor, bit-low, bit-right}
use Rattle.bits.specs.Booleans.{and_left, and_right}
use Rattle.bits.specs.Pack.{bits-once}
use Rattle.type_sets.specs.Sets.{relation_word}
use Rattle.type_sets.specs.SetLaws.{one_table}
use Rattle.type_sets.specs.SetCells.{relation-below}
use Rattle.type_sets.proofs.SetCells.{relation-bit}

-- ---- the bits of a word shifted to the left

bit-left : (x s k : ℕ) → k < 64 → bit (x * 2 ^ s % 2 ^ 64) k ≡ cond (ltb k s) false (bit x (k - s))
bit-left x s k h = bit-low 64 (x * 2 ^ s) k h ∙ go (dec_lt k s)
  where
    go : Dec (k < s) → bit (x * 2 ^ s) k ≡ cond (ltb k s) false (bit x (k - s))
    go (yes less) = rw (lt-ltb k s less) (sym (bit-low s (x * 2 ^ s) k less) ∙ ap (λ (y : ℕ). bit y k) (mul-mod_left x (2 ^ s)) ∙ bit-none k)
    go (no more) =
        let place : k ≡ s + (k - s) = omega arith in
        rw (le-ltb k s (omega arith)) (ap (bit (x * 2 ^ s)) place ∙ sym (bit-right (x * 2 ^ s) s (k - s)) ∙ ap (λ (y : ℕ). bit y (k - s)) (shl-shr x s))

-- ---- bits exchanged within a word

-- where each bit of x under the mask differs from the one s places above it
unfoldable pub unlike : ℕ → ℕ → ℕ → ℕ
unlike x mask s = bit_and mask (bit_xor x (x / 2 ^ s))

-- x with each bit under the mask and the one s places above it exchanged
unfoldable pub exchanged : ℕ → ℕ → ℕ → ℕ
exchanged x mask s = bit_xor (bit_xor x (unlike x mask s)) (unlike x mask s * 2 ^ s % 2 ^ 64)

-- whether place k is s places above one under the mask
abbrev above : ℕ → ℕ → ℕ → Bool
above mask s k = cond (ltb k s) false (bit mask (k - s))

-- the place that comes to place k
abbrev partner : ℕ → ℕ → ℕ → ℕ
partner mask s k = cond (bit mask k) (s + k) (cond (above mask s k) (k - s) k)

-- no place is in two exchanges, and none leaves the word
abbrev sound : ℕ → ℕ → ℕ → Bool
sound mask s k = not (bit mask k && above mask s k) && ltb (partner mask s k) 64

exchanged-bit : (x mask s k : ℕ) → k < 64 → not (bit mask k && above mask s k) ≡ true → bit (exchanged x mask s) k ≡ bit x (partner mask s k)
unfolding exchanged unlike
exchanged-bit x mask s k h apart =
    bit-xor (bit_xor x (unlike x mask s)) (unlike x mask s * 2 ^ s % 2 ^ 64) k
    ∙ ap₂ differs (bit-xor x (unlike x mask s) k ∙ ap (differs (bit x k)) (unlike-bit k)) (bit-left (unlike x mask s) s k h ∙ ap (cond (ltb k s) false) (unlike-bit (k - s)))
    ∙ go (bit mask k) (bit mask (k - s)) (ltb k s) (λ e. ap (bit x) (place (ltb-false k s e))) apart
  where
    unlike-bit : (j : ℕ) → bit (unlike x mask s) j ≡ bit mask j && differs (bit x j) (bit x (s + j))
    unlike-bit j = bit-and mask (bit_xor x (x / 2 ^ s)) j ∙ ap (λ (b : Bool). bit mask j && b) (bit-xor x (x / 2 ^ s) j ∙ ap (differs (bit x j)) (bit-right x s j))

    place : s ≤ k → s + (k - s) ≡ k
    place h = omega arith

    higher : (p u : Bool) → differs (differs p (differs p u)) false ≡ u
    higher = one_table (λ p u. differs (differs p (differs p u)) false) (λ p u. u) refl refl refl refl

    lower : (p d : Bool) → differs (differs p false) (differs d p) ≡ d
    lower = one_table (λ p d. differs (differs p false) (differs d p)) (λ p d. d) refl refl refl refl

    none : (p : Bool) → differs (differs p false) false ≡ p
    none p = one_table (λ p d. differs (differs p false) false) (λ p d. p) refl refl refl refl p p

    go :
        (a b l : Bool)
        → (l ≡ false → bit x (s + (k - s)) ≡ bit x k)
        → not (a && cond l false b) ≡ true
        → differs (differs (bit x k) (a && differs (bit x k) (bit x (s + k))))
        (cond l false (b && differs (bit x (k - s)) (bit x (s + (k - s)))))
        ≡ bit x (cond a (s + k) (cond (cond l false b) (k - s) k))
    go true b true same apart = higher (bit x k) (bit x (s + k))
    go true true false same apart = absurd (true≢false (sym apart))
    go true false false same apart = higher (bit x k) (bit x (s + k))
    go false b true same apart = none (bit x k)
    go false true false same apart = rw (same refl) (lower (bit x k) (bit x (k - s)))
    go false false false same apart = none (bit x k)

exchanged-sound : (x mask s : ℕ) → all_below 64 (sound mask s) ≡ true → (k : ℕ) → k < 64 → (bit (exchanged x mask s) k ≡ bit x (partner mask s k)) × (partner mask s k < 64)
exchanged-sound x mask s all k h =
    let both = all_in 64 (sound mask s) all k h in
    let apart : Bool = not (bit mask k && above mask s k) in
    (exchanged-bit x mask s k h (and_left apart (ltb (partner mask s k) 64) both), ltb-true (partner mask s k) 64 (and_right apart (ltb (partner mask s k) 64) both))

-- rows and columns of eight by eight bits exchanged
unfoldable pub transposed : ℕ → ℕ
transposed x = exchanged (exchanged (exchanged x 0x00aa00aa00aa00aa 7) 0x0000cccc0000cccc 14) 0x00000000f0f0f0f0 28

-- the place that comes to place k of it
abbrev crossed : ℕ → ℕ
crossed k = partner 0x00aa00aa00aa00aa 7 (partner 0x0000cccc0000cccc 14 (partner 0x00000000f0f0f0f0 28 k))

transposed-sound :
    (all_below 64 (sound 0x00aa00aa00aa00aa 7) ≡ true)
    × (all_below 64 (sound 0x0000cccc0000cccc 14) ≡ true)
    × (all_below 64 (sound 0x00000000f0f0f0f0 28) ≡ true)
    × (all_below 64 (λ k. eqb (crossed k) (k % 8 * 8 + k / 8)) ≡ true)
unfolding bit
transposed-sound = (refl, refl, refl, refl)

transposed-bit : (x k : ℕ) → k < 64 → bit (transposed x) k ≡ bit x (k % 8 * 8 + k / 8)
unfolding transposed
transposed-bit x k h =
    let third = exchanged-sound _ 0x00000000f0f0f0f0 28 transposed-sound.2 k h in
    let second = exchanged-sound _ 0x0000cccc0000cccc 14 transposed-sound.1 _ third.1 in
    let first = exchanged-sound x 0x00aa00aa00aa00aa 7 transposed-sound.0 _ second.1 in
    let place = all_in 64 (λ k. eqb (crossed k) (k % 8 * 8 + k / 8)) transposed-sound.3 k h in
    third.0 ∙ second.0 ∙ first.0 ∙ ap (bit x) (eqb-true (crossed k) (k % 8 * 8 + k / 8) place)

-- ---- a number from bytes, the highest first

-- bit k of the number whose bytes are the elements `from` to `from` + n - 1 of the list, each without its low s bits
abbrev stacked : List ℕ → ℕ → ℕ → ℕ → ℕ → Bool
stacked list s from n k = bit (get_or (take (from + n) list) (from + k / 8) 0) (s + k % 8)

-- x has its bytes from byte `at` on
pub record Stacking (list : List ℕ) (s from n at x : ℕ) : Type 0 where
  pub bits : (k : ℕ) → at * 8 + k < 64 → bit x k ≡ stacked list s from n (at * 8 + k)

past : (list : List ℕ) (n i s : ℕ) → n ≤ length list → n ≤ i → bit (get_or (take n list) i 0) s ≡ false
past list n i s fits h = let size = length-take-le n list fits in ap (λ (x : ℕ). bit x s) (get_or-eq_default (take n list) 0 {n = i} (omega arith)) ∙ bit-none s

module _ (list : List ℕ) (s from n : ℕ) (fits : from + n ≤ length list) where
  pub stacking-first : Stacking list s from n n 0
  stacking-first = record { bits = λ k h. bit-none k ∙ sym (past list (from + n) (from + (n * 8 + k) / 8) (s + (n * 8 + k) % 8) fits (omega arith)) }

  pub stacking-next : (at x b : ℕ) → 1 ≤ at → at ≤ n → b ≡ get_or list (from + (at - 1)) 0 / 2 ^ s % 256 → Stacking list s from n at x → Stacking list s from n (at - 1) (bit_or (x * 2 ^ 8 % 2 ^ 64) b)
  stacking-next at x b some most is so = record { bits = λ k h. bit-or (x * 2 ^ 8 % 2 ^ 64) b k ∙ ap (λ (o : Bool). o || bit b k) (bit-left x 8 k (omega arith)) ∙ go k h (dec_lt k 8) }
    where
      go : (k : ℕ) → (at - 1) * 8 + k < 64 → Dec (k < 8) → cond (ltb k 8) false (bit x (k - 8)) || bit b k ≡ stacked list s from n ((at - 1) * 8 + k)
      go k h (yes less) =
          let place : from + ((at - 1) * 8 + k) / 8 ≡ from + (at - 1) = omega arith in
          let low : s + ((at - 1) * 8 + k) % 8 ≡ s + k = omega arith in
          let element = get_or-take (from + n) list (from + (at - 1)) 0 (omega arith) in
          rw (lt-ltb k 8 less, place, low, element, is) (bit-low 8 (get_or list (from + (at - 1)) 0 / 2 ^ s) k less ∙ bit-right (get_or list (from + (at - 1)) 0) s k)
      go k h (no more) =
          let place : at * 8 + (k - 8) ≡ (at - 1) * 8 + k = omega arith in
          let small : b < 256 = rw is (mod-lt (get_or list (from + (at - 1)) 0 / 2 ^ s) (lit< tt)) in
          let power = pow_mono {i = 8} {j = k} (omega arith) in
          rw (le-ltb k 8 (omega arith), bit-above b k (omega arith)) (or-false (bit x (k - 8)) ∙ so.bits (k - 8) (omega arith) ∙ ap (stacked list s from n) place)

-- what stands after the last element that is read changes nothing
pub stacking-whole : (list : List ℕ) (made s from n x : ℕ) → from + n ≤ made → Stacking (take made list) s from n 0 x → Stacking list s from n 0 x
stacking-whole list made s from n x fits so = record { bits = λ k h. rw (← take-take (from + n) made list fits) (so.bits k h) }

-- ---- groups of eight entries

-- bit 8 r + j of x is whether relation r holds entry `from` + j
pub record Group (entries : List ℕ) (from x : ℕ) : Type 0 where
  pub bits : (k : ℕ) → k < 64 → bit x k ≡ bit (get_or entries (from + k % 8) 0) (k / 8)

group-is : (items : List ℕ) (count from n x y : ℕ) → count ≤ length items → from < count → n ≡ min 8 (count - from) → Stacking items 0 from n 0 x → y ≡ transposed x → Group (take count items) from y
group-is items count from n x y fits some n-is so is = record { bits = λ k h. ap (λ (y : ℕ). bit y k) is ∙ transposed-bit x k h ∙ so.bits (k % 8 * 8 + k / 8) (omega arith) ∙ go k h (dec_lt (k % 8) n) }
  where
    go : (k : ℕ) → k < 64 → Dec (k % 8 < n) → stacked items 0 from n (0 * 8 + (k % 8 * 8 + k / 8)) ≡ bit (get_or (take count items) (from + k % 8) 0) (k / 8)
    go k h d =
        let place : from + (0 * 8 + (k % 8 * 8 + k / 8)) / 8 ≡ from + k % 8 = omega arith in
        let low : 0 + (0 * 8 + (k % 8 * 8 + k / 8)) % 8 ≡ k / 8 = omega arith in
        rw (place, low) (step d)
      where
        step : Dec (k % 8 < n) → bit (get_or (take (from + n) items) (from + k % 8) 0) (k / 8) ≡ bit (get_or (take count items) (from + k % 8) 0) (k / 8)
        step (yes less) = ap (λ (x : ℕ). bit x (k / 8)) (get_or-take (from + n) items (from + k % 8) 0 (omega arith) ∙ sym (get_or-take count items (from + k % 8) 0 (omega arith)))
        step (no more) = past items (from + n) (from + k % 8) (k / 8) (omega arith) (omega arith) ∙ sym (past items count (from + k % 8) (k / 8) fits (omega arith))

-- the groups of the entries, as far as they are made
pub record Gathering (entries : List ℕ) (made size : ℕ) (groups : List ℕ) : Type 0 where
  pub same : length groups ≡ size
  pub group : (g : ℕ) → g < made → Group entries (g * 8) (get_or groups g 0)

-- the groups of a table with so many entries
abbrev pub Groups : List ℕ → ℕ → List ℕ → Type 0
Groups items count groups = ((count + 7) / 8 ≤ length groups) × Gathering (take count items) ((count + 7) / 8) (length groups) groups

pub gathering-first : (entries groups : List ℕ) → Gathering entries 0 (length groups) groups
gathering-first entries groups = record { same = refl; group = λ g h. absurd (omega arith) }

pub gathering-next :
    (items : List ℕ) (count made size n : ℕ) (groups : List ℕ) (x y : ℕ)
    → count ≤ length items
    → made * 8 < count
    → made < size
    → n ≡ min 8 (count - made * 8)
    → Stacking items 0 (made * 8) n 0 x
    → y ≡ transposed x
    → Gathering (take count items) made size groups
    → Gathering (take count items) (made + 1) size (set groups made y)
gathering-next items count made size n groups x y fits some inside n-is stacked y-is so =
    record { same = length-set groups made y ∙ so.same; group = λ g h. go g (eq-or-lt_of_le (most g h)) }
  where
    most : (g : ℕ) → g < made + 1 → g ≤ made
    most g h = omega arith

    go : (g : ℕ) → (g ≡ made) ⊎ (g < made) → Group (take count items) (g * 8) (get_or (set groups made y) g 0)
    go g (inl e) = let size = so.same in rw (e, get_or-set_same groups made y 0 (omega arith)) (group-is items count (made * 8) n x y fits some n-is stacked y-is)
    go g (inr below) = rw (get_or-set_other groups made g y 0 (λ e. omega arith)) (so.group g below)

pub gathering-all : (items : List ℕ) (count made size : ℕ) (groups : List ℕ) → made ≡ (count + 7) / 8 → (count + 7) / 8 ≤ size → Gathering (take count items) made size groups → Groups items count groups
gathering-all items count made size groups all fits so = let same = so.same in rw same (fits, rw all at so)

-- ---- a relation's word from the groups

pub word-is :
    (items groups : List ℕ) (count r v n x : ℕ)
    → count ≤ length items
    → Groups items count groups
    → r < 8
    → 2 ≤ v
    → (v - 2) * 64 < count
    → n ≡ min 8 ((count + 7) / 8 - (v - 2) * 8)
    → x < 2 ^ 64
    → Stacking groups (r * 8) ((v - 2) * 8) n 0 x
    → x ≡ relation_word items count r v
word-is items groups count r v n x fits made small some inside n-is below so =
    bits-once 64 x (relation_word items count r v) below (relation-below items count r v)
    (λ k h. so.bits k (omega arith) ∙ ap (stacked groups (r * 8) ((v - 2) * 8) n) (first k) ∙ go k h (dec_lt (k / 8) n) ∙ sym (relation-bit items count r v k fits some h))
  where
    first : (k : ℕ) → 0 * 8 + k ≡ k
    first k = omega arith

    go : (k : ℕ) → k < 64 → Dec (k / 8 < n) → stacked groups (r * 8) ((v - 2) * 8) n k ≡ bit (get_or (take count items) ((v - 2) * 64 + k) 0) r
    go k h (yes less) =
        let place : ((v - 2) * 8 + k / 8) * 8 + (r * 8 + k % 8) % 8 ≡ (v - 2) * 64 + k = omega arith in
        let row : (r * 8 + k % 8) / 8 ≡ r = omega arith in
        ap (λ (x : ℕ). bit x (r * 8 + k % 8)) (get_or-take ((v - 2) * 8 + n) groups ((v - 2) * 8 + k / 8) 0 (omega arith))
        ∙ (made.1.group ((v - 2) * 8 + k / 8) (omega arith)).bits (r * 8 + k % 8) (omega arith)
        ∙ rw (place, row)
    go k h (no more) =
        let size = made.0 in
        past groups ((v - 2) * 8 + n) ((v - 2) * 8 + k / 8) (r * 8 + k % 8) (omega arith) (omega arith)
        ∙ sym (past items count ((v - 2) * 64 + k) r fits (omega arith))
