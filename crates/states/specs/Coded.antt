-- Kinds whose values are coded by digits, and the states of m relations: numbers of m digits, relation 0 lowest.
use Rattle.std.specs.Prelude.{ℕ, zero, suc, ◌^◌, ◌<◌, ◌≡◌, refl, Bool, true, false, cond, eqb, ltb}
use Rattle.std.proofs.Math.Path.{sym, ap, fun_ext}
use Rattle.std.proofs.Common.{◌∙◌, lit<, arith, ltb-false}
use Rattle.bits.specs.Bit.{bit, bit_test}
use Rattle.bits.specs.Pack.{pack, bit-pack, pack-below, bits-once}
use Rattle.algebra.specs.Cell.{Kinds, plain, same_bool}
use Rattle.states.specs.Digits.{digit, digit-is, digit-none, digit-below, from_digits, digit-from, from-below, digits-once}

-- kinds whose values are the digits of a base: each value has a digit below it, and each such digit a value
pub record Coded (K : Kinds) : Type 0 where
  -- so many values
  pub base : ℕ
  pub digit_of : K.Value → ℕ
  pub value : ℕ → K.Value
  pub below : (v : K.Value) → digit_of v < base
  pub value-digit : (v : K.Value) → value (digit_of v) ≡ v
  pub digit_value : (d : ℕ) → d < base → digit_of (value d) ≡ d
  -- lacking is digit 0, and every other digit has
  pub none-digit : digit_of K.none ≡ 0
  pub has-digit : (v : K.Value) → K.has v ≡ ltb 0 (digit_of v)
  pub same_self : (v : K.Value) → K.same v v ≡ true
  pub same-only : (v w : K.Value) → K.same v w ≡ true → v ≡ w

-- ---- plain: a bit

pub bit_below : (b : Bool) → cond b 1 0 < 2
bit_below true = lit< tt
bit_below false = lit< tt

pub bit-back : (b : Bool) → eqb (cond b 1 0) 1 ≡ b
bit-back true = refl
bit-back false = refl

pub bit-forth : (d : ℕ) → d < 2 → cond (eqb d 1) 1 0 ≡ d
bit-forth zero h = refl
bit-forth (suc zero) h = refl
bit-forth (suc (suc d)) h = absurd (omega arith)

pub bit-has : (b : Bool) → b ≡ ltb 0 (cond b 1 0)
bit-has true = refl
bit-has false = refl

pub bit-self : (b : Bool) → same_bool b b ≡ true
bit-self true = refl
bit-self false = refl

pub bit-only : (b d : Bool) → same_bool b d ≡ true → b ≡ d
bit-only true d h = sym h
bit-only false true h = h
bit-only false false h = refl

-- base 2: 0 for lacking, 1 for having
abbrev pub plain_code : Coded plain
plain_code =
    record {
      base = 2;
      digit_of = λ b. cond b 1 0;
      value = λ d. eqb d 1;
      below = bit_below;
      value-digit = bit-back;
      digit_value = bit-forth;
      none-digit = refl;
      has-digit = bit-has;
      same_self = bit-self;
      same-only = bit-only;
    }

-- ---- states

module _ {K : Kinds} (C : Coded K) where
  -- what relation r has in state s
  unfoldable pub value_at : ℕ → ℕ → K.Value
  value_at s r = C.value (digit C.base s r)

  -- the state in which relation r has f r, of m relations
  unfoldable pub state_of : ℕ → (ℕ → K.Value) → ℕ
  state_of m f = from_digits C.base m (λ r. C.digit_of (f r))

  pub positive : 0 < C.base
  positive = let h = C.below K.none in omega arith

  pub value-state : (m : ℕ) (f : ℕ → K.Value) (r : ℕ) → r < m → value_at (state_of m f) r ≡ f r
  unfolding value_at state_of
  value-state m f r h = ap C.value (digit-from C.base m (λ r. C.digit_of (f r)) (λ r. C.below (f r)) r h) ∙ C.value-digit (f r)

  pub state-below : (m : ℕ) (f : ℕ → K.Value) → state_of m f < C.base ^ m
  unfolding state_of
  state-below m f = from-below C.base m (λ r. C.digit_of (f r)) (λ r. C.below (f r))

  -- two states of m relations in which each has the same are one
  pub states-once : (m s s' : ℕ) → s < C.base ^ m → s' < C.base ^ m → ((r : ℕ) → r < m → value_at s r ≡ value_at s' r) → s ≡ s'
  unfolding value_at
  states-once m s s' h h' e =
      digits-once C.base positive m s s' h h'
      (λ r below. sym (C.digit_value (digit C.base s r) (digit-below C.base s r positive)) ∙ ap C.digit_of (e r below) ∙ C.digit_value (digit C.base s' r) (digit-below C.base s' r positive))

  pub none-value : C.value 0 ≡ K.none
  none-value = ap C.value (sym C.none-digit) ∙ C.value-digit K.none

  pub value_none : (r : ℕ) → value_at 0 r ≡ K.none
  unfolding value_at
  value_none r = ap C.value (digit-none C.base r) ∙ none-value

  pub lacks : K.has K.none ≡ false
  lacks = C.has-digit K.none ∙ ap (ltb 0) C.none-digit

  pub only_none : (v : K.Value) → K.has v ≡ false → v ≡ K.none
  only_none v h = sym (C.value-digit v) ∙ ap C.value zeroed ∙ none-value
    where
      zeroed : C.digit_of v ≡ 0
      zeroed = let small = ltb-false 0 (C.digit_of v) (sym (C.has-digit v) ∙ h) in omega arith

-- ---- plain states are subsets

pub plain_value : (s r : ℕ) → value_at plain_code s r ≡ bit s r
unfolding value_at
plain_value s r = ap (λ (d : ℕ). eqb d 1) (digit-is 2 s r) ∙ bit_test s r

pub plain-values : (s : ℕ) → bit s ≡ value_at plain_code s
plain-values s = fun_ext λ r. sym (plain_value s r)

pub plain-state : (m : ℕ) (f : ℕ → Bool) → state_of plain_code m f ≡ pack m f
plain-state m f =
    bits-once m (state_of plain_code m f) (pack m f) (state-below plain_code m f) (pack-below m f)
    (λ r h. sym (plain_value (state_of plain_code m f) r) ∙ value-state plain_code m f r h ∙ sym (bit-pack m f r h))
