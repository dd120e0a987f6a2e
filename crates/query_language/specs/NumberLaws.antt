-- Numbers: what their reader finds is their text, and it finds every number before a byte that is no digit.
use Rattle.std.specs.Prelude.{ℕ, ◌+◌, ◌-◌, ◌*◌, ◌/◌, ◌%◌, ◌≤◌, ◌<◌, ◌≡◌, refl, Bool, true, false, cond, List, ◌∷◌, eqb, ltb, length, get_or, drop}
use Rattle.std.proofs.Common.{sym, ap, ap₂, ◌∙◌, add_assoc, arith}
use borrow.Author.Tests.{lt-ltb, le-ltb, ltb-true, ltb-false, eqb-true, eqb-false, eq-eqb, ne_eqb}
use Rattle.bits.specs.Booleans.{is_false}
use Rattle.bits.specs.Range.{in-range, range-in}
use Rattle.query_language.specs.Parsed.{Parsed, missing, found, provided, found_as, then_found, then-of, provided-found, provided-true, provided-false}
use Rattle.query_language.specs.Query.{number_before}
use Rattle.query_language.specs.Parse.{is_digit, number_of, number_at, ended_number}
use Rattle.query_language.specs.Places.{byte-within, byte-there, byte_of, rest_of}

-- ---- digits

pub digit-range : (b : ℕ) → is_digit b ≡ true → (48 ≤ b) × (b ≤ 57)
unfolding is_digit
digit-range b e = in-range 48 57 b e

pub range-digit : (b : ℕ) → 48 ≤ b → b ≤ 57 → is_digit b ≡ true
unfolding is_digit
range-digit b l h = range-in 48 57 b l h

-- the bytes that end a number are no digits

pub bracket-ends : is_digit 93 ≡ false
bracket-ends = is_false (is_digit 93) (λ e. let range = digit-range 93 e in omega arith)

pub comma-ends : is_digit 44 ≡ false
comma-ends = is_false (is_digit 44) (λ e. let range = digit-range 44 e in omega arith)

pub arrow-ends : is_digit 62 ≡ false
arrow-ends = is_false (is_digit 62) (λ e. let range = digit-range 62 e in omega arith)

-- ---- the text of a number

before-low : (n : ℕ) (rest : List ℕ) → n < 10 → number_before n rest ≡ (48 + n) ∷ rest
unfolding number_before
before-low n rest h = rw (lt-ltb n 10 h)

before-high : (n : ℕ) (rest : List ℕ) → 10 ≤ n → number_before n rest ≡ (48 + n / 10) ∷ (48 + n % 10) ∷ rest
unfolding number_before
before-high n rest h = rw (le-ltb n 10 h)

pub number-least : (n : ℕ) (rest : List ℕ) → 1 + length rest ≤ length (number_before n rest)
number-least n rest = go (ltb n 10) refl
  where
    go : (t : Bool) → ltb n 10 ≡ t → 1 + length rest ≤ length (number_before n rest)
    go true i = rw (before-low n rest (ltb-true n 10 i)) (omega arith)
    go false i = rw (before-high n rest (ltb-false n 10 i)) (omega arith)

-- ---- the four ways through the reader

module _ (b c at : ℕ) where
  pub number-zero : b ≡ 48 → number_of b c at ≡ found 0 (at + 1)
  unfolding number_of provided
  number-zero e = rw (range-digit b (omega arith) (omega arith), eq-eqb b 48 e)

  pub number-two : 49 ≤ b → b ≤ 57 → is_digit c ≡ true → number_of b c at ≡ found ((b - 48) * 10 + (c - 48)) (at + 2)
  unfolding number_of provided
  number-two l h d = rw (range-digit b (omega arith) h, ne_eqb b 48 (λ e. omega arith), d)

  pub number-one : 49 ≤ b → b ≤ 57 → is_digit c ≡ false → number_of b c at ≡ found (b - 48) (at + 1)
  unfolding number_of provided
  number-one l h d = rw (range-digit b (omega arith) h, ne_eqb b 48 (λ e. omega arith), d)

  pub number-none : is_digit b ≡ false → number_of b c at ≡ missing
  unfolding number_of
  number-none d = provided-false _ _ d

-- ---- what is found is there

pub record NumberRead (text : List ℕ) (at n next : ℕ) : Type 0 where
  pub small : n < 100
  pub text-is : drop at text ≡ number_before n (drop next text)
  pub within : next ≤ length text
  pub later : at < next

pub number-sound : (text : List ℕ) (at n next : ℕ) → number_at text at ≡ found n next → NumberRead text at n next
unfolding number_at number_of
number-sound text at n next h =
    let digit = provided-found _ _ h in
    go digit.0 (eqb (get_or text at 0) 48) refl (is_digit (get_or text (at + 1) 0)) refl digit.1
  where
    at-two : at + 1 + 1 ≡ at + 2
    at-two = add_assoc at 1 1

    above : (b : ℕ) → 48 ≤ b → (b ≡ 48 → ⊥) → 49 ≤ b
    above b l h = omega arith

    go :
        is_digit (get_or text at 0) ≡ true
        → (t : Bool)
        → eqb (get_or text at 0) 48 ≡ t
        → (u : Bool)
        → is_digit (get_or text (at + 1) 0) ≡ u
        → cond t (found 0 (at + 1)) (cond u (found ((get_or text at 0 - 48) * 10 + (get_or text (at + 1) 0 - 48)) (at + 2)) (found (get_or text at 0 - 48) (at + 1))) ≡ found n next
        → NumberRead text at n next
    go i true j u k e =
        let b-is = eqb-true (get_or text at 0) 48 j in
        let n-is : 0 ≡ n = cc in
        let next-is : at + 1 ≡ next = cc in
        let inside = byte-within text at (omega arith) in
        rw (← n-is, ← next-is) (record {
          small = omega arith;
          text-is = byte-there text at 48 b-is (omega arith) ∙ sym (before-low 0 (drop (at + 1) text) (omega arith));
          within = omega arith;
          later = omega arith;
        })
    go i false j true k e =
        let b = get_or text at 0 in
        let c = get_or text (at + 1) 0 in
        let br = digit-range b i in
        let cr = digit-range c k in
        let b-not = eqb-false b 48 j in
        let b-above : 49 ≤ b = above b br.0 b-not in
        let n-is : (b - 48) * 10 + (c - 48) ≡ n = cc in
        let next-is : at + 2 ≡ next = cc in
        let inside = byte-within text (at + 1) (omega arith) in
        let tens : 48 + n / 10 ≡ b = omega arith in
        let ones : 48 + n % 10 ≡ c = omega arith in
        rw (← next-is) (record {
          small = omega arith;
          text-is =
              byte-there text at b refl (omega arith)
              ∙ ap (λ (l : List ℕ). b ∷ l) (byte-there text (at + 1) c refl (omega arith) ∙ ap (λ (p : ℕ). c ∷ drop p text) at-two)
              ∙ ap₂ (λ (x y : ℕ). x ∷ y ∷ drop (at + 2) text) (sym tens) (sym ones)
              ∙ sym (before-high n (drop (at + 2) text) (omega arith));
          within = omega arith;
          later = omega arith;
        })
    go i false j false k e =
        let b = get_or text at 0 in
        let br = digit-range b i in
        let n-is : b - 48 ≡ n = cc in
        let next-is : at + 1 ≡ next = cc in
        let inside = byte-within text at (omega arith) in
        let one : 48 + n ≡ b = omega arith in
        rw (← next-is) (record {
          small = omega arith;
          text-is = byte-there text at b refl (omega arith) ∙ ap (λ (x : ℕ). x ∷ drop (at + 1) text) (sym one) ∙ sym (before-low n (drop (at + 1) text) (omega arith));
          within = omega arith;
          later = omega arith;
        })

-- ---- what is there is found

-- a reader's answer where a thing stands before `rest`
pub record Found {A : Type 0} (text : List ℕ) (r : Parsed A) (a : A) (rest : List ℕ) : Type 0 where
  pub next : ℕ
  pub reads : r ≡ found a next
  pub rest-is : drop next text ≡ rest

-- a number, and that its first byte is a digit
pub record NumberFound (text : List ℕ) (at n : ℕ) (rest : List ℕ) : Type 0 where
  pub reading : Found text (number_at text at) n rest
  pub digit : is_digit (get_or text at 0) ≡ true

pub number-complete : (text : List ℕ) (at n b : ℕ) (rest : List ℕ) → n < 100 → is_digit b ≡ false → drop at text ≡ number_before n (b ∷ rest) → NumberFound text at n (b ∷ rest)
unfolding number_at
number-complete text at n b rest small stop e = go (ltb n 10) refl (eqb n 0) refl
  where
    low : n < 10 → drop at text ≡ (48 + n) ∷ b ∷ rest
    low h = e ∙ before-low n (b ∷ rest) h

    high : 10 ≤ n → drop at text ≡ (48 + n / 10) ∷ (48 + n % 10) ∷ b ∷ rest
    high h = e ∙ before-high n (b ∷ rest) h

    some : (k : ℕ) → (k ≡ 0 → ⊥) → 1 ≤ k
    some k h = omega arith

    go : (t : Bool) → ltb n 10 ≡ t → (u : Bool) → eqb n 0 ≡ u → NumberFound text at n (b ∷ rest)
    go true i true j =
        let h = ltb-true n 10 i in
        let n-is = eqb-true n 0 j in
        let b-is = byte_of text at (48 + n) (b ∷ rest) (low h) in
        record {
          reading = record {
            next = at + 1;
            reads = number-zero (get_or text at 0) (get_or text (at + 1) 0) at (omega arith) ∙ ap (λ (x : ℕ). found x (at + 1)) (sym n-is);
            rest-is = rest_of text at (48 + n) (b ∷ rest) (low h);
          };
          digit = range-digit (get_or text at 0) (omega arith) (omega arith);
        }
    go true i false j =
        let h = ltb-true n 10 i in
        let above : 1 ≤ n = some n (eqb-false n 0 j) in
        let b-is = byte_of text at (48 + n) (b ∷ rest) (low h) in
        let tail = rest_of text at (48 + n) (b ∷ rest) (low h) in
        let c-is = byte_of text (at + 1) b rest tail in
        let value : get_or text at 0 - 48 ≡ n = omega arith in
        record {
          reading = record {
            next = at + 1;
            reads = number-one (get_or text at 0) (get_or text (at + 1) 0) at (omega arith) (omega arith) (ap is_digit c-is ∙ stop) ∙ ap (λ (x : ℕ). found x (at + 1)) value;
            rest-is = tail;
          };
          digit = range-digit (get_or text at 0) (omega arith) (omega arith);
        }
    go false i u j =
        let h = ltb-false n 10 i in
        let b-is = byte_of text at (48 + n / 10) ((48 + n % 10) ∷ b ∷ rest) (high h) in
        let tail = rest_of text at (48 + n / 10) ((48 + n % 10) ∷ b ∷ rest) (high h) in
        let c-is = byte_of text (at + 1) (48 + n % 10) (b ∷ rest) tail in
        let value : (get_or text at 0 - 48) * 10 + (get_or text (at + 1) 0 - 48) ≡ n = omega arith in
        record {
          reading = record {
            next = at + 2;
            reads = number-two (get_or text at 0) (get_or text (at + 1) 0) at (omega arith) (omega arith) (range-digit (get_or text (at + 1) 0) (omega arith) (omega arith)) ∙ ap (λ (x : ℕ). found x (at + 2)) value;
            rest-is = ap (λ (p : ℕ). drop p text) (sym (add_assoc at 1 1)) ∙ rest_of text (at + 1) (48 + n % 10) (b ∷ rest) tail;
          };
          digit = range-digit (get_or text at 0) (omega arith) (omega arith);
        }

-- ---- a number and the byte that ends it

pub record EndedRead (text : List ℕ) (b at n next : ℕ) : Type 0 where
  pub small : n < 100
  pub text-is : drop at text ≡ number_before n (b ∷ drop next text)
  pub within : next ≤ length text

pub ended-sound : (text : List ℕ) (b at n next : ℕ) → 1 ≤ b → ended_number text b at ≡ found n next → EndedRead text b at n next
unfolding ended_number
ended-sound text b at n next some e =
    let step = then_found _ _ e in
    let number = number-sound text at step.value step.place step.first in
    let end = provided-found _ _ step.second in
    let b-is = eqb-true (get_or text step.place 0) b end.0 in
    let inside = byte-within text step.place (rw b-is some) in
    found_as (EndedRead text b at) end.1 (record {
      small = number.small;
      text-is = number.text-is ∙ ap (number_before step.value) (byte-there text step.place b b-is some);
      within = omega arith;
    })

pub ended-complete : (text : List ℕ) (b at n : ℕ) (rest : List ℕ) → n < 100 → is_digit b ≡ false → drop at text ≡ number_before n (b ∷ rest) → Found text (ended_number text b at) n rest
unfolding ended_number
ended-complete text b at n rest small stop e =
    let number = (number-complete text at n b rest small stop e).reading in
    record {
      next = number.next + 1;
      reads = then-of _ _ number.reads ∙ provided-true _ _ (eq-eqb _ _ (byte_of text number.next b rest number.rest-is));
      rest-is = rest_of text number.next b rest number.rest-is;
    }
