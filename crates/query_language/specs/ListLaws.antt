-- Lists: what their reader finds is their text, and it finds every rising list.
use Rattle.std.specs.Prelude.{ℕ, zero, suc, ◌+◌, ◌≤◌, ◌<◌, ◌≡◌, refl, Bool, true, false, cond, List, ◌∷◌, eqb, length, get_or, drop, []}
use Rattle.std.proofs.Common.{sym, ap, ◌∙◌, arith, leb-true, le-leb, eqb-true, eq-eqb, ne_eqb}
use Rattle.query_language.specs.Parsed.{found, and_then, provided, then_found, then-of, provided-found, provided-true}
use Rattle.query_language.specs.Query.{number_before, items_before, list_before, RisingFrom}
use Rattle.query_language.specs.Parse.{is_digit, items_with, items_within}
use Rattle.query_language.specs.Places.{byte-within, byte-there, byte_of, rest_of}
use Rattle.query_language.specs.NumberLaws.{bracket-ends, comma-ends, number-least, number-sound, Found, number-complete}

-- ---- what is found is there

pub record ItemsRead (text : List ℕ) (low at : ℕ) (ns : List ℕ) (next : ℕ) : Type 0 where
  pub head : ℕ
  pub tail : List ℕ
  pub is : ns ≡ head ∷ tail
  pub rising : RisingFrom low (head ∷ tail)
  pub text-is : drop at text ≡ items_before head tail (drop next text)
  pub within : next ≤ length text

pub items-sound : (most : ℕ) (text : List ℕ) (low at : ℕ) (ns : List ℕ) (next : ℕ) → items_within most text low at ≡ found ns next → ItemsRead text low at ns next
unfolding items_within items_with items_before
items-sound zero text low at ns next e = absurd (let z : ◌≡◌ {A = ℕ} 0 1 = cc in omega arith)
items-sound (suc most) text low at ns next e =
    let step = then_found _ _ e in
    let n = step.value in
    let p = step.place in
    let number = number-sound text at n p step.first in
    let test = provided-found _ _ step.second in
    go n p number.small number.text-is (leb-true low n test.0) (λ ms end h. items-sound most text (n + 1) (p + 1) ms end h) (eqb (get_or text p 0) 93) refl test.1
  where
    go :
        (n p : ℕ)
        → n < 100
        → drop at text ≡ number_before n (drop p text)
        → low ≤ n
        → ((ms : List ℕ) (end : ℕ) → items_within most text (n + 1) (p + 1) ≡ found ms end → ItemsRead text (n + 1) (p + 1) ms end)
        → (t : Bool)
        → eqb (get_or text p 0) 93 ≡ t
        → cond t (found (n ∷ []) (p + 1)) (provided (eqb (get_or text p 0) 44) (and_then (items_within most text (n + 1) (p + 1)) λ ms end. found (n ∷ ms) end)) ≡ found ns next
        → ItemsRead text low at ns next
    go n p small text-is above more true i h =
        let b-is = eqb-true (get_or text p 0) 93 i in
        let inside = byte-within text p (omega arith) in
        let ns-is : n ∷ [] ≡ ns = cc in
        let next-is : p + 1 ≡ next = cc in
        rw (← next-is) (record {
          head = n;
          tail = [];
          is = sym ns-is;
          rising = (above, small, tt);
          text-is = text-is ∙ ap (number_before n) (byte-there text p 93 b-is (omega arith));
          within = omega arith;
        })
    go n p small text-is above more false i h =
        let comma = provided-found _ _ h in
        let b-is = eqb-true (get_or text p 0) 44 comma.0 in
        let step = then_found _ _ comma.1 in
        let others = more step.value step.place step.first in
        let last = step.second in
        let ns-is : n ∷ step.value ≡ ns = cc in
        let next-is : step.place ≡ next = cc in
        rw (← next-is) (record {
          head = n;
          tail = others.head ∷ others.tail;
          is = sym ns-is ∙ ap (λ (l : List ℕ). n ∷ l) others.is;
          rising = (above, small, others.rising);
          text-is = text-is ∙ ap (number_before n) (byte-there text p 44 b-is (omega arith) ∙ ap (λ (l : List ℕ). 44 ∷ l) others.text-is);
          within = others.within;
        })

-- ---- what is there is found

pub items-least : (n : ℕ) (ns rest : List ℕ) → length (n ∷ ns) + length rest ≤ length (items_before n ns rest)
unfolding items_before
items-least n [] rest = let h = number-least n (93 ∷ rest) in omega arith
items-least n (k ∷ ks) rest = let h = number-least n (44 ∷ items_before k ks rest) in let more = items-least k ks rest in omega arith

pub list-least : (ns rest : List ℕ) → 1 + length rest ≤ length (list_before ns rest)
unfolding list_before
list-least [] rest = omega arith
list-least (n ∷ ns) rest = let h = items-least n ns rest in omega arith

pub items-complete :
    (most : ℕ) (text : List ℕ) (low at n : ℕ) (ns rest : List ℕ)
    → length (n ∷ ns) ≤ most
    → RisingFrom low (n ∷ ns)
    → drop at text ≡ items_before n ns rest
    → Found text (items_within most text low at) (n ∷ ns) rest
unfolding items_within items_with items_before
items-complete zero text low at n ns rest h rising e = absurd (omega arith)
items-complete (suc most) text low at n [] rest h rising e =
    let number = (number-complete text at n 93 rest rising.1 bracket-ends e).reading in
    let p = number.next in
    record {
      next = p + 1;
      reads = then-of _ _ number.reads ∙ provided-true _ _ (le-leb low n rising.0) ∙ rw (eq-eqb (get_or text p 0) 93 (byte_of text p 93 rest number.rest-is));
      rest-is = rest_of text p 93 rest number.rest-is;
    }
items-complete (suc most) text low at n (k ∷ ks) rest h rising e =
    let number = (number-complete text at n 44 (items_before k ks rest) rising.1 comma-ends e).reading in
    let p = number.next in
    let b-is = byte_of text p 44 (items_before k ks rest) number.rest-is in
    let others = items-complete most text (n + 1) (p + 1) k ks rest (omega arith) rising.2 (rest_of text p 44 (items_before k ks rest) number.rest-is) in
    record {
      next = others.next;
      reads =
          then-of _ _ number.reads
          ∙ provided-true _ _ (le-leb low n rising.0)
          ∙ rw (ne_eqb (get_or text p 0) 93 (λ z. omega arith))
          (provided-true _ _ (eq-eqb (get_or text p 0) 44 b-is) ∙ then-of _ _ others.reads);
      rest-is = others.rest-is;
    }

-- ---- lists

pub record ListRead (text : List ℕ) (at : ℕ) (ns : List ℕ) (next : ℕ) : Type 0 where
  pub rising : RisingFrom 0 ns
  pub text-is : drop at text ≡ list_before ns (drop next text)
  pub within : next ≤ length text

pub items-first : (text : List ℕ) (low at n : ℕ) (ns rest : List ℕ) → RisingFrom low (n ∷ ns) → drop at text ≡ items_before n ns rest → is_digit (get_or text at 0) ≡ true
unfolding items_before
items-first text low at n [] rest rising e = (number-complete text at n 93 rest rising.1 bracket-ends e).digit
items-first text low at n (k ∷ ks) rest rising e = (number-complete text at n 44 (items_before k ks rest) rising.1 comma-ends e).digit
