-- Lists: what their reader finds is their text, and it finds every rising list.
use Rattle.std.specs.Prelude.{ℕ, suc, ◌+◌, ◌≤◌, ◌≡◌, refl, Bool, true, false, cond, List, ◌∷◌, eqb, length, get_or, drop, []}
use Rattle.std.proofs.Common.{sym, ap, ◌∙◌, arith, eqb-true, eq-eqb, ne_eqb, length-drop}
use Rattle.query_language.specs.Parsed.{Parsed, missing, found}
use Rattle.query_language.specs.Query.{items_before, list_before, RisingFrom}
use Rattle.query_language.specs.Parse.{items_with, items_within, items_at, list_at}
use Rattle.query_language.specs.Places.{byte-within, byte-there, byte_of, rest_of, place-once}
use Rattle.query_language.specs.NumberLaws.{digit-range, Found}
use Rattle.query_language.specs.ListLaws.{ListRead, items-complete, items-first, items-least, items-sound}

-- ---- any bound from the text's length up gives the same

items_more : (most k : ℕ) (text : List ℕ) (low at : ℕ) (ns : List ℕ) (next : ℕ) → length text ≤ k → items_within most text low at ≡ found ns next → items_within k text low at ≡ found ns next
items_more most k text low at ns next h e =
    let read = items-sound most text low at ns next e in
    let long = items-least read.head read.tail (drop next text) in
    let left = length-drop at text in
    let same : length (drop at text) ≡ length (items_before read.head read.tail (drop next text)) = ap length read.text-is in
    let again = items-complete k text low at read.head read.tail (drop next text) (omega arith) read.rising read.text-is in
    let there = items-sound k text low at (read.head ∷ read.tail) again.next again.reads in
    again.reads
    ∙ ap (found (read.head ∷ read.tail)) (place-once text again.next next there.within read.within again.rest-is)
    ∙ ap (λ (l : List ℕ). found l next) (sym read.is)

items-any : (most k : ℕ) (text : List ℕ) (low at : ℕ) → length text ≤ most → length text ≤ k → items_within most text low at ≡ items_within k text low at
items-any most k text low at hm hk = go (items_within most text low at) refl (items_within k text low at) refl
  where
    go : (r : Parsed (List ℕ)) → items_within most text low at ≡ r → (s : Parsed (List ℕ)) → items_within k text low at ≡ s → r ≡ s
    go (found ns next) i s j = sym (items_more most k text low at ns next hk i) ∙ j
    go missing i (found ns next) j = sym i ∙ items_more k most text low at ns next hm j
    go missing i missing j = refl

-- the items from a place on, by the first of them
pub items-step : (text : List ℕ) (low at : ℕ) → items_at text low at ≡ items_with (items_at text) text low at
unfolding items_at items_within
items-step text low at = items-any (length text) (suc (length text)) text low at (omega arith) (omega arith)

-- ---- lists

pub list-sound : (text : List ℕ) (at : ℕ) (ns : List ℕ) (next : ℕ) → list_at text at ≡ found ns next → ListRead text at ns next
unfolding list_at list_before items_at
list-sound text at ns next = go (eqb (get_or text at 0) 93) refl
  where
    go : (t : Bool) → eqb (get_or text at 0) 93 ≡ t → cond t (found [] (at + 1)) (items_at text 0 at) ≡ found ns next → ListRead text at ns next
    go true i h =
        let b-is = eqb-true (get_or text at 0) 93 i in
        let inside = byte-within text at (omega arith) in
        let ns-is : [] ≡ ns = cc in
        let next-is : at + 1 ≡ next = cc in
        rw (← ns-is, ← next-is) (record { rising = tt; text-is = byte-there text at 93 b-is (omega arith); within = omega arith })
    go false i h =
        let read = items-sound (length text) text 0 at ns next h in
        rw read.is (record { rising = read.rising; text-is = read.text-is; within = read.within })

pub list-complete : (text : List ℕ) (at : ℕ) (ns rest : List ℕ) → RisingFrom 0 ns → drop at text ≡ list_before ns rest → Found text (list_at text at) ns rest
unfolding list_at list_before items_at
list-complete text at [] rest rising e =
    record { next = at + 1; reads = rw (eq-eqb (get_or text at 0) 93 (byte_of text at 93 rest e)); rest-is = rest_of text at 93 rest e }
list-complete text at (n ∷ ns) rest rising e =
    let long = items-least n ns rest in
    let left = length-drop at text in
    let same : length (drop at text) ≡ length (items_before n ns rest) = ap length e in
    let others = items-complete (length text) text 0 at n ns rest (omega arith) rising e in
    let first = items-first text 0 at n ns rest rising e in
    let range = digit-range (get_or text at 0) first in
    record { next = others.next; reads = rw (ne_eqb (get_or text at 0) 93 (λ z. omega arith)) others.reads; rest-is = others.rest-is }
