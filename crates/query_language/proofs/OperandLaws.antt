-- Operands: what their reader finds is the text of a query, and it finds every query.
use Rattle.std.specs.Prelude.{ℕ, zero, suc, ◌+◌, ◌-◌, ◌≤◌, ◌≡◌, Bool, length}
use Rattle.std.proofs.Math.Path.{refl, ap}
use Rattle.std.proofs.Common.{sym, ◌∙◌, lit≤, length-drop}
use Rattle.std.proofs.Math.Bool.{true, false, cond}
use mathlib.Core.List.{List, ◌∷◌}
use native.Mathlib.Omega.{arith}
use borrow.Author.Tests.{eqb-true, eq-eqb}
use Rattle.std.proofs.Math.Dec.{eqb}
use Rattle.std.proofs.Math.ListN.{get_or, drop}
use Rattle.query_language.specs.Parsed.{Parsed, missing, found, found_as, then_found, then-of, provided-found, provided-true}
use Rattle.query_language.specs.Query.{Query, relation, pair, prefixed, sign_byte, prefix_before, query_before, Written, node_count}
use Rattle.query_language.specs.Parse.{relation_at, pair_with, prefixed_with, operand_with, operand_within, operand_at}
use Rattle.query_language.specs.Places.{byte-within, byte-there, byte_of, rest_of, place-once}
use Rattle.query_language.specs.NumberLaws.{digit-range, range-digit, Found}
use Rattle.query_language.proofs.PrefixLaws.{prefix-sound, prefix-complete}
use Rattle.query_language.specs.OperandLaws.{OperandRead, Sound, count-least, sign-complete, sign-sound}

-- ---- what is found is there

module _ (text : List ℕ) (read : ℕ → Parsed Query) (sound : Sound text read) where
  relation-sound : (at : ℕ) (q : Query) (next : ℕ) → get_or text at 0 ≡ 114 → relation_at text (at + 1) ≡ found q next → OperandRead text at q next
  unfolding relation_at query_before
  relation-sound at q next r-is e =
      let digit = provided-found _ _ e in
      let b = get_or text (at + 1) 0 in
      let range = digit-range b digit.0 in
      let inside = byte-within text (at + 1) (omega arith) in
      let value : 48 + (b - 48) ≡ b = omega arith in
      found_as (OperandRead text at) digit.1 (record {
        written = omega arith;
        text-is = byte-there text at 114 r-is (lit≤ tt) ∙ ap (λ (l : List ℕ). 114 ∷ l) (byte-there text (at + 1) b refl (omega arith) ∙ ap (λ (x : ℕ). x ∷ drop (at + 1 + 1) text) (sym value));
        within = omega arith;
      })

  pair-sound : (at : ℕ) (q : Query) (next : ℕ) → get_or text at 0 ≡ 40 → pair_with read text (at + 1) ≡ found q next → OperandRead text at q next
  unfolding pair_with query_before Sound
  pair-sound at q next open_is e =
      let left = then_found _ _ e in
      let l = sound (at + 1) left.value left.place left.first in
      let middle = then_found _ _ left.second in
      let sign = sign-sound text left.place middle.value middle.place middle.first in
      let right = then_found _ _ middle.second in
      let r = sound middle.place right.value right.place right.first in
      let close = provided-found _ _ right.second in
      let c-is = eqb-true (get_or text right.place 0) 41 close.0 in
      let inside = byte-within text right.place (omega arith) in
      found_as (OperandRead text at) close.1 (record {
        written = (l.written, r.written);
        text-is =
            byte-there text at 40 open_is (lit≤ tt)
            ∙ ap (λ (x : List ℕ). 40 ∷ x)
            (l.text-is
            ∙ ap (query_before left.value)
            (sign.text-is
            ∙ ap (λ (x : List ℕ). sign_byte middle.value ∷ x)
            (r.text-is
            ∙ ap (query_before right.value) (byte-there text right.place 41 c-is (lit≤ tt)))));
        within = omega arith;
      })

  prefixed-sound : (at : ℕ) (q : Query) (next : ℕ) → prefixed_with read text at ≡ found q next → OperandRead text at q next
  unfolding prefixed_with query_before Sound
  prefixed-sound at q next e =
      let first = then_found _ _ e in
      let p = prefix-sound text at first.value first.place first.first in
      let second = then_found _ _ first.second in
      let o = sound first.place second.value second.place second.first in
      found_as (OperandRead text at) second.second (record {
        written = (p.written, o.written);
        text-is = p.text-is ∙ ap (prefix_before first.value) o.text-is;
        within = o.within;
      })

  operand-with-sound : (at : ℕ) (q : Query) (next : ℕ) → operand_with read text at ≡ found q next → OperandRead text at q next
  unfolding operand_with
  operand-with-sound at q next = go (eqb (get_or text at 0) 114) refl (eqb (get_or text at 0) 40) refl
    where
      go :
          (s : Bool)
          → eqb (get_or text at 0) 114 ≡ s
          → (t : Bool)
          → eqb (get_or text at 0) 40 ≡ t
          → cond s (relation_at text (at + 1)) (cond t (pair_with read text (at + 1)) (prefixed_with read text at)) ≡ found q next
          → OperandRead text at q next
      go true i t j e = relation-sound at q next (eqb-true _ _ i) e
      go false i true j e = pair-sound at q next (eqb-true _ _ j) e
      go false i false j e = prefixed-sound at q next e

sound-within : (deep : ℕ) (text : List ℕ) → Sound text (operand_within deep text)
unfolding operand_within Sound
sound-within zero text at q next e = absurd (let z : ◌≡◌ {A = ℕ} 0 1 = cc in omega arith)
sound-within (suc deep) text at q next e = operand-with-sound text (operand_within deep text) (sound-within deep text) at q next e

pub operand_sound : (text : List ℕ) (at : ℕ) (q : Query) (next : ℕ) → operand_at text at ≡ found q next → OperandRead text at q next
unfolding operand_at Sound
operand_sound text = sound-within (length text) text

-- ---- what is there is found

complete-within : (deep : ℕ) (text : List ℕ) (at : ℕ) (q : Query) (rest : List ℕ) → node_count q ≤ deep → Written q → drop at text ≡ query_before q rest → Found text (operand_within deep text at) q rest
unfolding operand_within operand_with relation_at pair_with prefixed_with query_before
complete-within zero text at (relation r) rest h w e = absurd (omega arith)
complete-within zero text at (pair op l r) rest h w e = absurd (omega arith)
complete-within zero text at (prefixed p q) rest h w e = absurd (omega arith)
complete-within (suc deep) text at (relation r) rest h w e =
    let b-is = byte_of text at 114 ((48 + r) ∷ rest) e in
    let tail = rest_of text at 114 ((48 + r) ∷ rest) e in
    let d-is = byte_of text (at + 1) (48 + r) rest tail in
    let value : get_or text (at + 1) 0 - 48 ≡ r = omega arith in
    record {
      next = at + 1 + 1;
      reads = rw b-is (provided-true _ _ (range-digit (get_or text (at + 1) 0) (omega arith) (omega arith)) ∙ ap (λ (n : ℕ). found (relation n) (at + 1 + 1)) value);
      rest-is = rest_of text (at + 1) (48 + r) rest tail;
    }
complete-within (suc deep) text at (pair op l r) rest h w e =
    let middle = sign_byte op ∷ query_before r (41 ∷ rest) in
    let b-is = byte_of text at 40 (query_before l middle) e in
    let left = complete-within deep text (at + 1) l middle (omega arith) w.0 (rest_of text at 40 (query_before l middle) e) in
    let s-is = byte_of text left.next (sign_byte op) (query_before r (41 ∷ rest)) left.rest-is in
    let right = complete-within deep text (left.next + 1) r (41 ∷ rest) (omega arith) w.1 (rest_of text left.next (sign_byte op) (query_before r (41 ∷ rest)) left.rest-is) in
    let c-is = byte_of text right.next 41 rest right.rest-is in
    record {
      next = right.next + 1;
      reads =
          rw b-is
          (then-of _ _ left.reads
          ∙ then-of _ _ (sign-complete text left.next op s-is)
          ∙ then-of _ _ right.reads
          ∙ provided-true _ _ (eq-eqb _ _ c-is));
      rest-is = rest_of text right.next 41 rest right.rest-is;
    }
complete-within (suc deep) text at (prefixed p q) rest h w e =
    let first = prefix-complete text at p (query_before q rest) w.0 e in
    let second = complete-within deep text first.reading.next q rest (omega arith) w.1 first.reading.rest-is in
    record {
      next = second.next;
      reads = rw (first.no-relation, first.no-pair) (then-of _ _ first.reading.reads ∙ then-of _ _ second.reads);
      rest-is = second.rest-is;
    }

pub operand-complete : (text : List ℕ) (at : ℕ) (q : Query) (rest : List ℕ) → Written q → drop at text ≡ query_before q rest → Found text (operand_at text at) q rest
unfolding operand_at
operand-complete text at q rest w e =
    let long = count-least q rest in
    let left = length-drop at text in
    let same : length (drop at text) ≡ length (query_before q rest) = ap length e in
    complete-within (length text) text at q rest (omega arith) w e

-- ---- any bound from the text's length up gives the same

operand-more : (deep k : ℕ) (text : List ℕ) (at : ℕ) (q : Query) (next : ℕ) → length text ≤ k → operand_within deep text at ≡ found q next → operand_within k text at ≡ found q next
unfolding Sound
operand-more deep k text at q next h e =
    let read = sound-within deep text at q next e in
    let long = count-least q (drop next text) in
    let left = length-drop at text in
    let same : length (drop at text) ≡ length (query_before q (drop next text)) = ap length read.text-is in
    let again = complete-within k text at q (drop next text) (omega arith) read.written read.text-is in
    let there = sound-within k text at q again.next again.reads in
    again.reads ∙ ap (found q) (place-once text again.next next there.within read.within again.rest-is)

operand-any : (deep k : ℕ) (text : List ℕ) (at : ℕ) → length text ≤ deep → length text ≤ k → operand_within deep text at ≡ operand_within k text at
operand-any deep k text at hd hk = go (operand_within deep text at) refl (operand_within k text at) refl
  where
    go : (r : Parsed Query) → operand_within deep text at ≡ r → (s : Parsed Query) → operand_within k text at ≡ s → r ≡ s
    go (found q next) i s j = sym (operand-more deep k text at q next hk i) ∙ j
    go missing i (found q next) j = sym i ∙ operand-more k deep text at q next hd j
    go missing i missing j = refl

-- an operand by its first byte
pub operand_step : (text : List ℕ) (at : ℕ) → operand_at text at ≡ operand_with (operand_at text) text at
unfolding operand_at operand_within
operand_step text at = operand-any (length text) (suc (length text)) text at (omega arith) (omega arith)
