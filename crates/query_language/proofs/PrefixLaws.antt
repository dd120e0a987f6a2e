-- Prefixes: what their reader finds is their text, and it finds every prefix.
use Rattle.std.specs.Prelude.{ℕ, ◌+◌, ◌≤◌, ◌≡◌, refl, Bool, true, false, cond, List, ◌∷◌, eqb, get_or, drop}
use Rattle.std.proofs.Common.{ap, ◌∙◌, add_assoc, eqb-true, eq-eqb, lit≤}
use Rattle.node.specs.declared.nodes.SetOp.{SetOp}
use Rattle.node.specs.declared.nodes.SetOp.TheVariants.{Selection, Projection}
use Rattle.query_language.specs.Parsed.{found, provided, found_as, then_found, then-of, provided-found, provided-true}
use Rattle.query_language.specs.Query.{Prefix, with_set, renaming, projecting_out, letter_byte, number_before, list_before, prefix_before, WrittenPrefix}
use Rattle.query_language.specs.Parse.{set_at, renaming_at, projecting_out_at, prefix_at}
use Rattle.query_language.specs.Places.{byte-there}
use Rattle.query_language.specs.NumberLaws.{bracket-ends, arrow-ends, ended-sound, ended-complete}
use Rattle.query_language.proofs.ListLaws.{list-sound, list-complete}
use Rattle.query_language.specs.PrefixLaws.{PrefixFound, PrefixRead, opened}

-- ---- what is found is there

pub prefix-sound : (text : List ℕ) (at : ℕ) (p : Prefix) (next : ℕ) → prefix_at text at ≡ found p next → PrefixRead text at p next
unfolding prefix_at prefix_before set_at renaming_at projecting_out_at
prefix-sound text at p next e =
    let bracket = provided-found _ _ e in
    let bracket-is = byte-there text (at + 1) 91 (eqb-true _ _ bracket.0) (lit≤ tt) ∙ ap (λ (n : ℕ). 91 ∷ drop n text) (add_assoc at 1 1) in
    go bracket-is (eqb (get_or text at 0) 83) refl (eqb (get_or text at 0) 80) refl (eqb (get_or text at 0) 78) refl bracket.1
  where
    -- the letter and the bracket
    head : (letter : ℕ) → drop (at + 1) text ≡ 91 ∷ drop (at + 2) text → get_or text at 0 ≡ letter → 1 ≤ letter → drop at text ≡ letter ∷ 91 ∷ drop (at + 2) text
    head letter bracket-is e h = byte-there text at letter e h ∙ ap (λ (l : List ℕ). letter ∷ l) bracket-is

    set : (op : SetOp) → drop (at + 1) text ≡ 91 ∷ drop (at + 2) text → get_or text at 0 ≡ letter_byte op → 1 ≤ letter_byte op → set_at op text (at + 2) ≡ found p next → PrefixRead text at p next
    set op bracket-is b-is some h =
        let step = then_found _ _ h in
        let list = list-sound text (at + 2) step.value step.place step.first in
        found_as (PrefixRead text at) step.second (record {
          written = list.rising;
          text-is = head (letter_byte op) bracket-is b-is some ∙ ap (λ (l : List ℕ). letter_byte op ∷ 91 ∷ l) list.text-is;
          within = list.within;
        })

    go :
        drop (at + 1) text ≡ 91 ∷ drop (at + 2) text
        → (s : Bool)
        → eqb (get_or text at 0) 83 ≡ s
        → (t : Bool)
        → eqb (get_or text at 0) 80 ≡ t
        → (u : Bool)
        → eqb (get_or text at 0) 78 ≡ u
        → cond s (set_at Selection text (at + 2)) (cond t (set_at Projection text (at + 2)) (cond u (renaming_at text (at + 2)) (provided (eqb (get_or text at 0) 68) (projecting_out_at text (at + 2))))) ≡ found p next
        → PrefixRead text at p next
    go bracket-is true i t j u k h = set Selection bracket-is (eqb-true _ _ i) (lit≤ tt) h
    go bracket-is false i true j u k h = set Projection bracket-is (eqb-true _ _ j) (lit≤ tt) h
    go bracket-is false i false j true k h =
        let first = then_found _ _ h in
        let old = ended-sound text 62 (at + 2) first.value first.place (lit≤ tt) first.first in
        let second = then_found _ _ first.second in
        let new = ended-sound text 93 first.place second.value second.place (lit≤ tt) second.first in
        found_as (PrefixRead text at) second.second (record {
          written = (old.small, new.small);
          text-is = head 78 bracket-is (eqb-true _ _ k) (lit≤ tt) ∙ ap (λ (l : List ℕ). 78 ∷ 91 ∷ l) (old.text-is ∙ ap (λ (l : List ℕ). number_before first.value (62 ∷ l)) new.text-is);
          within = new.within;
        })
    go bracket-is false i false j false k h =
        let letter = provided-found _ _ h in
        let first = then_found _ _ letter.1 in
        let old = ended-sound text 93 (at + 2) first.value first.place (lit≤ tt) first.first in
        found_as (PrefixRead text at) first.second (record {
          written = old.small;
          text-is = head 68 bracket-is (eqb-true _ _ letter.0) (lit≤ tt) ∙ ap (λ (l : List ℕ). 68 ∷ 91 ∷ l) old.text-is;
          within = old.within;
        })

-- ---- what is there is found

pub prefix-complete : (text : List ℕ) (at : ℕ) (p : Prefix) (rest : List ℕ) → WrittenPrefix p → drop at text ≡ prefix_before p rest → PrefixFound text at p rest
unfolding prefix_at prefix_before set_at renaming_at projecting_out_at
prefix-complete text at (with_set Selection ns) rest w e =
    let o = opened text at 83 (list_before ns rest) e in
    let list = list-complete text (at + 2) ns rest w o.2 in
    record {
      reading = record { next = list.next; reads = provided-true _ _ (eq-eqb _ _ o.1) ∙ rw o.0 (then-of _ _ list.reads); rest-is = list.rest-is };
      no-relation = rw o.0;
      no-pair = rw o.0;
    }
prefix-complete text at (with_set Projection ns) rest w e =
    let o = opened text at 80 (list_before ns rest) e in
    let list = list-complete text (at + 2) ns rest w o.2 in
    record {
      reading = record { next = list.next; reads = provided-true _ _ (eq-eqb _ _ o.1) ∙ rw o.0 (then-of _ _ list.reads); rest-is = list.rest-is };
      no-relation = rw o.0;
      no-pair = rw o.0;
    }
prefix-complete text at (renaming old new) rest w e =
    let o = opened text at 78 (number_before old (62 ∷ number_before new (93 ∷ rest))) e in
    let first = ended-complete text 62 (at + 2) old (number_before new (93 ∷ rest)) w.0 arrow-ends o.2 in
    let second = ended-complete text 93 first.next new rest w.1 bracket-ends first.rest-is in
    record {
      reading = record { next = second.next; reads = provided-true _ _ (eq-eqb _ _ o.1) ∙ rw o.0 (then-of _ _ first.reads ∙ then-of _ _ second.reads); rest-is = second.rest-is };
      no-relation = rw o.0;
      no-pair = rw o.0;
    }
prefix-complete text at (projecting_out old) rest w e =
    let o = opened text at 68 (number_before old (93 ∷ rest)) e in
    let first = ended-complete text 93 (at + 2) old rest w bracket-ends o.2 in
    record {
      reading = record { next = first.next; reads = provided-true _ _ (eq-eqb _ _ o.1) ∙ rw o.0 (provided-true _ _ refl ∙ then-of _ _ first.reads); rest-is = first.rest-is };
      no-relation = rw o.0;
      no-pair = rw o.0;
    }
