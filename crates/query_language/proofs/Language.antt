-- The language and its reader (FORMAT 11.5): what is read is in the language, all of it is read, each text as one
-- query, and no text of the language is the beginning of another.
use Rattle.std.specs.Prelude.{ℕ, ◌+◌, ◌≡◌, refl, List, ◌++◌, length, drop, []}
use Rattle.std.proofs.Common.{sym, ap, ◌∙◌, arith, eqb-true, eq-eqb, length-drop}
use Rattle.std.proofs.Math.Seq.{drop-length}
use Rattle.query_language.specs.Parsed.{missing, found, then_found, then-of, provided-found, provided-true}
use Rattle.query_language.specs.Query.{Query, query_before, Written, InLanguage}
use Rattle.query_language.specs.Parse.{parse_query}
use Rattle.query_language.proofs.OperandLaws.{operand_sound, operand-complete}
use Rattle.query_language.specs.Language.{query-append}

-- what is read is in the language
pub parse-sound : (text : List ℕ) (q : Query) (next : ℕ) → parse_query text ≡ found q next → InLanguage text q × (next ≡ length text)
unfolding parse_query
parse-sound text q next e =
    let step = then_found _ _ e in
    let test = provided-found _ _ step.second in
    let last = test.1 in
    let q-is : step.value ≡ q = cc in
    let place_is : step.place ≡ next = cc in
    let end = eqb-true step.place (length text) test.0 in
    let next-is : next ≡ length text = sym place_is ∙ end in
    let read = operand_sound text 0 q next (step.first ∙ last) in
    (record { written = read.written; text-is = read.text-is ∙ ap (query_before q) (ap (λ (n : ℕ). drop n text) next-is ∙ drop-length text) }, next-is)

-- all of the language is read
pub parse-complete : (text : List ℕ) (q : Query) → InLanguage text q → parse_query text ≡ found q (length text)
unfolding parse_query
parse-complete text q l =
    let read = operand-complete text 0 q [] l.written l.text-is in
    let there = operand_sound text 0 q read.next read.reads in
    let left = length-drop read.next text in
    let none : length (drop read.next text) ≡ 0 = ap length read.rest-is in
    let within = there.within in
    let end : read.next ≡ length text = omega arith in
    then-of _ _ read.reads ∙ provided-true _ _ (eq-eqb _ _ end) ∙ ap (found q) end

-- a text that is not read is none of the language
pub parse-missing : (text : List ℕ) (q : Query) → parse_query text ≡ missing → InLanguage text q → ⊥
parse-missing text q e l = let is = parse-complete text q l in let z : ◌≡◌ {A = ℕ} 0 1 = cc in omega arith

-- each text has one reading
pub one-reading : (text : List ℕ) (q u : Query) → InLanguage text q → InLanguage text u → q ≡ u
one-reading text q u a b = let l = parse-complete text q a in let r = parse-complete text u b in cc

-- ---- no text is the beginning of another

-- a query and what follows its text are known by both together
before-once : (q u : Query) (a b : List ℕ) → Written q → Written u → query_before q a ≡ query_before u b → (q ≡ u) × (a ≡ b)
before-once q u a b wq wu e =
    let text = query_before q a in
    let left = operand-complete text 0 q a wq refl in
    let right = operand-complete text 0 u b wu e in
    let l = left.reads in
    let r = right.reads in
    let same_next : left.next ≡ right.next = cc in
    let same : q ≡ u = cc in
    (same, sym left.rest-is ∙ ap (λ (n : ℕ). drop n text) same_next ∙ right.rest-is)

-- where a text of the language begins another, nothing follows it there
pub no-beginning : (text more : List ℕ) (q u : Query) → InLanguage text q → InLanguage (text ++ more) u → more ≡ []
no-beginning text more q u a b =
    (before-once q u more [] a.written b.written (query-append q [] more ∙ ap (λ (l : List ℕ). l ++ more) (sym a.text-is) ∙ b.text-is)).1
