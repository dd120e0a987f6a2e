-- Laws of a query's listing: the answer and the slices in each case.
use Rattle.std.specs.Prelude.{ℕ, ◌≤◌, ◌<◌, ◌≡◌, refl, List, [], ◌∷◌, ◌++◌, length, take, Result, Ok, Err}
use Rattle.std.proofs.Math.Path.{sym, ap}
use Rattle.std.proofs.Common.{◌∙◌}
use Rattle.bits.specs.Tab.{over}
use Rattle.text.specs.Characters.{decimal, newline}
use Rattle.text.specs.Put.{Wrote, wrote-front}
use Rattle.refusal.specs.Number.{number_of}
use Rattle.refusal.specs.declared.Refusal.{Refusal}
use Rattle.refusal.specs.declared.Refusal.TheVariants.{WorkSpace, ResultSlice}
use Rattle.expression_file.specs.Walk.{longest_file}
use Rattle.listing.specs.Listing.{listed_answer, listed_text, listed_space}
use Rattle.listing.specs.ListingLaws.{checked-work, checked-text, checked-both, checked-fits, listed-goes}
use Rattle.stored_formula.specs.Formula.{formula_space}
use Rattle.listing_lines.specs.Text.{text_of}
use Rattle.query_answer.specs.ParseQuery.{Judgement, judgement, parse_answer, parse_file}
use Rattle.query_answer.specs.ParseLaws.{answer-written, answer-stopped}
use Rattle.query_listing.specs.QueryListing.{judged_text, judged_space, listed_query, query_listed_answer, query_listed_text, query_listed_space}

-- answer and slices are as the definitions say
abbrev pub Outcome : ℕ → List ℕ → List ℕ → List ℕ → Result ℕ Refusal → List ℕ → List ℕ → Type 0
Outcome m query work text r work' text' =
    (r ≡ query_listed_answer m query (length work) (length text))
    × ((text' ≡ query_listed_text m query (length work) text) × (work' ≡ query_listed_space m query work (length text)))

-- ---- each case

module _ (m : ℕ) (query work text : List ℕ) where
  pub listed-work : length work < 65536 → Outcome m query work text (Err WorkSpace) work text
  unfolding query_listed_answer query_listed_text query_listed_space
  listed-work h =
      (sym (checked-work (length work) (length text) Err _ h), (sym (checked-work (length work) (length text) (λ r. text) _ h), sym (checked-work (length work) (length text) (λ r. work) _ h)))

  module _ (h : 65536 ≤ length work) where
    pub listed-text : length text < 32768 → Outcome m query work text (Err ResultSlice) work text
    unfolding query_listed_answer query_listed_text query_listed_space
    listed-text k =
        (sym (checked-text (length work) (length text) Err _ h k), (sym (checked-text (length work) (length text) (λ r. text) _ h k), sym (checked-text (length work) (length text) (λ r. work) _ h k)))

    module _ (k : 32768 ≤ length text) where
      -- both slices are long enough: the text, and the work space, by how the query is judged
      goes :
          {j : Judgement} {r : Result ℕ Refusal} {work' text' : List ℕ}
          → judgement m query longest_file ≡ j
          → r ≡ Ok (length (judged_text m j))
          → text' ≡ over (judged_text m j) text
          → work' ≡ judged_space m j work
          → Outcome m query work text r work' text'
      unfolding query_listed_answer query_listed_text query_listed_space listed_query
      goes {j} i a b c = (
        a ∙ ap (λ (x : Judgement). Ok (length (judged_text m x))) (sym i) ∙ sym (checked-both (length work) (length text) Err _ h k),
        (
          b ∙ ap (λ (x : Judgement). over (judged_text m x) text) (sym i) ∙ sym (checked-both (length work) (length text) (λ r. text) _ h k),
          c ∙ ap (λ (x : Judgement). judged_space m x work) (sym i) ∙ sym (checked-both (length work) (length text) (λ r. work) _ h k),
        ),
      )

      pub listed-refused :
          (old : List ℕ) {r : Refusal} {text' : List ℕ} {end : ℕ}
          → length old ≡ longest_file
          → parse_answer m query (length old) ≡ Err r
          → Wrote 0 ((114 ∷ 101 ∷ 102 ∷ 117 ∷ 115 ∷ 101 ∷ 100 ∷ 32 ∷ []) ++ decimal (number_of r) ++ newline) text text' end
          → Outcome m query work text (Ok end) work text'
      listed-refused old {r} size e w =
          let front = wrote-front w in
          goes (ap (judgement m query) (sym size) ∙ answer-stopped m query old e) (ap Ok front.1) front.0 refl

      pub listed-file :
          (old : List ℕ) {n : ℕ} {r : Result ℕ Refusal} {work' text' : List ℕ}
          → length old ≡ longest_file
          → parse_answer m query (length old) ≡ Ok n
          → r ≡ listed_answer (take n (parse_file m query old)) (length work) (length text)
          → text' ≡ listed_text (take n (parse_file m query old)) (length work) text
          → work' ≡ listed_space (take n (parse_file m query old)) work (length text)
          → Outcome m query work text r work' text'
      listed-file old {n} size e a b c =
          let file = answer-written m query old e in
          let all = listed-goes (take n (parse_file m query old)) work text h k in
          let part = file.part-is in
          goes (ap (judgement m query) (sym size) ∙ file.judged-is)
          (a ∙ all.0 ∙ ap (λ (l : List ℕ). Ok (length (text_of l))) part)
          (b ∙ all.1 ∙ ap (λ (l : List ℕ). over (text_of l) text) part)
          (c ∙ all.2 ∙ ap (λ (l : List ℕ). formula_space l work) part)

-- the text fits its slice
pub query-listed-fits :
    (m : ℕ) (query : List ℕ) (space : ℕ) (text text' : List ℕ) (n : ℕ)
    → text' ≡ query_listed_text m query space text
    → query_listed_answer m query space (length text) ≡ Ok n
    → n ≤ length text'
unfolding query_listed_answer query_listed_text
query-listed-fits m query space text text' n t e = checked-fits (listed_query m query) space text text' n t e
