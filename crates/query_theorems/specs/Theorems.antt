-- What parsing a query promises, for any bytes as text, any m and any result slice, over the language of queries and
-- the expressions of nodes. A reader needs, besides this page:
--   Query, query_text, Written, InLanguage   trees, their texts, what can be written   (crate query_language, Query)
--   faults_of               the numbers out of their ranges, from left to right        (crate query_answer, Faults)
--   query_file              the expression file of a tree                              (crate query_answer, QueryNodes)
--   meaning                the expression that a tree is                              (Meaning)
--   Part, parts_from        the parts of a text, as their texts end                    (crate query_language, Parts)
--   expression_at           the expression of a node of a file                         (crate node_expression)
--   parse_answer, parse_file what parsing leaves, by its contract                       (crate query_answer, ParseQuery)
-- That each text has one reading, and that no text of the language is the beginning of another, is said of the language
-- itself: one-reading and no-beginning (crate query_language, Language).
use Rattle.std.specs.Prelude.{ℕ, ◌≤◌, ◌<◌, ◌≡◌, refl, ◌↔◌, Bool, true, false, List, ◌∷◌, length, get_or, [], Result, Ok, Err}
use Rattle.std.proofs.Common.{sym, ap, subst, ◌∙◌, arith}
use Rattle.std.proofs.Math.Decide.{dec_le}
use Rattle.bits.specs.Range.{in_range, in-range, range-in}
use Rattle.bits.specs.Booleans.{is_false, clash}
use Rattle.bits.specs.Tab.{over}
use Rattle.refusal.specs.declared.Refusal.{Refusal}
use Rattle.refusal.specs.declared.Refusal.TheVariants.{RelationCount, ResultSlice, QuerySyntax, QueryLength, QueryNodes}
use Rattle.query_language.specs.Parsed.{Parsed, missing, found}
use Rattle.query_language.specs.Query.{Query, InLanguage, node_count}
use Rattle.query_language.specs.Parse.{parse_query}
use Rattle.query_language.proofs.Language.{parse-sound, parse-complete, parse-missing}
use Rattle.query_language.specs.Parts.{whole_part, parts_from, parts-count, Earlier, ordered_at, each_at, StandsIn}
use Rattle.query_language.proofs.Parts.{parts-ordered, parts-stand}
use Rattle.query_answer.specs.QueryNodes.{query_file}
use Rattle.query_answer.specs.Faults.{faults_of}
use Rattle.query_answer.specs.ParseQuery.{Judgement, accepted, faulted, judged, judgement, answer_of, parse_answer, parse_file}
use Rattle.query_answer.specs.ParseLaws.{answer-is, answer-refused, answer-accepted, answer-stopped, judge-relations, judge-slice, judge-length, judge-text, judged-syntax, judged-nodes, judged-faults}

-- ---- which texts pass, and the first refusal of the others

-- 2, 13 and 23 do not apply: m is 1 to 8, the slice has 322 bytes, the text at most 512
pub record Admitted (m : ℕ) (text : List ℕ) (size : ℕ) : Type 0 where
  pub relations : (1 ≤ m) × (m ≤ 8)
  pub slice : 322 ≤ size
  pub short : length text ≤ 512

-- FORMAT 8.8: each answer, with what it says of m, the text and the slice
pub data Answers (m : ℕ) (text : List ℕ) (size : ℕ) : Result ℕ Refusal → Type 0 where
  relation_count : ((1 ≤ m) × (m ≤ 8) → ⊥) → Answers m text size (Err RelationCount)
  result_slice : (1 ≤ m) × (m ≤ 8) → size < 322 → Answers m text size (Err ResultSlice)
  query_length : (1 ≤ m) × (m ≤ 8) → 322 ≤ size → 512 < length text → Answers m text size (Err QueryLength)
  -- the text is that of no query
  query_syntax : Admitted m text size → ((q : Query) → InLanguage text q → ⊥) → Answers m text size (Err QuerySyntax)
  -- it is that of a query of over 64 nodes
  query_nodes : {q : Query} → Admitted m text size → InLanguage text q → 64 < node_count q → Answers m text size (Err QueryNodes)
  -- it is that of a query in which numbers are out of their ranges: the refusal of the leftmost
  out_of_range : {q : Query} {r : Refusal} {rs : List Refusal} → Admitted m text size → InLanguage text q → node_count q ≤ 64 → faults_of m q ≡ r ∷ rs → Answers m text size (Err r)
  -- it is that of a query of at most 64 nodes, and all its numbers are in their ranges
  written : {q : Query} → Admitted m text size → InLanguage text q → node_count q ≤ 64 → faults_of m q ≡ [] → Answers m text size (Ok (length (query_file m q)))

module _ (m : ℕ) (text : List ℕ) (size : ℕ) where
  by-judgement : {j : Judgement} → judgement m text size ≡ j → answer_of m j ≡ parse_answer m text size
  by-judgement e = sym (answer-is m text size ∙ ap (answer_of m) e)

  in-relations : (1 ≤ m) × (m ≤ 8) → in_range 1 8 m ≡ true
  in-relations h = range-in 1 8 m h.0 h.1

  by-text : Admitted m text size → {r : Parsed Query} {j : Judgement} → parse_query text ≡ r → judged m r ≡ j → answer_of m j ≡ parse_answer m text size
  by-text a e f = by-judgement (judge-text m text size (in-relations a.relations) a.slice a.short ∙ ap (judged m) e ∙ f)

  not-read : (p : Parsed Query) → parse_query text ≡ p → ((q : Query) → InLanguage text q → ⊥) → p ≡ missing
  not-read missing e none = refl
  not-read (found q next) e none = absurd (none q (parse-sound text q next e).0)

  -- each answer is the one that is given
  answers-given : {a : Result ℕ Refusal} → Answers m text size a → a ≡ parse_answer m text size
  answers-given (relation_count none) = by-judgement (judge-relations m text size (is_false (in_range 1 8 m) (λ e. none (in-range 1 8 m e))))
  answers-given (result_slice r h) = by-judgement (judge-slice m text size (in-relations r) h)
  answers-given (query_length r h k) = by-judgement (judge-length m text size (in-relations r) h k)
  answers-given (query_syntax a none) = by-text a refl (judged-syntax m (parse_query text) (not-read (parse_query text) refl none))
  answers-given (query_nodes {q} a l h) = by-text a (parse-complete text q l) (judged-nodes m q (length text) h)
  answers-given (out_of_range {q} {r} {rs} a l h f) = by-text a (parse-complete text q l) (judged-faults m q (length text) h ∙ ap (λ (fs : List Refusal). faulted fs (accepted q)) f)
  answers-given (written {q} a l h f) = by-text a (parse-complete text q l) (judged-faults m q (length text) h ∙ ap (λ (fs : List Refusal). faulted fs (accepted q)) f)

  -- one of them applies
  read-applies : Admitted m text size → (p : Parsed Query) → parse_query text ≡ p → (a : Result ℕ Refusal) × Answers m text size a
  read-applies a missing e = (Err QuerySyntax, query_syntax a (λ q l. parse-missing text q e l))
  read-applies a (found q next) e = counted (dec_le (node_count q) 64)
    where
      language : InLanguage text q
      language = (parse-sound text q next e).0

      ranged : node_count q ≤ 64 → (fs : List Refusal) → faults_of m q ≡ fs → (a : Result ℕ Refusal) × Answers m text size a
      ranged h [] f = (Ok (length (query_file m q)), written a language h f)
      ranged h (r ∷ rs) f = (Err r, out_of_range a language h f)

      counted : Dec (node_count q ≤ 64) → (a : Result ℕ Refusal) × Answers m text size a
      counted (yes h) = ranged h (faults_of m q) refl
      counted (no h) = (Err QueryNodes, query_nodes a language (omega arith))

  one-applies : (a : Result ℕ Refusal) × Answers m text size a
  one-applies = ranged (in_range 1 8 m) refl
    where
      long : (1 ≤ m) × (m ≤ 8) → 322 ≤ size → Dec (length text ≤ 512) → (a : Result ℕ Refusal) × Answers m text size a
      long r h (yes k) = read-applies (record { relations = r; slice = h; short = k }) (parse_query text) refl
      long r h (no k) = (Err QueryLength, query_length r h (omega arith))

      room : (1 ≤ m) × (m ≤ 8) → Dec (322 ≤ size) → (a : Result ℕ Refusal) × Answers m text size a
      room r (yes h) = long r h (dec_le (length text) 512)
      room r (no h) = (Err ResultSlice, result_slice r (omega arith))

      ranged : (t : Bool) → in_range 1 8 m ≡ t → (a : Result ℕ Refusal) × Answers m text size a
      ranged true e = room (in-range 1 8 m e) (dec_le 322 size)
      ranged false e = (Err RelationCount, relation_count (λ r. clash (in-relations r) e))

  -- the answer is a exactly where what a says holds: only the language passes, all of it but for these refusals, each
  -- in its place
  pub parse-answers : (a : Result ℕ Refusal) → (parse_answer m text size ≡ a) ↔ Answers m text size a
  parse-answers a =
      let one = one-applies in (
        (λ e. subst (Answers m text size) (answers-given one.1 ∙ e) one.1),
        (λ applies. sym (answers-given applies)),
      )

-- ---- what is written

-- after a refusal the slice is as it was
pub refused-stays : (m : ℕ) (text old : List ℕ) (r : Refusal) → parse_answer m text (length old) ≡ Err r → parse_file m text old ≡ old
refused-stays m text old r e = sym (answer-refused m text old r (answer-stopped m text old e)).slice

-- what a file that was written comes of
pub record FileOf (m : ℕ) (text old : List ℕ) (size : ℕ) : Type 0 where
  pub query : Query
  pub language : InLanguage text query
  pub relations : (1 ≤ m) × (m ≤ 8)
  pub few : node_count query ≤ 64
  pub faultless : faults_of m query ≡ []
  pub size_is : size ≡ length (query_file m query)
  pub slice_is : parse_file m text old ≡ over (query_file m query) old

pub written-file : (m : ℕ) (text old : List ℕ) (size : ℕ) → Answers m text (length old) (Ok size) → parse_answer m text (length old) ≡ Ok size → FileOf m text old size
written-file m text old size (written {q} a l h f) e =
    let judged-is = judge-text m text (length old) (range-in 1 8 m a.relations.0 a.relations.1) a.slice a.short ∙ ap (judged m) (parse-complete text q l) ∙ judged-faults m q (length text) h ∙ ap (λ (fs : List Refusal). faulted fs (accepted q)) f in
    record { query = q; language = l; relations = a.relations; few = h; faultless = f; size_is = refl; slice_is = sym (answer-accepted m text old q judged-is).slice }

-- ---- the numbers of nodes

module _ (text : List ℕ) (q : Query) (l : InLanguage text q) where
  -- the text of part i stands where the part says
  pub part-stands : (i : ℕ) → i < node_count q → StandsIn text (get_or (parts_from 0 q) i (whole_part 0 q))
  part-stands i h = let count = parts-count 0 q in each_at (StandsIn text) (parts_from 0 q) (whole_part 0 q) (parts-stand text 0 q [] l.text-is) i (omega arith)

  -- of two parts the one with the lower number ends first, or both end together and it lies within the other: nodes are
  -- numbered as their text ends, operands before the node that uses them, left before right. It never holds both ways
  -- (earlier-once, crate query_language, Parts), so that the places alone give the numbers
  pub parts-numbered : (i j : ℕ) → i < j → j < node_count q → Earlier (get_or (parts_from 0 q) i (whole_part 0 q)) (get_or (parts_from 0 q) j (whole_part 0 q))
  parts-numbered i j h k = let count = parts-count 0 q in ordered_at (parts_from 0 q) (whole_part 0 q) (parts-ordered 0 q) i j h (omega arith)
