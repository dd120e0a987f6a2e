-- Laws of parsing a query, one for each end of the order of its tests.
use Rattle.std.specs.Prelude.{ℕ, ◌≤◌, ◌<◌, Bool, true, false, ltb, length, take, drop, Result, Ok, Err, None, Some}
use Rattle.std.proofs.Math.Path.{◌≡◌, refl, sym, ap}
use Rattle.std.proofs.Common.{◌∙◌, arith, lt-ltb, le-ltb, length-append}
use Rattle.std.proofs.Math.Bool.{not}
use mathlib.Core.List.{List, [], ◌∷◌}
use Rattle.bits.specs.Range.{in_range}
use Rattle.bits.specs.Tab.{over, over-with, take-over}
use Rattle.refusal.specs.Chain.{refuse, refuse-stops, refuse-passes}
use Rattle.refusal.specs.declared.Refusal.{Refusal}
use Rattle.refusal.specs.declared.Refusal.TheVariants.{RelationCount, ResultSlice, QuerySyntax, QueryLength, QueryNodes}
use Rattle.expression_file.specs.Walk.{longest_file}
use Rattle.query_language.specs.Parsed.{Parsed, missing, found}
use Rattle.query_language.specs.Query.{Query, node_count}
use Rattle.query_language.specs.Parse.{parse_query}
use Rattle.query_answer.specs.QueryNodes.{query_file}
use Rattle.query_answer.specs.Faults.{faults_of, first_of}
use Rattle.query_answer.specs.ParseQuery.{longest_query, Judgement, refused, accepted, faulted, judged, judgement, answer_of, slice_after, parse_answer, parse_file}

-- an answer and the slice after it
pub record Answered (m : ℕ) (text old : List ℕ) (r : Result ℕ Refusal) (new : List ℕ) : Type 0 where
  pub answer : r ≡ parse_answer m text (length old)
  pub slice : new ≡ parse_file m text old

-- ---- from the judgement to answer and slice

pub answer-is : (m : ℕ) (text : List ℕ) (size : ℕ) → parse_answer m text size ≡ answer_of m (judgement m text size)
unfolding parse_answer
answer-is m text size = refl

module _ (m : ℕ) (text old : List ℕ) where
  pub answer-refused : (r : Refusal) → judgement m text (length old) ≡ refused r → Answered m text old (Err r) old
  unfolding parse_answer parse_file
  answer-refused r e = record { answer = sym (ap (answer_of m) e); slice = sym (ap (λ (j : Judgement). slice_after m j old) e) }

  pub answer-accepted : (q : Query) → judgement m text (length old) ≡ accepted q → Answered m text old (Ok (length (query_file m q))) (over (query_file m q) old)
  unfolding parse_answer parse_file
  answer-accepted q e = record { answer = sym (ap (answer_of m) e); slice = sym (ap (λ (j : Judgement). slice_after m j old) e) }

-- ---- and back

-- a file that was written: of which query, and what the slice holds
pub record WrittenQuery (m : ℕ) (text old : List ℕ) (size : ℕ) : Type 0 where
  pub query : Query
  pub judged-is : judgement m text (length old) ≡ accepted query
  pub size_is : size ≡ length (query_file m query)
  pub slice_is : parse_file m text old ≡ over (query_file m query) old
  pub part-is : take size (parse_file m text old) ≡ query_file m query
  pub fits : size ≤ length (parse_file m text old)

pub answer-written : (m : ℕ) (text old : List ℕ) {size : ℕ} → parse_answer m text (length old) ≡ Ok size → WrittenQuery m text old size
answer-written m text old {size} e = go (judgement m text (length old)) refl
  where
    go : (j : Judgement) → judgement m text (length old) ≡ j → WrittenQuery m text old size
    go (refused r) i = absurd (let given = (answer-refused m text old r i).answer in let z : ◌≡◌ {A = ℕ} 0 1 = cc in omega arith)
    go (accepted q) i =
        let given = answer-accepted m text old q i in
        let answer = given.answer in
        let size_is : size ≡ length (query_file m q) = cc in
        let slice_is = sym given.slice in
        let whole = ap length (slice_is ∙ over-with (query_file m q) old) ∙ length-append (query_file m q) (drop (length (query_file m q)) old) in
        record {
          query = q;
          judged-is = i;
          size_is = size_is;
          slice_is = slice_is;
          part-is = ap (take size) slice_is ∙ ap (λ (n : ℕ). take n (over (query_file m q) old)) size_is ∙ take-over (query_file m q) old;
          fits = omega arith;
        }

-- a file that was written fits its slice
pub answer-fits : (m : ℕ) (text old new : List ℕ) (size : ℕ) → new ≡ parse_file m text old → parse_answer m text (length old) ≡ Ok size → size ≤ length new
answer-fits m text old new size e f = rw e (answer-written m text old f).fits

pub answer-stopped : (m : ℕ) (text old : List ℕ) {r : Refusal} → parse_answer m text (length old) ≡ Err r → judgement m text (length old) ≡ refused r
answer-stopped m text old {r} e = go (judgement m text (length old)) refl
  where
    go : (j : Judgement) → judgement m text (length old) ≡ j → judgement m text (length old) ≡ refused r
    go (refused s) i = let given = (answer-refused m text old s i).answer in let same : s ≡ r = cc in i ∙ ap refused same
    go (accepted q) i = absurd (let given = (answer-accepted m text old q i).answer in let z : ◌≡◌ {A = ℕ} 0 1 = cc in omega arith)

-- ---- each test, after those before it

module _ (m : ℕ) (text : List ℕ) (size : ℕ) where
  pub judge-relations : in_range 1 8 m ≡ false → judgement m text size ≡ refused RelationCount
  unfolding judgement
  judge-relations a = refuse-stops _ _ _ _ (ap not a)

  module _ (a : in_range 1 8 m ≡ true) where
    pub judge-slice : size < longest_file → judgement m text size ≡ refused ResultSlice
    unfolding judgement
    judge-slice b = refuse-passes _ _ _ _ (ap not a) ∙ refuse-stops _ _ _ _ (lt-ltb size longest_file b)

    module _ (b : longest_file ≤ size) where
      pub judge-length : longest_query < length text → judgement m text size ≡ refused QueryLength
      unfolding judgement
      judge-length c = refuse-passes _ _ _ _ (ap not a) ∙ refuse-passes _ _ _ _ (le-ltb size longest_file b) ∙ refuse-stops _ _ _ _ (lt-ltb longest_query (length text) c)

      pub judge-text : length text ≤ longest_query → judgement m text size ≡ judged m (parse_query text)
      unfolding judgement
      judge-text c = refuse-passes _ _ _ _ (ap not a) ∙ refuse-passes _ _ _ _ (le-ltb size longest_file b) ∙ refuse-passes _ _ _ _ (le-ltb longest_query (length text) c)

-- the size of a slice that is long enough does not matter
pub judge-any : (m : ℕ) (text : List ℕ) (size other : ℕ) → longest_file ≤ size → longest_file ≤ other → judgement m text size ≡ judgement m text other
unfolding judgement
judge-any m text size other h k =
    ap (λ (t : Bool). refuse refused (not (in_range 1 8 m)) RelationCount (refuse refused t ResultSlice (refuse refused (ltb longest_query (length text)) QueryLength (judged m (parse_query text)))))
    (le-ltb size longest_file h ∙ sym (le-ltb other longest_file k))

-- ---- the text

pub judged-syntax : (m : ℕ) (r : Parsed Query) → r ≡ missing → judged m r ≡ refused QuerySyntax
unfolding judged
judged-syntax m r e = ap (judged m) e

module _ (m : ℕ) (q : Query) (next : ℕ) where
  pub judged-nodes : 64 < node_count q → judged m (found q next) ≡ refused QueryNodes
  unfolding judged
  judged-nodes h = refuse-stops _ _ _ _ (lt-ltb 64 (node_count q) h)

  pub judged-faults : node_count q ≤ 64 → judged m (found q next) ≡ faulted (faults_of m q) (accepted q)
  unfolding judged
  judged-faults h = refuse-passes _ _ _ _ (le-ltb 64 (node_count q) h)

  pub judged-fault : (r : Refusal) → node_count q ≤ 64 → first_of (faults_of m q) ≡ Some r → judged m (found q next) ≡ refused r
  unfolding first_of
  judged-fault r h = λ e. judged-faults h ∙ go (faults_of m q) e
    where
      go : (fs : List Refusal) → first_of fs ≡ Some r → faulted fs (accepted q) ≡ refused r
      go [] e = absurd (let z : ◌≡◌ {A = ℕ} 0 1 = cc in omega arith)
      go (f ∷ fs) e = let same : f ≡ r = cc in ap refused same

  pub judged-accepted : node_count q ≤ 64 → first_of (faults_of m q) ≡ None → judged m (found q next) ≡ accepted q
  unfolding first_of
  judged-accepted h = λ e. judged-faults h ∙ go (faults_of m q) e
    where
      go : (fs : List Refusal) → first_of fs ≡ None → faulted fs (accepted q) ≡ accepted q
      go [] e = refl
      go (f ∷ fs) e = absurd (let z : ◌≡◌ {A = ℕ} 0 1 = cc in omega arith)
