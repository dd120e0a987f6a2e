-- Parsing a query (FORMAT 7.23): what it answers, and the result slice afterwards.
use Rattle.std.specs.Prelude.{ℕ, not, List, [], ◌∷◌, ltb, length, Result, Ok, Err}
use Rattle.bits.specs.Range.{in_range}
use Rattle.bits.specs.Tab.{over}
use Rattle.refusal.specs.Chain.{refuse}
use Rattle.refusal.specs.declared.Refusal.{Refusal}
use Rattle.refusal.specs.declared.Refusal.TheVariants.{RelationCount, ResultSlice, QuerySyntax, QueryLength, QueryNodes}
use Rattle.expression_file.specs.Walk.{longest_file}
use Rattle.query_language.specs.Parsed.{Parsed, missing, found}
use Rattle.query_language.specs.Query.{Query, node_count}
use Rattle.query_language.specs.Parse.{parse_query}
use Rattle.query_answer.specs.QueryNodes.{query_file}
use Rattle.query_answer.specs.Faults.{faults_of}

-- FORMAT 9.14: the most bytes of a query's text
abbrev pub longest_query : ℕ
longest_query = 512

-- the query of a text, or the first refusal
pub data Judgement : Type 0 where
  refused : Refusal → Judgement
  accepted : Query → Judgement

-- FORMAT 8.8: 7 and 9, the leftmost first
abbrev pub faulted : List Refusal → Judgement → Judgement
faulted [] next = next
faulted (r ∷ rs) next = refused r

-- FORMAT 8.8: 22 where the text is no query, then 24, then 7 and 9
unfoldable pub judged : ℕ → Parsed Query → Judgement
judged m missing = refused QuerySyntax
judged m (found q next) = refuse refused (ltb 64 (node_count q)) QueryNodes (faulted (faults_of m q) (accepted q))

-- FORMAT 8.8: 2, 13, 23, and then the text
unfoldable pub judgement : ℕ → List ℕ → ℕ → Judgement
judgement m text size =
    refuse refused (not (in_range 1 8 m)) RelationCount
    (refuse refused (ltb size longest_file) ResultSlice
    (refuse refused (ltb longest_query (length text)) QueryLength
    (judged m (parse_query text))))

-- FORMAT 7.23: the length of the query's file, or the refusal
abbrev pub answer_of : ℕ → Judgement → Result ℕ Refusal
answer_of m (refused r) = Err r
answer_of m (accepted q) = Ok (length (query_file m q))

-- FORMAT 7.23: the query's file over what the slice held; after a refusal the slice stays
abbrev pub slice_after : ℕ → Judgement → List ℕ → List ℕ
slice_after m (refused r) file = file
slice_after m (accepted q) file = over (query_file m q) file

-- FORMAT 7.23: the answer, for m relations, a text, and a result slice of so many bytes
unfoldable pub parse_answer : ℕ → List ℕ → ℕ → Result ℕ Refusal
parse_answer m text size = answer_of m (judgement m text size)

-- FORMAT 7.23, 8.7: the result slice afterwards
unfoldable pub parse_file : ℕ → List ℕ → List ℕ → List ℕ
parse_file m text file = slice_after m (judgement m text (length file)) file
