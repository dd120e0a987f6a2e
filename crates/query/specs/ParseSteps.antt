-- Parsing a query, step by step as the code goes: what each return gives.
use Rattle.std.specs.Prelude.{ℕ, ◌+◌, ◌≤◌, ◌<◌, ◌≡◌, refl, true, false, List, ◌∷◌, length, take, Option, None, Some, Ok, Err}
use Rattle.std.proofs.Common.{sym, ap, ◌∙◌, arith, take_at}
use Rattle.bits.specs.Range.{in_range}
use Rattle.bits.specs.Tab.{over, over-with}
use Rattle.text.specs.Put.{Wrote, wrote-front}
use Rattle.text.specs.declared.Writer.{Writer}
use Rattle.text.specs.Written.{writes-front}
use Rattle.refusal.specs.declared.Refusal.{Refusal}
use Rattle.refusal.specs.declared.Refusal.TheVariants.{RelationCount, ResultSlice, QuerySyntax, QueryLength, QueryNodes}
use Rattle.query_language.specs.Parsed.{missing, found}
use Rattle.query_language.specs.Query.{node_count}
use Rattle.query_language.specs.Parse.{operand_at, parse_query}
use Rattle.query_language.specs.Steps.{whole-none, whole-followed, whole-there}
use Rattle.query_answer.specs.QueryNodes.{bytes_from, query_file, query-file, query-most}
use Rattle.query_answer.specs.ParseQuery.{Judgement, judged, judgement}
use Rattle.query_answer.specs.ParseLaws.{Answered, answer-refused, answer-accepted, judge-relations, judge-slice, judge-length, judge-text, judged-syntax, judged-nodes, judged-fault, judged-accepted}
use Rattle.query_operands.specs.Reading.{IsRead}
use Rattle.query_operands.specs.ReadingLaws.{read-end}

module _ (m : ℕ) (text old : List ℕ) where
  pub parse-relations : in_range 1 8 m ≡ false → Answered m text old (Err RelationCount) old
  parse-relations a = answer-refused m text old RelationCount (judge-relations m text (length old) a)

  module _ (a : in_range 1 8 m ≡ true) where
    pub parse-slice : length old < 322 → Answered m text old (Err ResultSlice) old
    parse-slice b = answer-refused m text old ResultSlice (judge-slice m text (length old) a b)

    pub parse-length : 322 ≤ length old → 512 < length text → Answered m text old (Err QueryLength) old
    parse-length b c = answer-refused m text old QueryLength (judge-length m text (length old) a b c)

-- 2, 13 and 23 do not apply
pub record Passed (m : ℕ) (text old : List ℕ) : Type 0 where
  pub relations : in_range 1 8 m ≡ true
  pub room : 322 ≤ length old
  pub short : length text ≤ 512

module _ {m : ℕ} {text old : List ℕ} (passed : Passed m text old) where
  -- what is answered where the text is judged so
  by-text : {j : Judgement} → judged m (parse_query text) ≡ j → judgement m text (length old) ≡ j
  by-text e = judge-text m text (length old) passed.relations passed.room passed.short ∙ e

  pub parse-missing : operand_at text 0 ≡ missing → Answered m text old (Err QuerySyntax) old
  parse-missing e = answer-refused m text old QuerySyntax (by-text (judged-syntax m (parse_query text) (whole-none text e)))

  module _ {near out : Writer} {next count : ℕ} {fault : Option Refusal} (r : IsRead m 0 near out (operand_at text 0) next count fault) where
    pub parse-followed : next < length text → Answered m text old (Err QuerySyntax) old
    parse-followed h = answer-refused m text old QuerySyntax (by-text (judged-syntax m (parse_query text) (whole-followed text r.is h)))

    module _ (h : length text ≤ next) where
      -- the text ends with the operand
      by-query : {j : Judgement} → judged m (found r.query next) ≡ j → judgement m text (length old) ≡ j
      by-query e = by-text (ap (judged m) (whole-there text r.is (read-end text 0 r h)) ∙ e)

      count-is : count ≡ node_count r.query
      count-is = let all-is = r.all-is in omega arith

      pub parse-nodes : 64 < count → Answered m text old (Err QueryNodes) old
      parse-nodes k = let n = count-is in answer-refused m text old QueryNodes (by-query (judged-nodes m r.query next (omega arith)))

      module _ (k : count ≤ 64) where
        few : node_count r.query ≤ 64
        few = let n = count-is in omega arith

        pub parse-fault : {refusal : Refusal} → fault ≡ Some refusal → Answered m text old (Err refusal) old
        parse-fault {refusal} f = answer-refused m text old refusal (by-query (judged-fault m r.query next refusal few (sym r.fault-is ∙ f)))

        module _ (front : near.at ≡ 0) where
          -- the nodes are the front of the local array
          nodes-front : take out.at out.text.now ≡ bytes_from 0 r.query
          nodes-front =
              let w = wrote-front (writes-front r.wrote refl front refl refl) in
              ap (take out.at) (w.0 ∙ over-with (bytes_from 0 r.query) near.text.now) ∙ take_at (bytes_from 0 r.query) _ out.at (sym w.1)

          file-is : m ∷ count ∷ take out.at out.text.now ≡ query_file m r.query
          file-is = rw (nodes-front, count-is) (sym (query-file m r.query))

          pub parse-fits : 2 + length (take out.at out.text.now) ≤ length old
          parse-fits =
              let most = query-most m r.query few in
              let same = ap length file-is in
              let room = passed.room in
              omega arith

          pub parse-written : {new : List ℕ} {size : ℕ} → fault ≡ None → Wrote 0 (m ∷ count ∷ take out.at out.text.now) old new size → Answered m text old (Ok size) new
          parse-written {new} {size} f w =
              let done = answer-accepted m text old r.query (by-query (judged-accepted m r.query next few (sym r.fault-is ∙ f))) in
              let front = wrote-front w in
              record {
                answer = ap Ok (front.1 ∙ ap length file-is) ∙ done.answer;
                slice = front.0 ∙ ap (λ (l : List ℕ). over l old) file-is ∙ done.slice;
              }
