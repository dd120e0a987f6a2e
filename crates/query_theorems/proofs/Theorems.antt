-- What a file that was written comes of, and what its nodes mean: the theorems of specs/Theorems.antt that rest on the
-- meaning of each node. That the rules give the last node the types that they give the query, and that a file comes of
-- one text, is in OneText.antt.
use Rattle.std.specs.Prelude.{ℕ, ◌-◌, ◌≤◌, ◌<◌, ◌≡◌, List, length, get_or, take, [], Ok}
use Rattle.std.proofs.Common.{sym, ap, subst, ◌∙◌, arith}
use Rattle.bits.specs.Tab.{over, take-over}
use Rattle.expression_file.specs.ReadFile.{acceptance, Accepted}
use Rattle.expression_file.specs.WrittenFile.{file_of}
use Rattle.expression_file.proofs.WrittenFile.{file-accepted}
use Rattle.node_expression.specs.NodeExpression.{expression_at}
use Rattle.query_language.specs.Query.{Query, InLanguage, node_count}
use Rattle.query_language.proofs.Language.{one-reading}
use Rattle.query_language.specs.Parts.{whole_part, parts_from}
use Rattle.query_answer.specs.QueryNodes.{nodes_from, nodes-count, query_file, query-most}
use Rattle.query_answer.specs.Faults.{faults_of}
use Rattle.query_answer.specs.ParseQuery.{parse_answer, parse_file}
use Rattle.query_theorems.specs.Meaning.{meaning}
use Rattle.query_theorems.proofs.QueryExpressions.{query-nodes, last-meaning, node-meaning}
use Rattle.query_theorems.specs.Theorems.{FileOf, parse-answers, written-file}

-- ---- what is written

-- a text, and slices in which its file was written
module _ (m : ℕ) (text old : List ℕ) (size : ℕ) (parses : parse_answer m text (length old) ≡ Ok size) where
  -- the query that was read: the text is its text, and the front of the slice its file
  pub written_of : FileOf m text old size
  written_of = written-file m text old size ((parse-answers m text (length old) (Ok size)).0 parses) parses

  -- FORMAT 9.1: it is no longer than the slice must be
  pub written-most : size ≤ 322
  written-most = let w = written_of in let most = query-most m w.query w.few in let is = w.size_is in omega arith

  -- the part of the slice that was written
  abbrev pub written_part : List ℕ
  written_part = take size (parse_file m text old)

  -- it is the query's file; the rest of the slice is as it was, by the slice's own equation
  pub written_is : written_part ≡ query_file m written_of.query
  written_is = let w = written_of in ap (take size) w.slice_is ∙ ap (λ (n : ℕ). take n (over (query_file m w.query) old)) w.size_is ∙ take-over (query_file m w.query) old

  module _ (q : Query) (l : InLanguage text q) where
    same : written_of.query ≡ q
    same = one-reading text written_of.query q written_of.language l

    part-is : written_part ≡ file_of m (nodes_from 0 q)
    part-is = written_is ∙ ap (query_file m) same

    few-nodes : node_count q ≤ 64
    few-nodes = subst (λ (u : Query). node_count u ≤ 64) same written_of.few

    no-faults : faults_of m q ≡ []
    no-faults = ap (faults_of m) (sym same) ∙ written_of.faultless

    -- it is accepted, with the caller's m, and has a node for each relation, pair and prefix of the text
    pub written-accepted : acceptance written_part ≡ Accepted m (node_count q)
    written-accepted = ap acceptance part-is ∙ file-accepted m (nodes_from 0 q) (query-nodes m q written_of.relations few-nodes no-faults) ∙ ap (Accepted m) (nodes-count 0 q)

    -- its last node's expression is what the query means
    pub written-meaning : expression_at written_part (node_count q - 1) ≡ meaning q
    written-meaning = ap (λ (file : List ℕ). expression_at file (node_count q - 1)) part-is ∙ last-meaning m q written_of.relations few-nodes no-faults

    -- node i's expression is what part i of the text means
    pub written-node : (i : ℕ) → i < node_count q → expression_at written_part i ≡ meaning (get_or (parts_from 0 q) i (whole_part 0 q)).query
    written-node i h = ap (λ (file : List ℕ). expression_at file i) part-is ∙ node-meaning m q written_of.relations few-nodes no-faults (whole_part 0 q) i h
