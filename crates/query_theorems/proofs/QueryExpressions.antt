-- The nodes of a query's file: each is legal at its place, and its expression is what the part of the text means that
-- has its number.
use Rattle.std.specs.Prelude.{ℕ, ◌-◌, ◌≤◌, ◌<◌, ◌≡◌, get_or, []}
use Rattle.std.proofs.Common.{sym, ap, ◌∙◌, zero-add, arith}
use Rattle.expression_file.specs.ReadFile.{node_at}
use Rattle.expression_file.specs.WrittenFile.{FileNodes, file_of}
use Rattle.expression_file.proofs.WrittenFile.{file-node}
use Rattle.node_expression.specs.NodeExpression.{expression_at}
use Rattle.query_language.specs.Query.{Query, node_count}
use Rattle.query_language.specs.OperandLaws.{count-some}
use Rattle.query_language.specs.Parts.{Part, parts_from, parts-count}
use Rattle.query_answer.specs.QueryNodes.{nodes_from, nodes-count}
use Rattle.query_answer.specs.Faults.{faults_of}
use Rattle.query_theorems.specs.Meaning.{meaning}
use Rattle.query_theorems.specs.QueryExpressions.{Mean, mean-at, nodes-mean, query-legal, stand-all}

-- ---- the file of a query

module _ (m : ℕ) (q : Query) (relations : (1 ≤ m) × (m ≤ 8)) (few : node_count q ≤ 64) (faultless : faults_of m q ≡ []) where
  pub query-nodes : FileNodes m (nodes_from 0 q)
  query-nodes =
      let count = nodes-count 0 q in
      let some = count-some q in
      record { relations = relations; count = (omega arith, omega arith); legal = query-legal m 0 q faultless }

  mean : Mean (file_of m (nodes_from 0 q)) 0 0 q
  mean =
      let file = file_of m (nodes_from 0 q) in
      nodes-mean file m 0 0 q faultless (stand-all file m 0 (nodes_from 0 q) (query-legal m 0 q faultless) (λ i. ap (node_at file) (zero-add i) ∙ file-node m (nodes_from 0 q) query-nodes i))

  -- its last node's expression is what the query means
  pub last-meaning : expression_at (file_of m (nodes_from 0 q)) (node_count q - 1) ≡ meaning q
  last-meaning = ap (λ (n : ℕ). expression_at (file_of m (nodes_from 0 q)) (n - 1)) (sym (zero-add (node_count q))) ∙ mean.whole

  -- node i's expression is what part i of the text means
  pub node-meaning : (d : Part) (i : ℕ) → i < node_count q → expression_at (file_of m (nodes_from 0 q)) i ≡ meaning (get_or (parts_from 0 q) i d).query
  node-meaning d i h =
      let count = parts-count 0 q in
      ap (expression_at (file_of m (nodes_from 0 q))) (sym (zero-add i)) ∙ mean-at (file_of m (nodes_from 0 q)) 0 (parts_from 0 q) d mean.parts i (omega arith)
