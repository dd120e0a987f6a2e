-- The nodes of a query's file: each is legal at its place, and its expression is what the part of the text means that
-- has its number.
use Rattle.std.specs.Prelude.{ℕ, zero, suc, ◌+◌, ◌-◌, ◌<◌, ◌≡◌, true, List, ◌∷◌, ◌++◌, length, get_or, []}
use Rattle.std.proofs.Common.{sym, ap, ap₂, subst, ◌∙◌, add-zero, arith}
use Rattle.attribute_set.specs.Listed.{all_special, special-first, clear-listed}
use Rattle.node.specs.declared.nodes.Node.{Node}
use Rattle.node.specs.declared.nodes.Node.TheVariants.{Relation, Binary}
use Rattle.node.specs.Legal.{LegalNode}
use Rattle.expression_file.specs.ReadFile.{node_at}
use Rattle.expression_file.specs.WrittenFile.{LegalNodes, legal-one, legal-append}
use Rattle.algebra.specs.Expression.{binary}
use Rattle.node_expression.specs.NodeExpression.{operator_of, of_node, expression_at, expression-is}
use Rattle.query_language.specs.Query.{Prefix, with_set, renaming, projecting_out, Query, relation, pair, prefixed, node_count}
use Rattle.query_language.specs.OperandLaws.{count-some}
use Rattle.query_language.specs.Parts.{Part, whole_part, parts_from, parts-relation, parts-pair, parts-prefixed, parts-count}
use Rattle.query_language.specs.Sizes.{query_size, prefix_size}
use Rattle.query_answer.specs.QueryNodes.{prefix_node, nodes_from, nodes-relation, nodes-pair, nodes-prefixed, nodes-count}
use Rattle.query_answer.specs.Faults.{prefix_attributes, faults_of}
use Rattle.query_answer.proofs.Faults.{faultless-relation, faultless-pair, faultless-prefixed}
use Rattle.query_theorems.specs.Meaning.{prefix_meaning, meaning, prefix-meaning}

-- ---- legal nodes

prefix-legal : (m k o : ℕ) (p : Prefix) → o < k → all_special (prefix_attributes p) ≡ true → LegalNode m k (prefix_node p o)
prefix-legal m k o (with_set op ns) h e = (h, clear-listed ns)
prefix-legal m k o (renaming old new) h e =
    let first = special-first old (new ∷ []) e in
    let second = special-first new [] first.1 in
    (h, first.0, second.0)
prefix-legal m k o (projecting_out old) h e = (h, (special-first old [] e).0)

-- in a query in which no number is out of its range every node is legal at its place
pub query-legal : (m k : ℕ) (q : Query) → faults_of m q ≡ [] → LegalNodes m k (nodes_from k q)
query-legal m k (relation r) e = subst (LegalNodes m k) (sym (nodes-relation k r)) (legal-one m k (Relation r) (faultless-relation m r e))
query-legal m k (pair op l r) e =
    let both = faultless-pair m op l r e in
    let a = count-some l in
    let b = count-some r in
    let node = Binary op (k + node_count l - 1) (k + node_count l + node_count r - 1) in
    let own = legal-one m (k + node_count l + node_count r) node (omega arith, omega arith) in
    let rights = nodes_from (k + node_count l) r in
    let right = legal-append m (k + node_count l) (node_count r) rights (node ∷ []) (nodes-count (k + node_count l) r) (query-legal m (k + node_count l) r both.1) own in
    subst (LegalNodes m k) (sym (nodes-pair k op l r)) (legal-append m k (node_count l) (nodes_from k l) (rights ++ (node ∷ [])) (nodes-count k l) (query-legal m k l both.0) right)
query-legal m k (prefixed p q) e =
    let both = faultless-prefixed m p q e in
    let a = count-some q in
    let own = legal-one m (k + node_count q) (prefix_node p (k + node_count q - 1)) (prefix-legal m (k + node_count q) (k + node_count q - 1) p (omega arith) both.0) in
    subst (LegalNodes m k) (sym (nodes-prefixed k p q)) (legal-append m k (node_count q) (nodes_from k q) (prefix_node p (k + node_count q - 1) ∷ []) (nodes-count k q) (query-legal m k q both.1) own)

-- ---- the nodes of a file, one after the other

-- these are the nodes of the file from node k on, and legal there
pub StandFrom : List ℕ → ℕ → ℕ → List Node → Type 0
StandFrom file m k [] = Unit {0}
StandFrom file m k (n ∷ ns) = (node_at file k ≡ n) × LegalNode m k n × StandFrom file m (k + 1) ns

stand-append : (file : List ℕ) (m k : ℕ) (ns os : List Node) → StandFrom file m k (ns ++ os) → StandFrom file m k ns × StandFrom file m (k + length ns) os
unfolding StandFrom
stand-append file m k [] os s = (tt, subst (λ (j : ℕ). StandFrom file m j os) (sym (add-zero k)) s)
stand-append file m k (n ∷ ns) os s =
    let rest = stand-append file m (k + 1) ns os s.2 in
    ((s.0, s.1, rest.0), subst (λ (j : ℕ). StandFrom file m j os) (next k (length ns)) rest.1)
  where
    next : (k n : ℕ) → k + 1 + n ≡ k + suc n
    next k n = omega arith

stand-after : (file : List ℕ) (m k n : ℕ) (ns os : List Node) → length ns ≡ n → StandFrom file m k (ns ++ os) → StandFrom file m k ns × StandFrom file m (k + n) os
stand-after file m k n ns os e s = let parts = stand-append file m k ns os s in (parts.0, subst (λ (j : ℕ). StandFrom file m (k + j) os) e parts.1)

pub stand-all : (file : List ℕ) (m k : ℕ) (ns : List Node) → LegalNodes m k ns → ((i : ℕ) → node_at file (k + i) ≡ get_or ns i (Relation 0)) → StandFrom file m k ns
unfolding StandFrom
stand-all file m k [] legal at = tt
stand-all file m k (n ∷ ns) legal at =
    (ap (node_at file) (sym (add-zero k)) ∙ at 0, legal.0, stand-all file m (k + 1) ns legal.1 (λ i. ap (node_at file) (next k i) ∙ at (suc i)))
  where
    next : (k i : ℕ) → k + 1 + i ≡ k + suc i
    next k i = omega arith

-- the expression of a node that stands
stand-expression : (file : List ℕ) (m k : ℕ) (node : Node) → node_at file k ≡ node → LegalNode m k node → expression_at file k ≡ of_node node (expression_at file)
stand-expression file m k node is legal =
    expression-is file m k (subst (LegalNode m k) (sym is) legal) ∙ ap (λ (n : Node). of_node n (expression_at file)) is

-- ---- what each node means

-- from node k on, each node's expression is what the part means that has its number
unfoldable pub MeanFrom : List ℕ → ℕ → List Part → Type 0
MeanFrom file k [] = Unit {0}
MeanFrom file k (x ∷ xs) = (expression_at file k ≡ meaning x.query) × MeanFrom file (k + 1) xs

mean-append : (file : List ℕ) (k : ℕ) (xs ys : List Part) → MeanFrom file k xs → MeanFrom file (k + length xs) ys → MeanFrom file k (xs ++ ys)
unfolding MeanFrom
mean-append file k [] ys a b = subst (λ (j : ℕ). MeanFrom file j ys) (add-zero k) b
mean-append file k (x ∷ xs) ys a b = (a.0, mean-append file (k + 1) xs ys a.1 (subst (λ (j : ℕ). MeanFrom file j ys) (next k (length xs)) b))
  where
    next : (k n : ℕ) → k + suc n ≡ k + 1 + n
    next k n = omega arith

mean-after : (file : List ℕ) (k n : ℕ) (xs ys : List Part) → length xs ≡ n → MeanFrom file k xs → MeanFrom file (k + n) ys → MeanFrom file k (xs ++ ys)
mean-after file k n xs ys e a b = mean-append file k xs ys a (subst (λ (j : ℕ). MeanFrom file (k + j) ys) (sym e) b)

mean-one : (file : List ℕ) (k at : ℕ) (q : Query) → expression_at file k ≡ meaning q → MeanFrom file k (whole_part at q ∷ [])
unfolding MeanFrom
mean-one file k at q e = (e, tt)

pub mean-at : (file : List ℕ) (k : ℕ) (xs : List Part) (d : Part) → MeanFrom file k xs → (i : ℕ) → i < length xs → expression_at file (k + i) ≡ meaning (get_or xs i d).query
unfolding MeanFrom
mean-at file k [] d a i h = absurd (omega arith)
mean-at file k (x ∷ xs) d a zero h = ap (expression_at file) (add-zero k) ∙ a.0
mean-at file k (x ∷ xs) d a (suc i) h = ap (expression_at file) (next k i) ∙ mean-at file (k + 1) xs d a.1 i (omega arith)
  where
    next : (k i : ℕ) → k + suc i ≡ k + 1 + i
    next k i = omega arith

-- the parts, and the whole as the last of them
pub record Mean (file : List ℕ) (k at : ℕ) (q : Query) : Type 0 where
  pub parts : MeanFrom file k (parts_from at q)
  pub whole : expression_at file (k + node_count q - 1) ≡ meaning q

pub nodes-mean : (file : List ℕ) (m k at : ℕ) (q : Query) → faults_of m q ≡ [] → StandFrom file m k (nodes_from k q) → Mean file k at q
unfolding StandFrom
nodes-mean file m k at (relation r) e s =
    let node = subst (StandFrom file m k) (nodes-relation k r) s in
    let own = stand-expression file m k (Relation r) node.0 node.1 in
    let last : k + 1 - 1 ≡ k = omega arith in
    record { parts = subst (MeanFrom file k) (sym (parts-relation at r)) (mean-one file k at (relation r) own); whole = ap (expression_at file) last ∙ own }
nodes-mean file m k at (pair op l r) e s =
    let both = faultless-pair m op l r e in
    let nl = node_count l in
    let nr = node_count r in
    let node = Binary op (k + nl - 1) (k + nl + nr - 1) in
    let first = stand-after file m k nl (nodes_from k l) (nodes_from (k + nl) r ++ (node ∷ [])) (nodes-count k l) (subst (StandFrom file m k) (nodes-pair k op l r) s) in
    let left = nodes-mean file m k (at + 1) l both.0 first.0 in
    let second = stand-after file m (k + nl) nr (nodes_from (k + nl) r) (node ∷ []) (nodes-count (k + nl) r) first.1 in
    let right = nodes-mean file m (k + nl) (at + 1 + query_size l + 1) r both.1 second.0 in
    let last = second.1 in
    let own = stand-expression file m (k + nl + nr) node last.0 last.1 ∙ ap₂ (binary (operator_of op)) left.whole right.whole in
    let one = mean-one file (k + nl + nr) at (pair op l r) own in
    let others = mean-after file (k + nl) nr _ _ (parts-count (at + 1 + query_size l + 1) r) right.parts one in
    let place : k + (nl + nr + 1) - 1 ≡ k + nl + nr = omega arith in
    record {
      parts = subst (MeanFrom file k) (sym (parts-pair at op l r)) (mean-after file k nl _ _ (parts-count (at + 1) l) left.parts others);
      whole = ap (expression_at file) place ∙ own;
    }
nodes-mean file m k at (prefixed p q) e s =
    let both = faultless-prefixed m p q e in
    let n = node_count q in
    let node = prefix_node p (k + n - 1) in
    let first = stand-after file m k n (nodes_from k q) (node ∷ []) (nodes-count k q) (subst (StandFrom file m k) (nodes-prefixed k p q) s) in
    let inner = nodes-mean file m k (at + prefix_size p) q both.1 first.0 in
    let last = first.1 in
    let own = stand-expression file m (k + n) node last.0 last.1 ∙ prefix-meaning p (k + n - 1) (expression_at file) both.0 ∙ ap (prefix_meaning p) inner.whole in
    let one = mean-one file (k + n) at (prefixed p q) own in
    let place : k + (n + 1) - 1 ≡ k + n = omega arith in
    record {
      parts = subst (MeanFrom file k) (sym (parts-prefixed at p q)) (mean-after file k n _ _ (parts-count (at + prefix_size p) q) inner.parts one);
      whole = ap (expression_at file) place ∙ own;
    }
