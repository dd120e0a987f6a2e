-- The nodes of a query (FORMAT 11.6), and its expression file (FORMAT 11.7).
use Rattle.std.specs.Prelude.{ℕ, ◌+◌, ◌-◌, ◌≤◌, ◌≡◌, refl, List, [], ◌∷◌, ◌++◌, length}
use Rattle.std.proofs.Common.{ap, ◌∙◌, arith, length-append}
use Rattle.attribute_set.specs.AttrSet.{empty_set}
use Rattle.attribute_set.specs.Listed.{with_attributes}
use Rattle.node.specs.declared.nodes.BinaryOp.{BinaryOp}
use Rattle.node.specs.declared.nodes.Node.{Node}
use Rattle.node.specs.declared.nodes.Node.TheVariants.{Relation, Binary, WithSet, Renaming, ProjectingOut}
use Rattle.node.specs.NodeBytes.{node_bytes, bytes_most}
use Rattle.expression_file.specs.WrittenFile.{nodes_bytes, file_of, nodes-one, nodes-append, file-bytes, written-most}
use Rattle.query_language.specs.Query.{Prefix, with_set, renaming, projecting_out, Query, relation, pair, prefixed, node_count}
use Rattle.query_language.specs.Sizes.{query_size, relation-size, prefixed-size, prefix-some}
use Rattle.query_language.proofs.Sizes.{pair_size}

-- FORMAT 11.6: the node of a prefix over the node of its operand
abbrev pub prefix_node : Prefix → ℕ → Node
prefix_node (with_set op ns) k = WithSet op k (with_attributes empty_set ns)
prefix_node (renaming old new) k = Renaming k old new
prefix_node (projecting_out old) k = ProjectingOut k old

-- FORMAT 11.6: the nodes of a query, the first of which has number k: those of its operands, the left one's first, and
-- then its own, whose operands are the last nodes of theirs
unfoldable pub nodes_from : ℕ → Query → List Node
nodes_from k (relation r) = Relation r ∷ []
nodes_from k (pair op l r) =
    nodes_from k l ++ (nodes_from (k + node_count l) r ++ (Binary op (k + node_count l - 1) (k + node_count l + node_count r - 1) ∷ []))
nodes_from k (prefixed p q) = nodes_from k q ++ (prefix_node p (k + node_count q - 1) ∷ [])

-- FORMAT 11.7: the expression file of a query over m relations
abbrev pub query_file : ℕ → Query → List ℕ
query_file m q = file_of m (nodes_from 0 q)

-- ---- laws

pub nodes-relation : (k r : ℕ) → nodes_from k (relation r) ≡ Relation r ∷ []
unfolding nodes_from
nodes-relation k r = refl

pub nodes-pair :
    (k : ℕ) (op : BinaryOp) (l r : Query)
    → nodes_from k (pair op l r)
    ≡ nodes_from k l ++ (nodes_from (k + node_count l) r ++ (Binary op (k + node_count l - 1) (k + node_count l + node_count r - 1) ∷ []))
unfolding nodes_from
nodes-pair k op l r = refl

pub nodes-prefixed : (k : ℕ) (p : Prefix) (q : Query) → nodes_from k (prefixed p q) ≡ nodes_from k q ++ (prefix_node p (k + node_count q - 1) ∷ [])
unfolding nodes_from
nodes-prefixed k p q = refl

pub nodes-count : (k : ℕ) (q : Query) → length (nodes_from k q) ≡ node_count q
unfolding nodes_from
nodes-count k (relation r) = refl
nodes-count k (pair op l r) =
    let a = nodes-count k l in
    let b = nodes-count (k + node_count l) r in
    simp length-append (omega arith)
nodes-count k (prefixed p q) = let a = nodes-count k q in simp length-append (omega arith)

-- the bytes of the nodes of a query
abbrev pub bytes_from : ℕ → Query → List ℕ
bytes_from k q = nodes_bytes (nodes_from k q)

pub bytes-relation : (k r : ℕ) → bytes_from k (relation r) ≡ node_bytes (Relation r)
unfolding nodes_from
bytes-relation k r = nodes-one (Relation r)

pub bytes_pair :
    (k : ℕ) (op : BinaryOp) (l r : Query)
    → bytes_from k (pair op l r)
    ≡ bytes_from k l ++ (bytes_from (k + node_count l) r ++ node_bytes (Binary op (k + node_count l - 1) (k + node_count l + node_count r - 1)))
unfolding nodes_from
bytes_pair k op l r =
    let node = Binary op (k + node_count l - 1) (k + node_count l + node_count r - 1) in
    nodes-append (nodes_from k l) (nodes_from (k + node_count l) r ++ (node ∷ []))
    ∙ ap (◌++◌ (bytes_from k l)) (nodes-append (nodes_from (k + node_count l) r) (node ∷ []) ∙ ap (◌++◌ (bytes_from (k + node_count l) r)) (nodes-one node))

pub bytes-prefixed : (k : ℕ) (p : Prefix) (q : Query) → bytes_from k (prefixed p q) ≡ bytes_from k q ++ node_bytes (prefix_node p (k + node_count q - 1))
unfolding nodes_from
bytes-prefixed k p q =
    let node = prefix_node p (k + node_count q - 1) in
    nodes-append (nodes_from k q) (node ∷ []) ∙ ap (◌++◌ (bytes_from k q)) (nodes-one node)

-- the nodes of a query have at most twice as many bytes as its text
pub bytes-size : (k : ℕ) (q : Query) → length (bytes_from k q) ≤ query_size q + query_size q
bytes-size k (relation r) =
    let own = ap length (bytes-relation k r) in
    let size = relation-size r in
    omega arith
bytes-size k (pair op l r) =
    let a = bytes-size k l in
    let b = bytes-size (k + node_count l) r in
    let node = Binary op (k + node_count l - 1) (k + node_count l + node_count r - 1) in
    let c = bytes_most node in
    let size = pair_size op l r in
    let all = ap length (bytes_pair k op l r) ∙ length-append (bytes_from k l) _ in
    let rest = length-append (bytes_from (k + node_count l) r) (node_bytes node) in
    omega arith
bytes-size k (prefixed p q) =
    let a = bytes-size k q in
    let node = prefix_node p (k + node_count q - 1) in
    let c = bytes_most node in
    let size = prefixed-size p q in
    let some = prefix-some p in
    let all = ap length (bytes-prefixed k p q) ∙ length-append (bytes_from k q) (node_bytes node) in
    omega arith

-- a file of at most 64 nodes has at most 322 bytes
pub query-most : (m : ℕ) (q : Query) → node_count q ≤ 64 → length (query_file m q) ≤ 322
query-most m q h = let count = nodes-count 0 q in written-most m (nodes_from 0 q) (omega arith)

-- m, n, and the bytes of the nodes
pub query-file : (m : ℕ) (q : Query) → query_file m q ≡ m ∷ node_count q ∷ bytes_from 0 q
query-file m q = file-bytes m (nodes_from 0 q) ∙ ap (λ (n : ℕ). m ∷ n ∷ bytes_from 0 q) (nodes-count 0 q)
