-- Files made of nodes: they are accepted, and their nodes are those that they were made of.
use Prim.Native.Nat.{ℕ, suc, ◌+◌, ◌*◌, ◌≤◌}
use Rattle.std.specs.Prelude.{◌≡◌, []}
use Rattle.std.proofs.Math.Path.{refl, ap}
use Rattle.std.proofs.Common.{sym, subst, ◌∙◌, add-zero, arith, length-append}
use mathlib.Core.List.{List, ◌∷◌, ◌++◌, append_assoc, append-nil}
use Rattle.std.proofs.Math.ListN.{length}
use Rattle.refusal.specs.Several.{several_read as nodes_read}
use Rattle.node.specs.declared.nodes.Node.{Node}
use Rattle.node.specs.ReadNode.{read_node}
use Rattle.node.specs.Legal.{LegalNode}
use Rattle.node.specs.NodeBytes.{node_bytes, bytes_most}
use Rattle.node.proofs.NodeBytes.{bytes_read}
use Rattle.expression_file.specs.ReadFile.{PlacedNode, read_nodes}
use Rattle.expression_file.specs.Accepted.{front-node}

-- the bytes of nodes, each directly after the one before
unfoldable pub nodes_bytes : List Node → List ℕ
nodes_bytes [] = []
nodes_bytes (n ∷ ns) = node_bytes n ++ nodes_bytes ns

-- FORMAT 1.1: the counts, and the nodes
unfoldable pub file_of : ℕ → List Node → List ℕ
file_of m ns = m ∷ length ns ∷ nodes_bytes ns

-- nodes from node k on, each legal at its place
abbrev pub LegalNodes : ℕ → ℕ → List Node → Type 0
LegalNodes m k [] = Unit {0}
LegalNodes m k (n ∷ ns) = LegalNode m k n × LegalNodes m (k + 1) ns

-- ---- laws of the bytes

pub file-bytes : (m : ℕ) (ns : List Node) → file_of m ns ≡ m ∷ length ns ∷ nodes_bytes ns
unfolding file_of
file-bytes m ns = refl

pub nodes-one : (n : Node) → nodes_bytes (n ∷ []) ≡ node_bytes n
unfolding nodes_bytes
nodes-one n = append-nil (node_bytes n)

pub nodes-append : (ns os : List Node) → nodes_bytes (ns ++ os) ≡ nodes_bytes ns ++ nodes_bytes os
unfolding nodes_bytes
nodes-append [] os = refl
nodes-append (n ∷ ns) os = ap (◌++◌ (node_bytes n)) (nodes-append ns os) ∙ sym (append_assoc (node_bytes n) (nodes_bytes ns) (nodes_bytes os))

pub nodes-most : (ns : List Node) → length (nodes_bytes ns) ≤ 5 * length ns
unfolding nodes_bytes
nodes-most [] = omega arith
nodes-most (n ∷ ns) =
    let one = bytes_most n in
    let rest = nodes-most ns in
    let both = length-append (node_bytes n) (nodes_bytes ns) in
    omega arith

-- FORMAT 9.1: of at most 64 nodes, it is not longer than any accepted file can be
pub written-most : (m : ℕ) (ns : List Node) → length ns ≤ 64 → length (file_of m ns) ≤ 322
unfolding file_of
written-most m ns h = let most = nodes-most ns in omega arith

pub legal-one : (m k : ℕ) (n : Node) → LegalNode m k n → LegalNodes m k (n ∷ [])
legal-one m k n h = (h, tt)

-- nodes after n others
pub legal-append : (m k n : ℕ) (ns os : List Node) → length ns ≡ n → LegalNodes m k ns → LegalNodes m (k + n) os → LegalNodes m k (ns ++ os)
legal-append m k n [] os e a b = rw (← e, add-zero k) at b
legal-append m k n (x ∷ ns) os e a b = (a.0, legal-append m (k + 1) (length ns) ns os refl a.1 (subst (λ (j : ℕ). LegalNodes m j os) (next k (length ns) n e) b))
  where
    next : (k l n : ℕ) → suc l ≡ n → k + n ≡ k + 1 + l
    next k l n e = omega arith

-- ---- reading

-- each node with its bytes
unfoldable pub placed_of : List Node → List PlacedNode
placed_of [] = []
placed_of (n ∷ ns) = record { node = n; bytes = node_bytes n } ∷ placed_of ns

pub nodes-read : (m k : ℕ) (ns : List Node) → LegalNodes m k ns → read_nodes m (length ns) k (nodes_bytes ns) ≡ nodes_read (placed_of ns)
unfolding read_nodes nodes_bytes placed_of
nodes-read m k [] legal = refl
nodes-read m k (n ∷ ns) legal =
    let own = sym (ap (read_node m k) (append-nil (node_bytes n))) ∙ bytes_read m k n [] legal.0 in
    front-node m (length ns) k (node_bytes n) (nodes_bytes ns) n (placed_of ns) own (nodes-read m (k + 1) ns legal.1)

-- ---- the file

-- nodes of a file with m relations: of both as many as a file has
pub record FileNodes (m : ℕ) (ns : List Node) : Type 0 where
  pub relations : (1 ≤ m) × (m ≤ 8)
  pub count : (1 ≤ length ns) × (length ns ≤ 64)
  pub legal : LegalNodes m 0 ns
