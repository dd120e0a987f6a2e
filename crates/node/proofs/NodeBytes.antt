-- The bytes of a node (FORMAT 1.4): reading them gives the node back, and what is read is made of them.
use Rattle.std.specs.Prelude.{ℕ, ◌+◌, ◌≡◌, List, ◌++◌, length}
use Rattle.std.proofs.Common.{ap, ◌∙◌}
use Rattle.node.specs.declared.nodes.Node.{Node}
use Rattle.node.specs.ReadNode.{read_node, Read}
use Rattle.node.specs.Legal.{LegalNode}
use Rattle.node.specs.Reading.{checked-read}
use Rattle.node.specs.NodeBytes.{bytes-checked, bytes-node, node_bytes}

-- ---- reading gives the node back

-- the bytes of a legal node, whatever follows them, are read as that node
pub bytes_read : (m k : ℕ) (node : Node) (rest : List ℕ) → LegalNode m k node → read_node m k (node_bytes node ++ rest) ≡ Read node (length (node_bytes node))
bytes_read m k node rest h =
    checked-read m k (node_bytes node ++ rest) (length (node_bytes node)) (bytes-checked m k node rest h)
    ∙ ap (λ (n : Node). Read n (length (node_bytes node))) (bytes-node node rest)
