-- How a whole file is read (FORMAT 1.1, 1.7, 8.3).
use Rattle.std.specs.Prelude.{ℕ, zero, suc, ◌+◌, not, List, [], ◌∷◌, ltb, length, get_or, take, drop, Result, Err, Ok}
use Rattle.bits.specs.Range.{in_range}
use Rattle.refusal.specs.Chain.{refuse}
use Rattle.refusal.specs.declared.Refusal.{Refusal}
use Rattle.refusal.specs.declared.Refusal.TheVariants.{HeaderTruncated, RelationCount, NodeCount, NodesFollowed}
use Rattle.refusal.specs.Several.{Several, several_refused as nodes_refused, several_read as nodes_read, precede, at_end}
use Rattle.node.specs.declared.nodes.Node.{Node}
use Rattle.node.specs.declared.nodes.Node.TheVariants.{Relation}
use Rattle.node.specs.ReadNode.{read_node, Read}
use Rattle.node.specs.declared.nodes.Decoding.{Decoding}
use Rattle.expression_file.specs.declared.files.Header.{Header}

-- a node of a file and the bytes that hold it
pub record PlacedNode : Type 0 where
  pub node : Node
  pub bytes : List ℕ

-- ---- the nodes

-- the nodes of a file, or the first refusal
abbrev pub Nodes : Type 0
Nodes = Several PlacedNode

-- what a node's reading gives, with the reading of what follows it
abbrev pub follow : Result Decoding Refusal → List ℕ → (List ℕ → Nodes) → Nodes
follow (Err r) bytes rest = nodes_refused r
follow (Ok d) bytes rest = precede (record { node = d.node; bytes = take d.size bytes }) (rest (drop d.size bytes))

-- FORMAT 8.3: so many nodes from node k on, each in full before the next, and then 10
unfoldable pub read_nodes : ℕ → ℕ → ℕ → List ℕ → Nodes
read_nodes m zero k bytes = at_end NodesFollowed bytes
read_nodes m (suc count) k bytes = follow (read_node m k bytes) bytes (λ rest. read_nodes m count (k + 1) rest)

-- ---- the file

-- a file: its first refusal, or m, n and its nodes
pub data File : Type 0 where
  file_refused : Refusal → File
  file_accepted : ℕ → ℕ → List PlacedNode → File

-- what an accepted file gives: m and n
abbrev pub Accepted : ℕ → ℕ → Result Header Refusal
Accepted m n = Ok (record { relations = m; nodes = n })

-- FORMAT 8.3: 1, 2, 3; and m and n
unfoldable pub header : List ℕ → Result Header Refusal
header file =
    refuse Err (ltb (length file) 2) HeaderTruncated
    (refuse Err (not (in_range 1 8 (get_or file 0 0))) RelationCount
    (refuse Err (not (in_range 1 64 (get_or file 1 0))) NodeCount
    (Accepted (get_or file 0 0) (get_or file 1 0))))

-- the file of these counts and nodes
abbrev pub collect : ℕ → ℕ → Nodes → File
collect m n (nodes_refused r) = file_refused r
collect m n (nodes_read es) = file_accepted m n es

-- the file after its counts are read
abbrev pub after_header : Result Header Refusal → List ℕ → File
after_header (Err r) file = file_refused r
after_header (Ok h) file = collect h.relations h.nodes (read_nodes h.relations h.nodes 0 (drop 2 file))

-- FORMAT 1.1, 8.3: m, n and the nodes of a file, or its first refusal
unfoldable pub parse : List ℕ → File
parse file = after_header (header file) file

-- ---- what is read off it

-- what acceptance says of a file
abbrev pub answer : File → Result Header Refusal
answer (file_refused r) = Err r
answer (file_accepted m n es) = Accepted m n

-- FORMAT 7.3: m and n of a file to which none of 1 to 10 applies, or the first refusal
unfoldable pub acceptance : List ℕ → Result Header Refusal
acceptance file = answer (parse file)

-- the nodes of a file with their bytes; none if it is refused
abbrev pub nodes_in : File → List PlacedNode
nodes_in (file_refused r) = []
nodes_in (file_accepted m n es) = es

-- the same, of its bytes
unfoldable pub placed_nodes : List ℕ → List PlacedNode
placed_nodes file = nodes_in (parse file)

-- node k of a file, with its bytes; past the last node, one without bytes
unfoldable pub placed_at : List ℕ → ℕ → PlacedNode
placed_at file k = get_or (placed_nodes file) k (record { node = Relation 0; bytes = [] })

-- node k of a file
abbrev pub node_at : List ℕ → ℕ → Node
node_at file k = (placed_at file k).node

-- the number of its bytes
abbrev pub size_at : List ℕ → ℕ → ℕ
size_at file k = length (placed_at file k).bytes

-- the bytes that these entries take
abbrev pub total : List PlacedNode → ℕ
total [] = 0
total (e ∷ es) = length e.bytes + total es

-- where node k begins: after the counts and the nodes before it
unfoldable pub start_at : List ℕ → ℕ → ℕ
start_at file k = 2 + total (take k (placed_nodes file))
