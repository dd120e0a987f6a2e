-- A node as a machine word, for callers in C and Rust (FORMAT 7.19).
use Rattle.std.specs.Prelude.{ℕ, ◌+◌, ◌*◌, ◌/◌, ◌%◌, Result, Err, Ok}
use Rattle.attribute_set.specs.AttrSet.{bits_of}
use Rattle.refusal.specs.Number.{number_of}
use Rattle.node.specs.declared.nodes.Node.{Node}
use Rattle.node.specs.declared.nodes.Node.TheVariants.{Relation, Binary, WithSet, Renaming, ProjectingOut}
use Rattle.node.specs.Operators.{binary_code, set_code}
use Rattle.refusal.specs.declared.Refusal.{Refusal}
use Rattle.node.specs.declared.nodes.Decoding.{Decoding}
use Rattle.node.specs.ReadNode.{Read}

-- five bytes, low first
unfoldable pub word_of : ℕ → ℕ → ℕ → ℕ → ℕ → ℕ
word_of a b c d e = a + b * 256 + c * 65536 + d * 16777216 + e * 4294967296

-- FORMAT 7.19: a node's map and its fields in bit order
unfoldable pub node_word : Node → ℕ
node_word (Relation r) = word_of 1 r 0 0 0
node_word (Binary op l r) = word_of 14 l r (binary_code op) 0
node_word (WithSet op e s) = word_of 26 e (set_code op) (bits_of s % 256) (bits_of s / 256)
node_word (Renaming e old new) = word_of 98 e old new 0
node_word (ProjectingOut e old) = word_of 34 e old 0 0

-- FORMAT 7.19: 0, the number of the node's bytes, and the node
unfoldable pub read_word : Node → ℕ → ℕ
read_word node size = (size + node_word node * 256) * 256

-- FORMAT 7.19: what a reading is in numbers: the node and its length, or the refusal's number
abbrev pub reading_number : Result Decoding Refusal → ℕ
reading_number (Ok d) = read_word d.node d.size
reading_number (Err r) = number_of r
