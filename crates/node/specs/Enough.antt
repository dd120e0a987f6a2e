-- How much of the bytes a node's reading depends on: its own bytes, so at most the first five.
use Rattle.std.specs.Prelude.{ℕ, ◌≤◌, ◌≡◌, Result}
use Rattle.std.proofs.Common.{lit≤}
use Rattle.std.proofs.Math.Bool.{true}
use mathlib.Core.List.{List}
use Rattle.node.specs.ReadNode.{size_of, value_of, legal, check_fields, node_with, with_node}
use Rattle.node.specs.Legal.{legal-cases}
use Rattle.refusal.specs.declared.Refusal.{Refusal}
use Rattle.node.specs.declared.nodes.Decoding.{Decoding}

-- what is read after a legal map
abbrev pub fields_read : ℕ → ℕ → ℕ → List ℕ → Result Decoding Refusal
fields_read m k map bytes = with_node (node_with map (value_of map bytes)) (check_fields m k map bytes)

-- a node has at most five bytes
pub legal-size : (map : ℕ) → legal map ≡ true → size_of map ≤ 5
unfolding size_of
legal-size map = legal-cases map (λ (c : ℕ). size_of c ≤ 5) (lit≤ tt) (lit≤ tt) (lit≤ tt) (lit≤ tt) (lit≤ tt)
