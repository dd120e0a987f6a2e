-- How the sets are filled, node by node.
use Rattle.std.specs.Prelude.{ℕ, ◌+◌, ◌*◌, ◌≤◌, ◌<◌, ◌≡◌, List, ◌⊎◌, length, take}
use Rattle.std.proofs.Common.{inl, inr, eq-or-lt_of_le, arith}
use Rattle.node.specs.declared.nodes.Node.{Node}
use Rattle.node.specs.Legal.{LegalNode}
use Rattle.expression_file.specs.ReadFile.{node_at}
use Rattle.node_expression.specs.NodeExpression.{expression_at, expression-is}
use Rattle.type_sets.specs.Sets.{TypeIn, words_at, NodeSets}
use Rattle.type_sets.specs.SetLaws.{node-below}
use Rattle.type_sets.specs.SetCells.{Words}
use Rattle.type_sets.proofs.SetCells.{type-same, node-type}
use Rattle.type_sets.specs.FilledSets.{Filled, sets-before}

-- the next node
pub filled-node :
    (file special items : List ℕ) (count width m k : ℕ) (old sets : List ℕ) (node : Node)
    → 2 ≤ width
    → count ≤ length items
    → node ≡ node_at file k
    → LegalNode m k (node_at file k)
    → Words old
    → Filled file special (take count items) width k old
    → NodeSets special items count width k old sets node
    → Filled file special (take count items) width (k + 1) sets
filled-node file special items count width m k old sets node wide fits is legal words f made = record { node = λ l h. go l (eq-or-lt_of_le (most l h)) }
  where
    most : (l : ℕ) → l < k + 1 → l ≤ k
    most l h = omega arith

    here : TypeIn (expression_at file k) special (take count items) width (words_at sets (k * width))
    here = rw (expression-is file m k legal) (node-type special items count width wide m k (node_at file k) (expression_at file) old sets fits legal words f.node (rw is at made))

    go : (l : ℕ) → (l ≡ k) ⊎ (l < k) → TypeIn (expression_at file l) special (take count items) width (words_at sets (l * width))
    go l (inl same) = rw same here
    go l (inr below) =
        let ends = node-below l k width below in
        type-same special (take count items) width wide
        (λ v h. sets-before special items count width k old sets node made (l * width + v) (omega arith)) (f.node l below)
