-- How the sets are filled, node by node.
use Rattle.std.specs.Prelude.{ℕ, ◌*◌, ◌<◌, ◌≡◌, List, length, get_or}
use Rattle.std.proofs.Common.{arith}
use Rattle.node.specs.declared.nodes.Node.{Node}
use Rattle.node.specs.declared.nodes.Node.TheVariants.{Relation, Binary, WithSet, Renaming, ProjectingOut}
use Rattle.node.specs.declared.nodes.SetOp.TheVariants.{Selection, Projection}
use Rattle.node_expression.specs.NodeExpression.{expression_at}
use Rattle.type_sets.specs.Sets.{TypeIn, words_at, NodeSets}

-- the words of each node before node k are its type
pub record Filled (file special entries : List ℕ) (width k : ℕ) (sets : List ℕ) : Type 0 where
  pub node : (l : ℕ) → l < k → TypeIn (expression_at file l) special entries width (words_at sets (l * width))

pub filled_none : (file special entries : List ℕ) (width : ℕ) (sets : List ℕ) → Filled file special entries width 0 sets
filled_none file special entries width sets = record { node = λ l h. absurd (omega arith) }

-- what laying down a node's words does to the list
pub sets-size : (special items : List ℕ) (count width k : ℕ) (old sets : List ℕ) (node : Node) → NodeSets special items count width k old sets node → length sets ≡ length old
sets-size special items count width k old sets (Relation r) made = made.rest.size
sets-size special items count width k old sets (Binary op l r) made = made.size
sets-size special items count width k old sets (WithSet Selection l s) made = made.1.rest.size
sets-size special items count width k old sets (WithSet Projection l s) made = made.1.rest.size
sets-size special items count width k old sets (Renaming l o n) made = made.rest.size
sets-size special items count width k old sets (ProjectingOut l o) made = made.rest.size

pub sets-before : (special items : List ℕ) (count width k : ℕ) (old sets : List ℕ) (node : Node) → NodeSets special items count width k old sets node → (p : ℕ) → p < k * width → get_or sets p 0 ≡ get_or old p 0
sets-before special items count width k old sets (Relation r) made = made.rest.before
sets-before special items count width k old sets (Binary op l r) made = made.before
sets-before special items count width k old sets (WithSet Selection l s) made = made.1.rest.before
sets-before special items count width k old sets (WithSet Projection l s) made = made.1.rest.before
sets-before special items count width k old sets (Renaming l o n) made = made.rest.before
sets-before special items count width k old sets (ProjectingOut l o) made = made.rest.before
