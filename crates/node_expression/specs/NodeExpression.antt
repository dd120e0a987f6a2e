-- The expression of a node (FORMAT 1.6).
use Rattle.std.specs.Prelude.{ℕ, zero, suc, ◌<◌, ◌≤◌, ◌≡◌, refl, true, false, ◌&&◌, List, ◌⊎◌, eqb}
use Rattle.std.proofs.Common.{sym, ap, ap₂, subst, eq-or-lt_of_le, le_of_suc-le-suc, le_refl, inl, inr, arith, eq-eqb, ne_eqb}
use Rattle.std.proofs.Math.Bool.{and-false}
use Rattle.bits.specs.Booleans.{and_left}
use Rattle.attribute_set.specs.AttrSet.{special, has_attribute}
use Rattle.attribute_set.specs.declared.AttrSet.{AttrSet}
use Rattle.attribute_set.specs.Laws.{Clear, clear-lacks, special-in}
use Rattle.types.specs.Types.{Attrs}
use Rattle.algebra.specs.Expression.{Operator, union, difference, join, product, SetOperator, selection, projection, Expression, relation, binary, with_set, renaming, projecting_out, Legal}
use Rattle.node.specs.declared.nodes.BinaryOp.{BinaryOp}
use Rattle.node.specs.declared.nodes.BinaryOp.TheVariants.{Union, Difference, Join, Product}
use Rattle.node.specs.declared.nodes.SetOp.{SetOp}
use Rattle.node.specs.declared.nodes.SetOp.TheVariants.{Selection, Projection}
use Rattle.node.specs.declared.nodes.Node.{Node}
use Rattle.node.specs.declared.nodes.Node.TheVariants.{Relation, Binary, WithSet, Renaming, ProjectingOut}
use Rattle.expression_file.specs.ReadFile.{node_at, acceptance, Accepted}
use Rattle.node.specs.Legal.{LegalNode}
use Rattle.expression_file.specs.Walk.{nodes-legal}

-- the algebra's operator of a node's
abbrev pub operator_of : BinaryOp → Operator
operator_of Union = union
operator_of Difference = difference
operator_of Join = join
operator_of Product = product

-- the same of one operand and a set
abbrev pub set_operator_of : SetOp → SetOperator
set_operator_of Selection = selection
set_operator_of Projection = projection

-- FORMAT 1.5: the attributes of a set
abbrev pub named : AttrSet → Attrs
named s = λ a. special a && has_attribute s a

-- FORMAT 1.6: a node over the expressions of its operands
abbrev pub of_node : Node → (ℕ → Expression) → Expression
of_node (Relation r) operand = relation r
of_node (Binary op l r) operand = binary (operator_of op) (operand l) (operand r)
of_node (WithSet op k s) operand = with_set (set_operator_of op) (named s) (operand k)
of_node (Renaming k old new) operand = renaming old new (operand k)
of_node (ProjectingOut k old) operand = projecting_out old (operand k)

-- the expressions of the nodes below k
unfoldable pub earlier : (ℕ → Node) → ℕ → ℕ → Expression
earlier node zero i = relation 0
earlier node (suc k) i = elim (eqb i k) [ true ↦ of_node (node k) (earlier node k) | false ↦ earlier node k i ]

-- FORMAT 1.6: the expression of node k
unfoldable pub expression_at : List ℕ → ℕ → Expression
expression_at file k = of_node (node_at file k) (earlier (node_at file) k)

-- ---- laws

pub earlier-is : (file : List ℕ) (k i : ℕ) → i < k → earlier (node_at file) k i ≡ expression_at file i
unfolding earlier expression_at
earlier-is file zero i h = absurd (omega arith)
earlier-is file (suc k) i h = go (earlier-is file k i) (eq-or-lt_of_le (le_of_suc-le-suc h))
  where
    go : (i < k → earlier (node_at file) k i ≡ expression_at file i) → (i ≡ k) ⊎ (i < k) → earlier (node_at file) (suc k) i ≡ expression_at file i
    go rest (inl e) = rw (eq-eqb i k e, earlier) (ap (expression_at file) (sym e))
    go rest (inr below) = rw (ne_eqb i k (λ e. omega arith), earlier) (rest below)

-- what a node is over expressions depends on its operands alone
pub of-node-same : (m k : ℕ) (node : Node) (f g : ℕ → Expression) → LegalNode m k node → ((l : ℕ) → l < k → f l ≡ g l) → of_node node f ≡ of_node node g
of-node-same m k (Relation r) f g legal same = refl
of-node-same m k (Binary op l r) f g legal same = ap₂ (binary (operator_of op)) (same l legal.0) (same r legal.1)
of-node-same m k (WithSet op l s) f g legal same = ap (with_set (set_operator_of op) (named s)) (same l legal.0)
of-node-same m k (Renaming l old new) f g legal same = ap (renaming old new) (same l legal.0)
of-node-same m k (ProjectingOut l old) f g legal same = ap (projecting_out old) (same l legal.0)

-- a node's expression, over the expressions of the nodes before it
pub expression-is : (file : List ℕ) (m k : ℕ) → LegalNode m k (node_at file k) → expression_at file k ≡ of_node (node_at file k) (expression_at file)
unfolding expression_at
expression-is file m k legal = of-node-same m k (node_at file k) (earlier (node_at file) k) (expression_at file) legal (earlier-is file k)

of-node-legal : (m k : ℕ) (node : Node) (operand : ℕ → Expression) → LegalNode m k node → ((l : ℕ) → l < k → Legal m (operand l)) → Legal m (of_node node operand)
of-node-legal m k (Relation r) operand legal rest = legal
of-node-legal m k (Binary op l r) operand legal rest = (rest l legal.0, rest r legal.1)
of-node-legal m k (WithSet op l s) operand legal rest = (λ a h. and_left (special a) (has_attribute s a) h, rest l legal.0)
of-node-legal m k (Renaming l old new) operand legal rest = (legal.1, legal.2, rest l legal.0)
of-node-legal m k (ProjectingOut l old) operand legal rest = (legal.1, rest l legal.0)

legal-below : (file : List ℕ) (m n : ℕ) → acceptance file ≡ Accepted m n → (k : ℕ) → k ≤ n → (i : ℕ) → i < k → Legal m (expression_at file i)
legal-below file m n e zero h i below = absurd (omega arith)
legal-below file m n e (suc k) h i below = go (legal-below file m n e k (omega arith)) (eq-or-lt_of_le (le_of_suc-le-suc below))
  where
    go : ((i : ℕ) → i < k → Legal m (expression_at file i)) → (i ≡ k) ⊎ (i < k) → Legal m (expression_at file i)
    go rest (inl same) =
        let legal = nodes-legal file m n e k (omega arith) in
        let here : Legal m (expression_at file k) = subst (Legal m) (sym (expression-is file m k legal)) (of-node-legal m k (node_at file k) (expression_at file) legal rest) in
        subst (λ (j : ℕ). Legal m (expression_at file j)) (sym same) here
    go rest (inr before) = rest i before

-- every node's expression is legal
pub expression-legal : (file : List ℕ) (m n : ℕ) → acceptance file ≡ Accepted m n → (k : ℕ) → k < n → Legal m (expression_at file k)
expression-legal file m n e k h = legal-below file m n e n (le_refl n) k h

-- ---- names

-- column 0 is named by no set, and a special attribute's by its bit
pub named-is : (s : AttrSet) (c : ℕ) → Clear s → c < 16 → named s c ≡ has_attribute s c
named-is s zero clear h = let lacks = clear-lacks s clear in rw lacks (and-false (special 0))
named-is s (suc c) clear h = rw (special-in (suc c) (omega arith) (omega arith))
