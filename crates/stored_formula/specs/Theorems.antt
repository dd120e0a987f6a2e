-- What Formula promises about types, over the typing rules (FORMAT 2.6 to 2.14): demand 3 (FORMAT 6.9), for every
-- accepted file, every node, every filled assignment of types and every type; and the same without the condition that
-- assignments are filled (FORMAT 6.8). A reader needs, besides this page:
--   Typed            the typing rules                                       (crate algebra, Rules)
--   IsType, Assignment, IsAssignment, Filled   types and assignments        (crate types, Types)
--   Instantiation, HasImage, HasOutput, FilledImage   instantiations, image and output   (crate principal, Instantiation)
--   expression_at     the expression of a node                               (crate node_expression, NodeExpression)
--   formula_in        the formula that stands in a work space                (StoredFormula)
--   formula_space     what Formula leaves, by its contract                   (Formula)
use Rattle.std.specs.Prelude.{ℕ, ◌*◌, ◌≤◌, ◌<◌, ◌≡◌, ◌↔◌, List, length}
use Rattle.bits.specs.Tab.{over}
use Rattle.types.specs.Types.{Attrs, IsType, Assignment, IsAssignment, Filled}
use Rattle.algebra.specs.Rules.{Typed}
use Rattle.principal.specs.Instantiation.{Instantiation, InImage, HasImage, HasOutput, FilledImage}
use Rattle.expression_file.specs.ReadFile.{acceptance, Accepted}
use Rattle.node_expression.specs.NodeExpression.{expression_at}
use Rattle.stored_formula.specs.FormulaBytes.{formulas_of}
use Rattle.stored_formula.specs.Formula.{formula_space}
use Rattle.stored_formula.specs.FormulaLaws.{answer-filled, space-filled}
use Rattle.stored_formula.specs.StoredFormula as Stored
use Rattle.stored_formula.specs.StoredFormula.{formula_in}
use Rattle.admission.specs.Admission.{formula_size}

-- node k of an accepted file with m relations and n nodes
module _ (file : List ℕ) (m n : ℕ) (accepted : acceptance file ≡ Accepted m n) (k : ℕ) (node : k < n) where
  -- ---- Formula: a work space that is long enough, as Formula leaves it

  module _ (work : List ℕ) (enough : n * formula_size ≤ length work) where
    space : formula_space file work ≡ over (formulas_of file m n) work
    space = space-filled file work m n (answer-filled file (length work) m n accepted enough)

    -- principal with filled relations: A is filled and the rules give the node the type t under it exactly when an
    -- instantiation of its stored formula whose image is filled has that image and that output
    pub principal-filled :
        (A : Assignment)
        → IsAssignment m A
        → (t : Attrs)
        → IsType t
        → Filled m A × Typed A (expression_at file k) t ↔ ((I : Instantiation (formula_in (formula_space file work) m k)) × (FilledImage I × (HasImage I A × HasOutput I t)))
    principal-filled A types t type = rw space (Stored.principal-filled file m n accepted work enough k node A types t type)

    -- principal, filled or not: the rules give the node the type t under A exactly when an instantiation of its stored
    -- formula has that image and that output
    pub principal : (A : Assignment) → IsAssignment m A → (t : Attrs) → IsType t → Typed A (expression_at file k) t ↔ ((I : Instantiation (formula_in (formula_space file work) m k)) × (HasImage I A × HasOutput I t))
    principal A types t type = rw space (Stored.principal file m n accepted work enough k node A types t type)

    -- unique: no two instantiations have one image, filled or not
    pub unique : (I J : Instantiation (formula_in (formula_space file work) m k)) → ((r : ℕ) → r < m → (a : ℕ) → InImage I r a ↔ InImage J r a) → I ≡ J
    unique = rw space (Stored.unique file m n accepted work enough k node)
