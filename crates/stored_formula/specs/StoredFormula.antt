-- Demand 3 on the stored bytes: the formula of a node of an accepted file, read off the work space as
-- Formula and Verdict leave it.
use Rattle.std.specs.Prelude.{ℕ, ◌*◌, ◌^◌, ◌≤◌, ◌<◌, ◌≡◌, ◌↔◌, true, false, List, length}
use Rattle.std.proofs.Common.{sym, ap, ◌∙◌, lt_of_lt_of_le, lt_trans, pow_mono}
use Rattle.bits.specs.Tab.{over}
use Rattle.types.specs.Types.{Attrs, IsType, Assignment, IsAssignment, Filled}
use Rattle.algebra.specs.Expression.{Expression}
use Rattle.algebra.specs.Rules.{Typed}
use Rattle.principal.specs.Formula.{Formula, Fits}
use Rattle.principal.specs.Instantiation.{Instantiation, InImage, HasImage, HasOutput, FilledImage}
use Rattle.principal.specs.Principal as Principal
use Rattle.principal.proofs.Principal as Theorem
use Rattle.expression_file.specs.ReadFile.{node_at, acceptance, Accepted}
use Rattle.expression_file.specs.Accepted.{accepted-file}
use Rattle.expression_file.specs.Walk.{nodes-legal}
use Rattle.column.specs.Column.{allowed_in, output_in}
use Rattle.stored_formula.specs.ColumnPlace.{column_at}
use Rattle.node_expression.specs.NodeExpression.{expression_at, expression-is, expression-legal}
use Rattle.stored_formula.specs.FormulaBytes.{allowed_bit, output_bit, cell_column, formulas_of}
use Rattle.stored_formula.specs.FormulaBytesLaws.{stored-column, allowed-is, allowed-above, output-is, output-within}
use Rattle.stored_formula.specs.NodeColumn.{node_columns, cell-allowed, cell-output, node-cells}
use Rattle.admission.specs.Admission.{formula_size}

-- FORMAT 3.12: the formula of node k that stands in a work space, for m relations
abbrev pub formula_in : List ℕ → ℕ → ℕ → Formula
formula_in work m k =
    record {
      relations = m;
      allowed = λ c s. allowed_in (column_at work k c) s;
      output = λ c s. output_in (column_at work k c) s;
    }

-- a node of an accepted file, and a work space that is long enough
module _ (file : List ℕ) (m n : ℕ) (accepted : acceptance file ≡ Accepted m n) (work : List ℕ) (enough : n * formula_size ≤ length work) (k : ℕ) (node : k < n) where
  -- the work space once it is filled from the file
  abbrev pub filled : List ℕ
  filled = over (formulas_of file m n) work

  -- ---- each stored bit is the cell

  pub stored-allowed : (c s : ℕ) → c < 16 → s < 256 → allowed_in (column_at filled k c) s ≡ allowed_bit m (expression_at file k) c s
  stored-allowed c s hc hs = ap (λ (l : List ℕ). allowed_in l s) (stored-column file work m n enough k c node hc) ∙ cell-allowed m (expression_at file k) c s hs

  pub stored-output : (c s : ℕ) → c < 16 → s < 256 → output_in (column_at filled k c) s ≡ output_bit m (expression_at file k) c s
  stored-output c s hc hs = ap (λ (l : List ℕ). output_in l s) (stored-column file work m n enough k c node hc) ∙ cell-output m (expression_at file k) c s hs

  -- FORMAT 3.11: column c is what the node's operator makes of its operands' columns, as they stand there
  pub stored-node : (c : ℕ) → c < 16 → column_at filled k c ≡ node_columns (2 ^ m) (node_at file k) filled c
  stored-node c hc =
      let legal = nodes-legal file m n accepted k node in
      stored-column file work m n enough k c node hc
      ∙ ap (λ (e : Expression). cell_column m e c) (expression-is file m k legal)
      ∙ sym (node-cells m k c (node_at file k) (λ l. column_at filled l c) (expression_at file) hc legal
      (λ l below. stored-column file work m n enough l c (lt_trans below node) hc))

  -- FORMAT 3.8: bits from 2^m up are clear
  pub stored-above : (c s : ℕ) → c < 16 → 2 ^ m ≤ s → s < 256 → allowed_in (column_at filled k c) s ≡ false
  stored-above c s hc above hs = stored-allowed c s hc hs ∙ allowed-above m (expression_at file k) c s above

  -- FORMAT 3.8: output bits stand only where s is allowed
  pub stored-within : (c s : ℕ) → c < 16 → s < 256 → output_in (column_at filled k c) s ≡ true → allowed_in (column_at filled k c) s ≡ true
  stored-within c s hc hs h = stored-allowed c s hc hs ∙ output-within m (expression_at file k) c s (sym (stored-output c s hc hs) ∙ h)

  subsets-few : 2 ^ m ≤ 256
  subsets-few = pow_mono {j = 8} (accepted-file file m n accepted).counts.relations.1

  pub is-formula : Principal.FormulaOf (expression_at file k) (formula_in filled m k)
  is-formula =
      record {
        allowed = λ c s hc hs. stored-allowed c s hc (lt_of_lt_of_le hs subsets-few) ∙ allowed-is m (expression_at file k) c s hs;
        output = λ c s hc hs. stored-output c s hc (lt_of_lt_of_le hs subsets-few) ∙ output-is m (expression_at file k) c s hs;
      }

  -- the rules give the node the type t under A exactly when each attribute's subset is allowed in its column, and t has
  -- those whose output bit stands
  pub typed-fits : (A : Assignment) (t : Attrs) → Typed A (expression_at file k) t ↔ ((a : ℕ) → Fits (formula_in filled m k) A t a)
  typed-fits = Theorem.typed-fits (expression_at file k) (formula_in filled m k) (expression-legal file m n accepted k node) is-formula

  -- ---- demand 3

  -- principal: the rules give the node the type t under A exactly when an instantiation of its stored formula
  -- has that image and output t
  pub principal : (A : Assignment) → IsAssignment m A → (t : Attrs) → IsType t → Typed A (expression_at file k) t ↔ ((I : Instantiation (formula_in filled m k)) × (HasImage I A × HasOutput I t))
  principal = Theorem.principal (expression_at file k) (formula_in filled m k) (expression-legal file m n accepted k node) is-formula

  -- principal with filled relations: the same for filled assignments and the instantiations whose image is filled
  pub principal-filled :
      (A : Assignment)
      → IsAssignment m A
      → (t : Attrs)
      → IsType t
      → Filled m A × Typed A (expression_at file k) t ↔ ((I : Instantiation (formula_in filled m k)) × (FilledImage I × (HasImage I A × HasOutput I t)))
  principal-filled = Theorem.principal-filled (expression_at file k) (formula_in filled m k) (expression-legal file m n accepted k node) is-formula

  -- unique: no two instantiations have one image
  pub unique : (I J : Instantiation (formula_in filled m k)) → ((r : ℕ) → r < m → (a : ℕ) → InImage I r a ↔ InImage J r a) → I ≡ J
  unique = Theorem.unique (expression_at file k) (formula_in filled m k) (expression-legal file m n accepted k node) is-formula
