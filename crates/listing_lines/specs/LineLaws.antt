-- The lines off the columns in the work space are the lines of the text.
use Rattle.std.specs.Prelude.{ℕ, ◌+◌, ◌-◌, ◌≤◌, ◌<◌, ◌≡◌, refl, Bool, true, false, cond, ◌&&◌, ltb}
use Rattle.std.proofs.Common.{sym, ◌∙◌, arith, lit<}
use Rattle.std.proofs.Math.Path.{ap, ap₂}
use mathlib.Core.List.{List, [], ◌∷◌, ◌++◌, append-nil}
use Rattle.bits.specs.Bit.{bit}
use Rattle.attribute_set.specs.declared.AttrSet.{AttrSet}
use Rattle.attribute_set.specs.AttrSet.{has_attribute}
use Rattle.algebra.specs.Expression.{Expression}
use Rattle.states.specs.Formula.{type_variable}
use Rattle.expression_file.specs.ReadFile.{node_at}
use Rattle.node_expression.specs.NodeExpression.{expression_at}
use Rattle.stored_formula.specs.ColumnPlace.{column_at}
use Rattle.stored_formula.specs.FormulaBytes.{allowed_bit, output_bit, cell_column}
use Rattle.stored_formula.specs.FormulaBytesLaws.{output-within}
use Rattle.stored_formula.specs.NodeColumn.{cell-allowed, cell-output}
use Rattle.verdict_answer.specs.First.{allowed_at}
use Rattle.verdict_answer.specs.FirstLaws.{formula-cells, stored-cells}
use Rattle.verdict_answer.proofs.VerdictLaws.{same-untypable}
use Rattle.listing_entries.specs.declared.entries.Kind.TheVariants.{Variables, Output, Signed}
use Rattle.text.specs.Characters.{decimal, subset_text, newline}
use Rattle.text.specs.Each.{each, each_same}
use Rattle.listing_entries.specs.Entries.{when_so, list_text, entry-text}
use Rattle.listing_lines.specs.Text.{is_said, untypable_by, is_untypable, verdict_text, node_line, relation_line, out_line, attribute_line, listing}
use Rattle.listing_lines.specs.Lines.{node_text, label, line_text, relation_text, out_text, attribute_text, attributes_text, lines_text, formula_lines}
use Rattle.listing_entries.specs.Naming.{named_below, Named, named-is}

-- ---- lists off an expression's columns

module _ (m : ℕ) (e : Expression) where
  variables-list : (r : ℕ) → list_text (Variables r) (cell_column m e 0) ≡ each 256 (λ s. when_so (type_variable (allowed_bit m e 0) s && bit s r) (subset_text s))
  variables-list r = each_same 256 _ _ (λ s h. entry-text (Variables r) (cell_column m e 0) s ∙ rw (cell-allowed m e 0 s h, append-nil))

  -- a subset in the output of column 0 is allowed in it
  output-variable : (s : ℕ) → ltb 0 s && output_bit m e 0 s ≡ type_variable (allowed_bit m e 0) s && output_bit m e 0 s
  output-variable s = go (ltb 0 s) (allowed_bit m e 0 s) (output_bit m e 0 s) (output-within m e 0 s)
    where
      go : (some allowed output : Bool) → (output ≡ true → allowed ≡ true) → some && output ≡ (some && allowed) && output
      go false allowed output within = refl
      go true true output within = refl
      go true false true within = sym (within refl)
      go true false false within = refl

  output-list : list_text Output (cell_column m e 0) ≡ each 256 (λ s. when_so (type_variable (allowed_bit m e 0) s && output_bit m e 0 s) (subset_text s))
  output-list = each_same 256 _ _ (λ s h. entry-text Output (cell_column m e 0) s ∙ rw (cell-output m e 0 s h, append-nil, output-variable s))

  signed-list : (i : ℕ) → list_text Signed (cell_column m e i) ≡ each 256 (λ s. when_so (allowed_bit m e i s) (subset_text s ++ (cond (output_bit m e i s) 43 45 ∷ [])))
  signed-list i = each_same 256 _ _ (λ s h. entry-text Signed (cell_column m e i) s ∙ rw (cell-allowed m e i s h, cell-output m e i s h))

  relation-line : (r : ℕ) → relation_text (cell_column m e 0) r ≡ relation_line m e r
  unfolding relation_text line_text label relation_line
  relation-line r = ap (λ (l : List ℕ). (114 ∷ []) ++ decimal r ++ (58 ∷ []) ++ l ++ newline) (variables-list r)

  out_line_lem : out_text (cell_column m e 0) ≡ out_line m e
  unfolding out_text out_line
  out_line_lem = ap (λ (l : List ℕ). (111 ∷ 117 ∷ 116 ∷ 58 ∷ []) ++ l ++ newline) output-list

  attribute-line : (i : ℕ) → line_text 97 i Signed (cell_column m e i) ≡ attribute_line m e i
  unfolding line_text label attribute_line
  attribute-line i = ap (λ (l : List ℕ). (97 ∷ []) ++ decimal i ++ (58 ∷ []) ++ l ++ newline) (signed-list i)

-- ---- lines off a work space that holds the columns of expression e at a node

module _ (work : List ℕ) (node m : ℕ) (few : m ≤ 8) (e : Expression) (columns : (c : ℕ) → c < 16 → column_at work node c ≡ cell_column m e c) where
  untypable-same : untypable_by m (allowed_at work node) ≡ is_untypable m e
  unfolding is_untypable
  untypable-same = ap is_said (same-untypable m few (allowed_at work node) (allowed_bit m e) (stored-cells work node m e columns))

  node-line : node_text (untypable_by m (allowed_at work node)) node ≡ node_line m e node
  unfolding node_text node_line
  node-line = ap (λ (b : Bool). (110 ∷ 111 ∷ 100 ∷ 101 ∷ 32 ∷ []) ++ decimal node ++ verdict_text b ++ newline) untypable-same

  relation-lines : each m (relation_text (column_at work node 0)) ≡ each m (relation_line m e)
  relation-lines = each_same m _ _ (λ r h. ap (λ (column : List ℕ). relation_text column r) (columns 0 (omega arith)) ∙ relation-line m e r)

  attribute-lines : (named : AttrSet) (test : ℕ → Bool) → ((i : ℕ) → 1 ≤ i → i ≤ 15 → has_attribute named i ≡ test i) → attributes_text work node named ≡ each 15 (λ j. when_so (test (j + 1)) (attribute_line m e (j + 1)))
  unfolding attributes_text attribute_text
  attribute-lines named test same =
      each_same 15 _ _
      (λ j h. ap₂ when_so (same (j + 1) (omega arith) (omega arith))
      (ap (line_text 97 (j + 1) Signed) (columns (j + 1) (omega arith)) ∙ attribute-line m e (j + 1)))

pub lines_are :
    (file work : List ℕ) (m n : ℕ) (named : AttrSet)
    → m ≤ 8
    → ((c : ℕ) → c < 16 → column_at work (n - 1) c ≡ cell_column m (expression_at file (n - 1)) c)
    → Named (node_at file) n named
    → lines_text work m (n - 1) named ≡ listing file m n
unfolding lines_text listing
lines_are file work m n named few columns named_in =
    let e = expression_at file (n - 1) in
    ap₂ ◌++◌
    (ap₂ ◌++◌
    (ap₂ ◌++◌ (node-line work (n - 1) m few e columns) (relation-lines work (n - 1) m few e columns))
    (ap out_text (columns 0 (omega arith)) ∙ out_line_lem m e))
    (attribute-lines work (n - 1) m few e columns named (named_below (node_at file) n) (named-is (node_at file) n named named_in))

-- the lines off a formula by itself are those off the work space in which it stands at node k
pub lines-alone :
    (formula work : List ℕ) (k m : ℕ) (named : AttrSet)
    → m ≤ 8
    → ((c : ℕ) → c < 16 → column_at formula 0 c ≡ column_at work k c)
    → formula_lines formula m k named ≡ lines_text work m k named
unfolding formula_lines lines_text attributes_text attribute_text
lines-alone formula work k m named few columns =
    ap₂ ◌++◌
    (ap₂ ◌++◌
    (ap₂ ◌++◌
    (ap (λ (a : ℕ). node_text (is_said a) k) (same-untypable m few (allowed_at formula 0) (allowed_at work k) (formula-cells formula work k columns)))
    (ap (λ (l : List ℕ). each m (relation_text l)) (columns 0 (lit< tt))))
    (ap out_text (columns 0 (lit< tt))))
    (each_same 15 _ _ (λ j h. ap (λ (l : List ℕ). when_so (has_attribute named (j + 1)) (line_text 97 (j + 1) Signed l)) (columns (j + 1) (omega arith))))
