-- What the columns of a node's formula are: subsets of its m relations, and an attribute that no relation has breaks no
-- rule. By it the choice of Verdict is found.
use Rattle.std.specs.Prelude.{ℕ, ◌^◌, ◌<◌, ◌≡◌, refl, Bool, true, false, List}
use Rattle.std.proofs.Common.{sym, ◌∙◌, lit<, pow_pos}
use Rattle.std.proofs.Math.Path.{fun_ext}
use Rattle.bits.specs.Bit.{bit, bit-none}
use Rattle.algebra.specs.Cell.{plain}
use Rattle.algebra.specs.CellLaws.{cell-none}
use Rattle.algebra.specs.Expression.{Expression, Legal}
use Rattle.stored_formula.specs.ColumnPlace.{column_at}
use Rattle.stored_formula.specs.FormulaBytes.{allowed_bit, cell_column}
use Rattle.stored_formula.specs.FormulaBytesLaws.{allowed-is, allowed-below}
use Rattle.verdict_answer.specs.First.{allowed_at}
use Rattle.verdict_answer.specs.FirstLaws.{formula-cells, stored-cells}

pub record Formed (m : ℕ) (allowed : ℕ → ℕ → Bool) : Type 0 where
  -- a column allows subsets of the m relations alone
  pub below : (i s : ℕ) → i < 16 → s < 256 → allowed i s ≡ true → s < 2 ^ m
  -- column 0 allows the empty one
  pub grounded : allowed 0 0 ≡ true

-- of an expression
pub cells-formed : (m : ℕ) (e : Expression) → Legal m e → Formed m (allowed_bit m e)
cells-formed m e legal =
    let nobody : bit 0 ≡ (λ r. false) = fun_ext bit-none in
    record {
      below = λ i s h small is. allowed-below m e i s is;
      grounded = allowed-is m e 0 0 (pow_pos m) ∙ rw nobody (cell-none plain refl refl m e legal).0;
    }

-- of a formula by itself that stands in a work space at node k
pub formula-formed : (formula work : List ℕ) (k m : ℕ) → ((c : ℕ) → c < 16 → column_at formula 0 c ≡ column_at work k c) → Formed m (allowed_at work k) → Formed m (allowed_at formula 0)
formula-formed formula work k m columns formed =
    record {
      below = λ i s h small is. formed.below i s h small (sym (formula-cells formula work k columns i s h small) ∙ is);
      grounded = formula-cells formula work k columns 0 0 (lit< tt) (lit< tt) ∙ formed.grounded;
    }

-- off a work space that holds its columns
pub stored-formed : (work : List ℕ) (k m : ℕ) (e : Expression) → Legal m e → ((c : ℕ) → c < 16 → column_at work k c ≡ cell_column m e c) → Formed m (allowed_at work k)
stored-formed work k m e legal columns =
    let cells = cells-formed m e legal in
    record {
      below = λ i s h small is. cells.below i s h small (sym (stored-cells work k m e columns i s h small) ∙ is);
      grounded = stored-cells work k m e columns 0 0 (lit< tt) (lit< tt) ∙ cells.grounded;
    }
