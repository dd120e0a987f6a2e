-- The operation Formula (FORMAT 7.6): its answer and the work space afterwards.
use Rattle.std.specs.Prelude.{ℕ, List, length, Result}
use Rattle.bits.specs.Tab.{over}
use Rattle.expression_file.specs.ReadFile.{acceptance}
use Rattle.admission.specs.Admission.{after, spaced}
use Rattle.stored_formula.specs.FormulaBytes.{formulas_of}
use Rattle.refusal.specs.declared.Refusal.{Refusal}
use Rattle.expression_file.specs.declared.files.Header.{Header}

-- FORMAT 7.6, 8.5: 1 to 10 and then 12, for a work space of so many bytes
unfoldable pub formula_answer : List ℕ → ℕ → Result Header Refusal
formula_answer file space = spaced (acceptance file) space

-- FORMAT 7.6: the work space afterwards: the formulas, and the rest as it was; after a refusal all as it was
unfoldable pub formula_space : List ℕ → List ℕ → List ℕ
formula_space file work = after (formula_answer file (length work)) (λ r. work) (λ m n. over (formulas_of file m n) work)
