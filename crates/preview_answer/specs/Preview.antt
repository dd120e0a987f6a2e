-- Preview: the verdict of the last node of the edited file, without its witness (FORMAT 7.28).
use Rattle.std.specs.Prelude.{ℕ, ◌-◌, List, length, Result, Ok, Err}
use Rattle.bits.specs.Tab.{over}
use Rattle.expression_file.specs.Exchanged.{exchanged}
use Rattle.admission.specs.Admission.{after, admitted}
use Rattle.edit_answer.specs.Edit.{recorded}
use Rattle.node_expression.specs.NodeExpression.{expression_at}
use Rattle.stored_formula.specs.FormulaBytes.{allowed_bit, formulas_of}
use Rattle.verdict_answer.specs.Verdict.{outcome_in}
use Rattle.verdict_answer.specs.Typability.{without_witness}
use Rattle.verdict_answer.specs.declared.Typability.{Typability}
use Rattle.refusal.specs.declared.Refusal.{Refusal}
use Rattle.expression_file.specs.declared.files.Header.{Header}

-- FORMAT 8.5: 1 to 12, and then the record
unfoldable pub preview_tests : List ℕ → ℕ → List ℕ → ℕ → Result Header Refusal
preview_tests file k replacement space = recorded (admitted file k space) k replacement

-- FORMAT 7.28: the answer, for a work space of so many bytes
unfoldable pub preview_answer : List ℕ → ℕ → List ℕ → ℕ → Result Typability Refusal
preview_answer file k replacement space = after (preview_tests file k replacement space) Err (λ m n. Ok (without_witness (outcome_in m (allowed_bit m (expression_at (exchanged file k replacement) (n - 1))))))

-- FORMAT 7.28, 8.6: the work space afterwards
unfoldable pub preview_space : List ℕ → ℕ → List ℕ → List ℕ → List ℕ
preview_space file k replacement work = after (preview_tests file k replacement (length work)) (λ r. work) (λ m n. over (formulas_of (exchanged file k replacement) m n) work)
