-- The work space after Verdict, whatever it answers (FORMAT 8.6): the formulas, as Formula leaves them, unless it
-- refuses.
use Rattle.std.specs.Prelude.{ℕ, ◌≡◌, refl, Bool, true, false, cond, List, ltb, length, Result, Err, Ok}
use Rattle.std.proofs.Common.{sym, ap, ◌∙◌}
use Rattle.bits.specs.Tab.{over}
use Rattle.admission.specs.Admission.{after, sliced, admitted}
use Rattle.admission.specs.AdmissionLaws.{sliced-passed}
use Rattle.node_expression.specs.NodeExpression.{expression_at}
use Rattle.stored_formula.specs.FormulaBytes.{allowed_bit, formulas_of}
use Rattle.stored_formula.specs.Formula.{formula_space}
use Rattle.stored_formula.specs.FormulaLaws.{admitted-space}
use Rattle.schema.specs.Schema.{schema_size}
use Rattle.verdict_answer.specs.Witness.{cost_in, choice_in, witness_bytes}
use Rattle.verdict_answer.specs.Verdict.{untypable_in, outcome, outcome_in, verdict_answer, verdict_space}
use Rattle.verdict_answer.specs.declared.Outcome.{Outcome}
use Rattle.verdict_answer.specs.declared.Outcome.TheVariants.{Typable, Untypable}
use Rattle.refusal.specs.declared.Refusal.{Refusal}
use Rattle.expression_file.specs.declared.files.Header.{Header}
use Rattle.expression_file.specs.ReadFile.{Accepted}

-- FORMAT 8.6: which answers come with a work space that is filled: all but refusals
abbrev pub verdict_fills : Result Outcome Refusal → Bool
verdict_fills (Ok o) = true
verdict_fills (Err r) = false

outcome-fills : (m : ℕ) (allowed : ℕ → ℕ → Bool) → verdict_fills (Ok (outcome_in m allowed)) ≡ true
outcome-fills m allowed = refl

pub verdict-space : (file : List ℕ) (k : ℕ) (work : List ℕ) (size : ℕ) → verdict_space file k work size ≡ cond (verdict_fills (verdict_answer file k (length work) size)) (formula_space file work) work
unfolding verdict_space verdict_answer
verdict-space file k work size = go (sliced (admitted file k (length work)) size schema_size) refl
  where
    go :
        (a : Result Header Refusal)
        → sliced (admitted file k (length work)) size schema_size ≡ a
        → after a (λ r. work) (λ m n. over (formulas_of file m n) work)
        ≡ cond (verdict_fills (after a Err (λ m n. Ok (outcome_in m (allowed_bit m (expression_at file k)))))) (formula_space file work) work
    go (Err r) is = refl
    go (Ok h) is = admitted-space file k work h.relations h.nodes (sliced-passed (admitted file k (length work)) size schema_size is).0
