-- Laws of Preview: the answer and the work space in each case.
use Rattle.std.specs.Prelude.{ℕ, ◌-◌, ◌*◌, ◌≤◌, ◌≡◌, refl, List, length, Ok, Err, Result}
use Rattle.std.proofs.Math.Path.{ap}
use Rattle.std.proofs.Common.{◌∙◌, arith}
use Rattle.bits.specs.Tab.{over}
use Rattle.refusal.specs.declared.Refusal.{Refusal}
use Rattle.node.specs.ReadNode.{node_of}
use Rattle.expression_file.specs.ReadFile.{acceptance, Accepted}
use Rattle.expression_file.specs.Accepted.{accepted-file}
use Rattle.expression_file.specs.Exchanged.{exchanged}
use Rattle.expression_file.proofs.Exchanged.{exchanged-accepted}
use Rattle.admission.specs.Admission.{admitted, formula_size}
use Rattle.admission.specs.AdmissionLaws.{Admits, admitted-passed}
use Rattle.edit_answer.specs.Edit.{check_record, recorded}
use Rattle.edit_answer.specs.EditLaws.{recorded-stops, recorded-passes, recorded-passed, Exchanges}
use Rattle.node_expression.specs.NodeExpression.{expression_at}
use Rattle.stored_formula.specs.FormulaBytes.{allowed_bit, formulas_of}
use Rattle.verdict_answer.specs.First.{allowed_at}
use Rattle.verdict_answer.specs.Formed.{Formed}
use Rattle.verdict_answer.specs.Verdict.{outcome_in}
use Rattle.verdict_answer.specs.VerdictLaws.{filled-formed}
use Rattle.verdict_answer.proofs.VerdictLaws.{filled-outcome}
use Rattle.verdict_answer.specs.Typability.{without_witness}
use Rattle.verdict_answer.specs.declared.Typability.{Typability}
use Rattle.preview_answer.specs.Preview.{preview_tests, preview_answer, preview_space}
use Rattle.expression_file.specs.declared.files.Header.{Header}

-- ---- the edited file

-- it is accepted
pub edited-accepted : {file : List ℕ} {k : ℕ} {replacement : List ℕ} {m n : ℕ} → Exchanges file k replacement m n → acceptance (exchanged file k replacement) ≡ Accepted m n
edited-accepted {file} {k} {replacement} {m} {n} e = exchanged-accepted file m n e.accepted k e.node replacement (node_of replacement) e.reads

-- and has a last node
pub edited-admits : {file : List ℕ} {k : ℕ} {replacement : List ℕ} {m n : ℕ} (work : List ℕ) → Exchanges file k replacement m n → n * formula_size ≤ length work → Admits (exchanged file k replacement) (n - 1) (length work) m n
edited-admits {file} work e space =
    let some = (accepted-file file _ _ e.accepted).counts.nodes.0 in
    record { accepted = edited-accepted e; node = omega arith; work_space = space }

-- ---- the answer and the work space

module _ (file : List ℕ) (k : ℕ) (replacement work : List ℕ) where
  -- what none of the tests refuses
  pub preview-passed : {m n : ℕ} → preview_tests file k replacement (length work) ≡ Accepted m n → Exchanges file k replacement m n × (n * formula_size ≤ length work)
  unfolding preview_tests
  preview-passed e =
      let judged = recorded-passed _ k replacement e in
      let admits = admitted-passed file k (length work) judged.0 in
      (record { accepted = admits.accepted; node = admits.node; reads = judged.1 }, admits.work_space)

  -- the answer and the work space are as the definitions say
  abbrev Results : Result Typability Refusal → List ℕ → Type 0
  Results t filled = (t ≡ preview_answer file k replacement (length work)) × (filled ≡ preview_space file k replacement work)

  pub preview-stops : (r : Refusal) → preview_tests file k replacement (length work) ≡ Err r → Results (Err r) work
  unfolding preview_answer preview_space
  preview-stops r e = rw e (refl, refl)

  -- where nothing is refused: the verdict by the expression of the edited file's last node
  pub preview-passes :
      {m n : ℕ}
      → preview_tests file k replacement (length work) ≡ Accepted m n
      → Results (Ok (without_witness (outcome_in m (allowed_bit m (expression_at (exchanged file k replacement) (n - 1)))))) (over (formulas_of (exchanged file k replacement) m n) work)
  unfolding preview_answer preview_space
  preview-passes e = rw e (refl, refl)

  -- ---- by the tests in turn

  -- both are known
  pub tests-are : (a b : Result Header Refusal) → b ≡ recorded a k replacement → a ≡ admitted file k (length work) → b ≡ preview_tests file k replacement (length work)
  unfolding preview_tests
  tests-are a b judged admits = judged ∙ ap (λ (x : Result Header Refusal). recorded x k replacement) admits

  module _ {m n : ℕ} (admits : admitted file k (length work) ≡ Accepted m n) where
    pub record-refuses : (r : Refusal) → check_record m k replacement ≡ Err r → Results (Err r) work
    unfolding preview_tests
    record-refuses r e = preview-stops r (recorded-stops _ k replacement r admits e)

    pub record-accepted : {size : ℕ} → check_record m k replacement ≡ Ok size → preview_tests file k replacement (length work) ≡ Accepted m n
    unfolding preview_tests
    record-accepted e = recorded-passes _ k replacement admits e

  -- ---- off the work space, once it is filled

  module _ {m n : ℕ} (passes : preview_tests file k replacement (length work) ≡ Accepted m n) (filled : List ℕ) (is : filled ≡ over (formulas_of (exchanged file k replacement) m n) work) where
    last-admits : Admits (exchanged file k replacement) (n - 1) (length work) m n
    last-admits = let passed = preview-passed passes in edited-admits work passed.0 passed.1

    pub last-formed : Formed m (allowed_at filled (n - 1))
    last-formed = filled-formed (exchanged file k replacement) (n - 1) work filled m n last-admits is

    pub preview-goes : (t : Typability) → t ≡ without_witness (outcome_in m (allowed_at filled (n - 1))) → Results (Ok t) filled
    preview-goes t said =
        let same = (filled-outcome (exchanged file k replacement) (n - 1) work filled m n last-admits is).0 in
        let results = preview-passes passes in
        (ap Ok (said ∙ ap without_witness same) ∙ results.0, is ∙ results.1)
