-- The work space after Recover (FORMAT 8.6): the formulas, as Formula leaves them, where Recover got as far as reading
-- them; else as it was.
use Rattle.std.specs.Prelude.{ℕ, ◌≡◌, Bool, true, false, List, length, Result, Err, Option, Ok, Some, None}
use Rattle.std.proofs.Math.Path.{refl, sym}
use Rattle.std.proofs.Common.{ap, ◌∙◌}
use Rattle.std.proofs.Math.Bool.{cond}
use Rattle.admission.specs.Admission.{after, sliced, admitted}
use Rattle.admission.specs.AdmissionLaws.{sliced-passed}
use Rattle.algebra.specs.Expression.{Expression}
use Rattle.node_expression.specs.NodeExpression.{expression_at}
use Rattle.stored_formula.specs.Formula.{formula_space}
use Rattle.stored_formula.specs.FormulaLaws.{admitted-space}
use Rattle.filled_schema.specs.FilledSchema.{filled_reading}
use Rattle.instantiation.specs.Instantiation.{instantiation_size}
use Rattle.typing_answer.specs.Typing.{after_schema}
use Rattle.apply_answer.specs.Apply.{read_space}
use Rattle.recover_answer.specs.Recover.{fits, recovered, table_recovered, read_recovered, recover_answer, recover_space, Recovered, Untyped}
use Rattle.apply_answer.specs.ApplyLaws.{space-stops, space-goes}
use Rattle.refusal.specs.declared.Refusal.{Refusal}
use Rattle.expression_file.specs.declared.files.Header.{Header}
use Rattle.expression_file.specs.ReadFile.{Accepted}
use Rattle.schema.specs.Judgement.{Judgement, Read, Refused as ReadRefused}

-- FORMAT 8.6: the answers of Recover with which the work space is filled
abbrev pub recover_fills : Result (Option ℕ) Refusal → Bool
recover_fills (Ok a) = true
recover_fills (Err r) = false

-- whatever a table gives, the work space was filled before
table-recovers : (m : ℕ) (e : Expression) (special entries : List ℕ) → recover_fills (Ok (table_recovered m e special entries)) ≡ true
table-recovers m e special entries = refl

module _ (file : List ℕ) (k : ℕ) (bytes work : List ℕ) (size : ℕ) where
  pub recover-space : recover_space file k bytes work size ≡ cond (recover_fills (recover_answer file k bytes (length work) size)) (formula_space file work) work
  unfolding recover_space recover_answer read_recovered
  recover-space = admission (sliced (admitted file k (length work)) size instantiation_size) refl
    where
      read :
          (m n : ℕ)
          → admitted file k (length work) ≡ Accepted m n
          → (j : Judgement)
          → read_space file m n j work
          ≡ cond
          (recover_fills
          (after_schema j Err
          (Ok (table_recovered m (expression_at file k) (filled_reading m bytes).special (filled_reading m bytes).entries))))
          (formula_space file work) work
      read m n admits (ReadRefused r) = sym (space-stops file m n (ReadRefused r) work r refl)
      read m n admits Read =
          sym (space-goes file m n Read work refl) ∙ admitted-space file k work m n admits

      admission :
          (a : Result Header Refusal)
          → sliced (admitted file k (length work)) size instantiation_size ≡ a
          → after a (λ r. work) (λ m n. read_space file m n (filled_reading m bytes).judgement work)
          ≡ cond
          (recover_fills
          (after a Err
          (λ m n. after_schema (filled_reading m bytes).judgement Err
          (Ok (table_recovered m (expression_at file k) (filled_reading m bytes).special (filled_reading m bytes).entries)))))
          (formula_space file work) work
      admission (Err r) is = refl
      admission (Ok h) is = read h.relations h.nodes (sliced-passed (admitted file k (length work)) size instantiation_size is).0 (filled_reading h.relations bytes).judgement
