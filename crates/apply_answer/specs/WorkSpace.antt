-- The work space after Apply (FORMAT 8.6): the formulas, as Formula leaves them, where Apply got as far as reading
-- them; else as it was.
use Rattle.std.specs.Prelude.{ℕ, ◌≤◌, ◌≡◌, Bool, true, false, cond, ◌||◌, List, eqb, length, Result, Err, Ok}
use Rattle.std.proofs.Math.Path.{refl}
use Rattle.std.proofs.Common.{sym, ap, ap₂, ◌∙◌, arith, ne_eqb}
use Rattle.bits.specs.Tab.{over}
use Rattle.refusal.specs.Chain.{refuse-has}
use Rattle.refusal.specs.Number.{number_of}
use Rattle.refusal.specs.declared.Refusal.{Refusal}
use Rattle.refusal.specs.declared.Refusal.TheVariants.{TypeVariable, SpecialSubset, EmptyImage}
use Rattle.admission.specs.Admission.{after, sliced, admitted}
use Rattle.admission.specs.AdmissionLaws.{sliced-passed, sliced-number, admitted-number}
use Rattle.algebra.specs.Expression.{Expression}
use Rattle.node_expression.specs.NodeExpression.{expression_at}
use Rattle.stored_formula.specs.FormulaBytes.{formulas_of}
use Rattle.stored_formula.specs.Formula.{formula_space}
use Rattle.stored_formula.specs.FormulaLaws.{admitted-space}
use Rattle.schema.specs.Schema.{schema_size}
use Rattle.instantiation.specs.Instantiation.{instantiation_reading}
use Rattle.instantiation.specs.TableLaws.{reading-number}
use Rattle.typing_answer.specs.Typing.{after_schema}
use Rattle.apply_answer.specs.Apply.{table_applied, read_applied, read_space, apply_answer, apply_space, Applied}
use Rattle.type_record.specs.Record.{output_size}
use Rattle.expression_file.specs.declared.files.Header.{Header}
use Rattle.expression_file.specs.ReadFile.{Accepted}
use Rattle.schema.specs.Judgement.{Judgement, Read, Refused as ReadRefused}
use Rattle.apply_answer.specs.declared.Application.{Application}

-- ---- which answers come with a work space that is filled

-- FORMAT 8.6: the refusals with which the work space is filled, 20, 21 and 26
abbrev pub refusal_fills : Refusal → Bool
refusal_fills r = eqb (number_of r) 20 || (eqb (number_of r) 21 || eqb (number_of r) 26)

-- FORMAT 8.6: the answers of Apply with which it is filled
abbrev pub apply_fills : Result Application Refusal → Bool
apply_fills (Ok a) = true
apply_fills (Err r) = refusal_fills r

-- an earlier refusal does not
early-leaves : (r : Refusal) → number_of r ≤ 19 → refusal_fills r ≡ false
early-leaves r most =
    ap₂ ◌||◌ (ne_eqb (number_of r) 20 (λ e. omega arith)) (ap₂ ◌||◌ (ne_eqb (number_of r) 21 (λ e. omega arith)) (ne_eqb (number_of r) 26 (λ e. omega arith)))

-- ---- it is filled

-- whatever a table gives, the work space was filled before
table-fills : (m : ℕ) (e : Expression) (subsets entries : List ℕ) → apply_fills (table_applied m e subsets entries) ≡ true
unfolding table_applied
table-fills m e subsets entries =
    refuse-has (λ (a : Result Application Refusal). apply_fills a ≡ true) Err _ TypeVariable _ refl
    (λ variables. refuse-has (λ (a : Result Application Refusal). apply_fills a ≡ true) Err _ SpecialSubset _ refl
    (λ specials. refuse-has (λ (a : Result Application Refusal). apply_fills a ≡ true) Err _ EmptyImage _ refl (λ filled. refl)))

module _ (file : List ℕ) (k : ℕ) (bytes work : List ℕ) (size out_size : ℕ) where
  pub apply-space : apply_space file k bytes work size out_size ≡ cond (apply_fills (apply_answer file k bytes (length work) size out_size)) (formula_space file work) work
  unfolding apply_space apply_answer read_space read_applied
  apply-space = admission (sliced (sliced (admitted file k (length work)) size schema_size) out_size output_size) refl
    where
      number : (r : Refusal) → sliced (sliced (admitted file k (length work)) size schema_size) out_size output_size ≡ Err r → number_of r ≤ 19
      number =
          sliced-number (sliced (admitted file k (length work)) size schema_size) out_size output_size 19 (omega arith)
          (sliced-number (admitted file k (length work)) size schema_size 19 (omega arith) (λ r e. let most = admitted-number file k (length work) r e in omega arith))

      read :
          (m n : ℕ)
          → admitted file k (length work) ≡ Accepted m n
          → (j : Judgement)
          → (instantiation_reading bytes).judgement ≡ j
          → after_schema j (λ r. work) (over (formulas_of file m n) work)
          ≡ cond
          (apply_fills
          (after_schema j Err
          (table_applied m (expression_at file k) (instantiation_reading bytes).subsets
          (instantiation_reading bytes).entries)))
          (formula_space file work) work
      read m n admits (ReadRefused r) is = sym (ap (λ (t : Bool). cond t (formula_space file work) work) (early-leaves r (reading-number bytes r is)))
      read m n admits Read is =
          admitted-space file k work m n admits
          ∙ sym (ap (λ (t : Bool). cond t (formula_space file work) work) (table-fills m (expression_at file k) (instantiation_reading bytes).subsets (instantiation_reading bytes).entries))

      admission :
          (a : Result Header Refusal)
          → sliced (sliced (admitted file k (length work)) size schema_size) out_size output_size ≡ a
          → after a (λ r. work) (λ m n. after_schema (instantiation_reading bytes).judgement (λ r. work) (over (formulas_of file m n) work))
          ≡ cond
          (apply_fills
          (after a Err
          (λ m n. after_schema (instantiation_reading bytes).judgement Err
          (table_applied m (expression_at file k) (instantiation_reading bytes).subsets
          (instantiation_reading bytes).entries))))
          (formula_space file work) work
      admission (Err r) is = sym (ap (λ (t : Bool). cond t (formula_space file work) work) (early-leaves r (number r is)))
      admission (Ok h) is =
          read h.relations h.nodes
          (sliced-passed (admitted file k (length work)) size schema_size
          (sliced-passed (sliced (admitted file k (length work)) size schema_size) out_size output_size is).0).0
          (instantiation_reading bytes).judgement refl
