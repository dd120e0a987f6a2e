-- Laws of Recover: what the code finds is what the definitions say, the results after each refusal, and after none.
use Rattle.std.specs.Prelude.{ℕ, ◌≡◌, Bool, true, false, ◌&&◌, List, length, get_or, take, Err, Result, Option, Some, None, Ok}
use Rattle.std.proofs.Math.Path.{refl}
use Rattle.std.proofs.Common.{sym, ap, ap₂, ◌∙◌}
use Rattle.std.proofs.Math.Bool.{and-false}
use Rattle.bits.specs.AllBelow.{all_below}
use Rattle.bits.specs.Tab.{over}
use Rattle.refusal.specs.declared.Refusal.{Refusal}
use Rattle.admission.specs.Admission.{sliced, admitted}
use Rattle.algebra.specs.Expression.{Expression}
use Rattle.states.specs.Formula.{type_variable}
use Rattle.column.specs.Column.{allowed_in}
use Rattle.node_expression.specs.NodeExpression.{expression_at}
use Rattle.stored_formula.specs.ColumnPlace.{column_at}
use Rattle.stored_formula.specs.FormulaBytes.{formulas_of}
use Rattle.membership.specs.Entries.{subset_of}
use Rattle.schema.specs.Schema.{Schema, WritesFrom as TableWrites}
use Rattle.filled_schema.specs.FilledSchema.{filled_reading}
use Rattle.special_maps.specs.Special.{subsets_from}
use Rattle.instantiation.specs.Instantiation.{lists_of, instantiation_bytes, WritesFrom, instantiation_size}
use Rattle.special_maps.specs.SpecialLaws.{subsets-small, subsets-size}
use Rattle.fitting.specs.StoredFit.{specials_allowed}
use Rattle.fitting.specs.Fit.{entries_fit, specials_fit, specials-stored}
use Rattle.apply_answer.specs.Apply.{read_space}
use Rattle.apply_answer.specs.ApplyLaws.{Filled, entries-tested, space-stops, space-goes}
use Rattle.recover_answer.specs.Recover.{fits, recovered_bytes, table_recovered, table_instantiation, read_recovered, read_instantiation, recover_answer, recover_space, recover_out, Recovered, Untyped}
use Rattle.expression_file.specs.ReadFile.{Accepted}
use Rattle.schema.specs.Judgement.{Read, Refused as ReadRefused}

-- ---- what a table gives: the answer and the instantiation

module _ (m : ℕ) (e : Expression) (special entries : List ℕ) where
  pub recovered-fits :
      (out : List ℕ)
      → fits m e special entries ≡ true
      → (table_recovered m e special entries ≡ Some (length (recovered_bytes special entries)))
      × (table_instantiation m e special entries out ≡ over (recovered_bytes special entries) out)
  unfolding table_recovered table_instantiation
  recovered-fits out fit = rw fit (refl, refl)

  pub recovered-refused : (out : List ℕ) → fits m e special entries ≡ false → (table_recovered m e special entries ≡ None) × (table_instantiation m e special entries out ≡ out)
  unfolding table_recovered table_instantiation
  recovered-refused out no-fit = rw no-fit (refl, refl)

-- ---- over a table

module _ (file : List ℕ) (m k : ℕ) (work special items : List ℕ) (count : ℕ) (filled : Filled file m k work) (table : TableWrites special items count) (out : List ℕ) where
  entries-found : (t : Bool) → t ≡ all_below count (λ i. type_variable (allowed_in (column_at work k 0)) (subset_of (get_or items i 0))) → t ≡ entries_fit m (expression_at file k) (take count items)
  entries-found = entries-tested file m k work items count filled table.fit.enough

  specials-found : (subsets : List ℕ) (t : Bool) → subsets ≡ subsets_from special → t ≡ specials_allowed work k subsets → t ≡ specials_fit m (expression_at file k) (subsets_from special)
  specials-found subsets t are is = is ∙ ap (specials_allowed work k) are ∙ specials-stored work k m (expression_at file k) filled.columns (subsets_from special) (subsets-small special)

  -- answer and slice are as the definitions over a table say
  abbrev Results : Option ℕ → List ℕ → Type 0
  Results r written = (r ≡ table_recovered m (expression_at file k) special (take count items)) × (written ≡ table_instantiation m (expression_at file k) special (take count items) out)

  untyped : fits m (expression_at file k) special (take count items) ≡ false → Results None out
  untyped no-fit = let gives = recovered-refused m (expression_at file k) special (take count items) out no-fit in (sym gives.0, sym gives.1)

  pub entry-untyped : (t : Bool) → t ≡ false → t ≡ all_below count (λ i. type_variable (allowed_in (column_at work k 0)) (subset_of (get_or items i 0))) → Results None out
  entry-untyped t fails is = untyped (ap (λ (b : Bool). b && specials_fit m (expression_at file k) (subsets_from special)) (sym (entries-found t is) ∙ fails))

  pub special-untyped : (subsets : List ℕ) (t : Bool) → t ≡ false → subsets ≡ subsets_from special → t ≡ specials_allowed work k subsets → Results None out
  special-untyped subsets t fails are is =
      untyped
      (ap (λ (b : Bool). entries_fit m (expression_at file k) (take count items) && b) (sym (specials-found subsets t are is) ∙ fails)
      ∙ and-false (entries_fit m (expression_at file k) (take count items)))

  pub table-recovered :
      (t u : Bool) (subsets : List ℕ) (size : ℕ) (written : List ℕ)
      → t ≡ true
      → t ≡ all_below count (λ i. type_variable (allowed_in (column_at work k 0)) (subset_of (get_or items i 0)))
      → subsets ≡ subsets_from special
      → u ≡ true
      → u ≡ specials_allowed work k subsets
      → size ≡ length (instantiation_bytes subsets (lists_of (take count items)))
      → written ≡ over (instantiation_bytes subsets (lists_of (take count items))) out
      → Results (Some size) written
  table-recovered t u subsets size written holds is are holds' is' size_is wrote =
      let gives = recovered-fits m (expression_at file k) special (take count items) out (ap₂ ◌&&◌ (sym (entries-found t is) ∙ holds) (sym (specials-found subsets u are is') ∙ holds')) in (
        ap Some (size_is ∙ ap (λ (x : List ℕ). length (instantiation_bytes x (lists_of (take count items)))) are) ∙ sym gives.0,
        wrote ∙ ap (λ (x : List ℕ). over (instantiation_bytes x (lists_of (take count items))) out) are ∙ sym gives.1,
      )

-- the table can be written
pub recovered-from : (special items : List ℕ) (count : ℕ) → TableWrites special items count → WritesFrom (subsets_from special) items count
recovered-from special items count t = record { special = subsets-size special; few = t.few; fit = t.fit }

-- ---- as it was read

module _ (file : List ℕ) (m n : ℕ) (e : Expression) (s : Schema) (work out : List ℕ) where
  pub read-stops : (r : Refusal) → s.judgement ≡ ReadRefused r → (Err r ≡ read_recovered m e s) × ((work ≡ read_space file m n s.judgement work) × (out ≡ read_instantiation m e s out))
  unfolding read_recovered read_instantiation
  read-stops r is = (rw is refl, (space-stops file m n s.judgement work r is, rw is refl))

  pub read_goes :
      s.judgement ≡ Read
      → (a : Option ℕ) (filled written : List ℕ)
      → filled ≡ over (formulas_of file m n) work
      → a ≡ table_recovered m e s.special s.entries
      → written ≡ table_instantiation m e s.special s.entries out
      → (Ok a ≡ read_recovered m e s) × ((filled ≡ read_space file m n s.judgement work) × (written ≡ read_instantiation m e s out))
  unfolding read_recovered read_instantiation
  read_goes is a filled written space answered wrote = (rw is (ap Ok answered), (space ∙ space-goes file m n s.judgement work is, rw is wrote))

-- ---- the answer, the work space and the instantiation slice

module _ (file : List ℕ) (k : ℕ) (bytes work out : List ℕ) where
  -- answer and slices are as the definitions of Recover say
  abbrev Answers : Result (Option ℕ) Refusal → List ℕ → List ℕ → Type 0
  Answers a filled written =
      (a ≡ recover_answer file k bytes (length work) (length out))
      × ((filled ≡ recover_space file k bytes work (length out))
      × (written ≡ recover_out file k bytes (length work) out))

  pub recover-stops : (r : Refusal) → sliced (admitted file k (length work)) (length out) instantiation_size ≡ Err r → Answers (Err r) work out
  unfolding recover_answer recover_space recover_out
  recover-stops r e = rw e (refl, (refl, refl))

  pub recover-goes :
      (m n : ℕ)
      → sliced (admitted file k (length work)) (length out) instantiation_size ≡ Accepted m n
      → (a : Result (Option ℕ) Refusal) (filled written : List ℕ)
      → a ≡ read_recovered m (expression_at file k) (filled_reading m bytes)
      → filled ≡ read_space file m n (filled_reading m bytes).judgement work
      → written ≡ read_instantiation m (expression_at file k) (filled_reading m bytes) out
      → Answers a filled written
  unfolding recover_answer recover_space recover_out
  recover-goes m n e a filled written answered space wrote = rw e (answered, (space, wrote))
