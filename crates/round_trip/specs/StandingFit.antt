-- 20 by the standing bits: the code tests the entries; that is the test of FORMAT 6.3, for all 256 bits of the plane
-- as it stands in the bytes.
use Rattle.std.specs.Prelude.{ℕ, ◌≤◌, ◌<◌, ◌≡◌, refl, ◌↔◌, Bool, false, ◌&&◌, ◌||◌, ltb, length, Result, Err}
use Rattle.std.proofs.Common.{sym, ap, ap₂, ◌∙◌, true≢false, arith, lt-ltb, ltb-true, lit<}
use Rattle.std.proofs.Math.Bool.{true, not}
use Rattle.std.proofs.lemmas.Bool.{false≢true}
use mathlib.Core.List.{List, []}
use Rattle.std.proofs.Math.ListN.{get_or}
use Rattle.bits.specs.AllBelow.{all_below, in_all, all_in, not-all, all-fails}
use Rattle.bits.specs.Booleans.{same_test, and_left, and_right}
use Rattle.bits.specs.Word.{Bytes}
use Rattle.refusal.specs.declared.Refusal.TheVariants.{TypeVariable, SpecialSubset, EmptyImage}
use Rattle.admission.specs.Admission.{sliced, admitted}
use Rattle.algebra.specs.Expression.{Expression}
use Rattle.states.specs.Formula.{type_variable}
use Rattle.node_expression.specs.NodeExpression.{expression_at}
use Rattle.stored_formula.specs.FormulaBytes.{allowed_bit}
use Rattle.stored_formula.specs.Formula.{formula_space}
use Rattle.stored_formula.specs.FormulaBytesLaws.{allowed-below}
use Rattle.admission.specs.AdmissionLaws.{admitted-passes}
use Rattle.stored_formula.specs.FormulaLaws.{admitted-space}
use Rattle.stored_formula.specs.StoredFormula.{formula_in, stored-allowed}
use Rattle.membership.specs.Entries.{subset_of}
use Rattle.schema.specs.Bounds.{Held, at_held}
use Rattle.filled_schema.specs.FilledSchema.{table_filled}
use Rattle.special_maps.specs.Special.{maps_from}
use Rattle.instantiation.specs.Instantiation.{Instantiation, standing, entries_in, instantiation_reading}
use Rattle.instantiation.specs.ListZero.{list-zero}
use Rattle.instantiation.specs.ReadLaws.{lists-read}
use Rattle.instantiation.proofs.StandingBits.{zero_clear, standing-entry, entry-standing}
use Rattle.instantiation.specs.TableLaws.{ReadInstantiation, instantiation-read, read-entries}
use Rattle.fitting.specs.Fit.{entries_fit, specials_fit, entry-fits, fit-entries}
use Rattle.apply_answer.specs.Apply.{table_applied, apply_answer}
use Rattle.apply_answer.specs.ApplyLaws.{table_fits, entries-refused, specials-refused, image-refused, read_goes, apply-goes, apply-passed}
use Rattle.type_record.specs.Record.{output_size}
use Rattle.schema.specs.Schema.{schema_size}
use Rattle.expression_file.specs.ReadFile.{Accepted}
use Rattle.schema.specs.Judgement.{Read}
use Rattle.refusal.specs.declared.Refusal.{Refusal}
use Rattle.apply_answer.specs.declared.Application.{Application}

-- entries that fit are each held by some of m relations
pub fit-held : (m : ℕ) (e : Expression) (es : List ℕ) → entries_fit m e es ≡ true → Held m es
fit-held m e es fit =
    at_held m es
    (λ i h. let fits = entry-fits m e es fit i h in
    (fits.0, allowed-below m e 0 (subset_of (get_or es i 0)) fits.1))

-- each standing bit is a type variable
unfoldable pub standing_fit : ℕ → Expression → List ℕ → Bool
standing_fit m e bytes = all_below 256 (λ s. not (standing bytes s) || type_variable (allowed_bit m e 0) s)

-- a bit that stands and passes
passing : (stands variable : Bool) → not stands || variable ≡ true → stands ≡ true → variable ≡ true
passing true variable h is = h
passing false variable h is = absurd (let z : ◌≡◌ {A = ℕ} 0 1 = cc in omega arith)

-- a bit that does not pass is clear
failing : (stands variable : Bool) → not stands || variable ≡ true → variable ≡ false → stands ≡ false
failing true variable h is = sym h ∙ is
failing false variable h is = refl

-- the test of a bit fails exactly where it stands and is no type variable
fails_both : (stands variable : Bool) → not stands || variable ≡ false → (stands ≡ true) × (variable ≡ false)
fails_both true variable h = (refl, h)
fails_both false variable h = absurd (true≢false h)

both-fail : (stands variable : Bool) → stands ≡ true → variable ≡ false → not stands || variable ≡ false
both-fail true variable h none = none
both-fail false variable h none = absurd (false≢true h)

module _ (m : ℕ) (e : Expression) (bytes : List ℕ) (below : Bytes bytes) (i : Instantiation) (ls : List (List ℕ)) (r : ReadInstantiation bytes i ls) where
  standing-passes : entries_fit m e (entries_in ls) ≡ true → standing_fit m e bytes ≡ true
  unfolding standing_fit
  standing-passes fit = in_all 256 (λ s. not (standing bytes s) || type_variable (allowed_bit m e 0) s) (λ s h. each s h (standing bytes s) refl)
    where
      none : get_or ls 0 [] ≡ []
      none = list-zero m ls (lists-read bytes ls below r.long r.read) r.once (fit-held m e (entries_in ls) fit)

      each : (s : ℕ) → s < 256 → (b : Bool) → standing bytes s ≡ b → not b || type_variable (allowed_bit m e 0) s ≡ true
      each s h false clear = refl
      each s h true stands =
          let found = standing-entry bytes below i ls r none s h stands in
          let fits = entry-fits m e (entries_in ls) fit found.0 found.1 in
          rw (← found.2) (ap₂ ◌&&◌ (lt-ltb 0 (subset_of (get_or (entries_in ls) found.0 0)) fits.0) fits.1)

  entries-pass : standing_fit m e bytes ≡ true → entries_fit m e (entries_in ls) ≡ true
  unfolding standing_fit
  entries-pass fit = fit-entries m e (entries_in ls) each
    where
      all : (s : ℕ) → s < 256 → not (standing bytes s) || type_variable (allowed_bit m e 0) s ≡ true
      all = all_in 256 (λ s. not (standing bytes s) || type_variable (allowed_bit m e 0) s) fit

      none : get_or ls 0 [] ≡ []
      none = zero_clear bytes below i ls r (failing (standing bytes 0) false (all 0 (lit< tt)) refl)

      each : (j : ℕ) → j < length (entries_in ls) → (1 ≤ subset_of (get_or (entries_in ls) j 0)) × (allowed_bit m e 0 (subset_of (get_or (entries_in ls) j 0)) ≡ true)
      each j h =
          let s = subset_of (get_or (entries_in ls) j 0) in
          let variable = passing (standing bytes s) (type_variable (allowed_bit m e 0) s) (all s (omega arith)) (entry-standing bytes below i ls r none j h) in
          (ltb-true 0 s (and_left (ltb 0 s) (allowed_bit m e 0 s) variable), and_right (ltb 0 s) (allowed_bit m e 0 s) variable)

  -- the test of the entries is the test of the standing bits
  pub entries-standing : entries_fit m e (entries_in ls) ≡ standing_fit m e bytes
  entries-standing = same_test (entries_fit m e (entries_in ls)) (standing_fit m e bytes) (standing-passes, entries-pass)

-- ---- Apply's answer, where nothing before 20 is refused

module _ (file : List ℕ) (k : ℕ) (bytes work schema out : List ℕ) (m n : ℕ) (below : Bytes bytes)
    (goes : sliced (sliced (admitted file k (length work)) (length schema) schema_size) (length out) output_size ≡ Accepted m n)
    (read : (instantiation_reading bytes).judgement ≡ Read) where
  found : (ls : List (List ℕ)) × ReadInstantiation bytes (instantiation_reading bytes) ls
  found = instantiation-read bytes read

  entries-are : (instantiation_reading bytes).entries ≡ entries_in found.0
  entries-are = read-entries bytes (instantiation_reading bytes) found.0 found.1

  answer : apply_answer file k bytes (length work) (length schema) (length out) ≡ table_applied m (expression_at file k) (instantiation_reading bytes).subsets (instantiation_reading bytes).entries
  answer =
      sym (apply-goes file k bytes work schema out m n goes _ _ _ _ refl refl refl refl).0
      ∙ sym (read_goes file m n (expression_at file k) (instantiation_reading bytes) work schema out read _ _ _ _ refl refl refl refl).0

  -- 20 is said exactly where the test of the standing bits fails
  said-fails : apply_answer file k bytes (length work) (length schema) (length out) ≡ Err TypeVariable → standing_fit m (expression_at file k) bytes ≡ false
  said-fails said =
      sym (entries-standing m (expression_at file k) bytes below (instantiation_reading bytes) found.0 found.1)
      ∙ sym (ap (entries_fit m (expression_at file k)) entries-are)
      ∙ go (entries_fit m (expression_at file k) (instantiation_reading bytes).entries) refl (specials_fit m (expression_at file k) (instantiation_reading bytes).subsets) refl
      (table_filled m (maps_from (instantiation_reading bytes).subsets) (instantiation_reading bytes).entries) refl
    where
      other : (a : Result Application Refusal) → table_applied m (expression_at file k) (instantiation_reading bytes).subsets (instantiation_reading bytes).entries ≡ a → a ≡ Err TypeVariable
      other a is = sym is ∙ sym answer ∙ said

      go :
          (t : Bool)
          → entries_fit m (expression_at file k) (instantiation_reading bytes).entries ≡ t
          → (u : Bool)
          → specials_fit m (expression_at file k) (instantiation_reading bytes).subsets ≡ u
          → (v : Bool)
          → table_filled m (maps_from (instantiation_reading bytes).subsets) (instantiation_reading bytes).entries ≡ v
          → t ≡ false
      go false fails u u-is v v-is = refl
      go true fit false fails v v-is =
          absurd
          (let wrong = other (Err SpecialSubset)
          (specials-refused m (expression_at file k) (instantiation_reading bytes).subsets (instantiation_reading bytes).entries
          schema out fit fails).0
          in
          let z : ◌≡◌ {A = ℕ} 0 1 = cc in omega arith)
      go true fit true special false fails =
          absurd
          (let wrong = other (Err EmptyImage)
          (image-refused m (expression_at file k) (instantiation_reading bytes).subsets (instantiation_reading bytes).entries
          schema out fit special fails).0
          in
          let z : ◌≡◌ {A = ℕ} 0 1 = cc in omega arith)
      go true fit true special true filled =
          absurd
          (let wrong = other _
          (table_fits m (expression_at file k) (instantiation_reading bytes).subsets (instantiation_reading bytes).entries schema
          out fit special filled).0
          in
          let z : ◌≡◌ {A = ℕ} 0 1 = cc in omega arith)

  fails-said : standing_fit m (expression_at file k) bytes ≡ false → apply_answer file k bytes (length work) (length schema) (length out) ≡ Err TypeVariable
  fails-said fails =
      answer
      ∙ (entries-refused m (expression_at file k) (instantiation_reading bytes).subsets (instantiation_reading bytes).entries schema out
      (ap (entries_fit m (expression_at file k)) entries-are ∙ entries-standing m (expression_at file k) bytes below (instantiation_reading bytes) found.0 found.1 ∙ fails)
      ).0

  -- the variables of the stored formula
  stored-variable : (s : ℕ) → s < 256 → type_variable ((formula_in (formula_space file work) m k).allowed 0) s ≡ type_variable (allowed_bit m (expression_at file k) 0) s
  stored-variable s h =
      let admits = (apply-passed file k (length work) (length schema) (length out) goes).0 in
      let space = admitted-space file k work m n (admitted-passes file k (length work) admits) in
      ap (λ (t : Bool). ltb 0 s && t) (rw (← space) (stored-allowed file m n admits.accepted work admits.work_space k admits.node 0 s (lit< tt) h))

  -- 20: some standing bit of the map in the bytes is no type variable of the node's stored formula
  pub apply-variable :
      (apply_answer file k bytes (length work) (length schema) (length out) ≡ Err TypeVariable) ↔
      ((s : ℕ)
      × ((s < 256) × ((standing bytes s ≡ true) × (type_variable ((formula_in (formula_space file work) m k).allowed 0) s ≡ false))))
  unfolding standing_fit
  apply-variable = (
    (λ said.
        let at = all-fails 256 (λ s. not (standing bytes s) || type_variable (allowed_bit m (expression_at file k) 0) s) (said-fails said) in
        let parts = fails_both (standing bytes at.0) (type_variable (allowed_bit m (expression_at file k) 0) at.0) at.1.1 in
        (at.0, (at.1.0, (parts.0, stored-variable at.0 at.1.0 ∙ parts.1)))),
    (λ at. fails-said
        (not-all 256 (λ s. not (standing bytes s) || type_variable (allowed_bit m (expression_at file k) 0) s) at.0 at.1.0
        (both-fail (standing bytes at.0) (type_variable (allowed_bit m (expression_at file k) 0) at.0) at.1.1.0
        (sym (stored-variable at.0 at.1.0) ∙ at.1.1.1)))),
  )
