-- The image of an instantiation fits.
use Rattle.std.specs.Prelude.{ℕ, ◌^◌, T}
use Rattle.std.proofs.Common.{sym, ◌∙◌, ltb→lt}
use mathlib.Core.Logic.Iff
use Rattle.attribute_set.specs.AttrSet.{special}
use Rattle.bits.specs.Truth.{is_true, is_false}
use Rattle.types.specs.Attributes.{special-ordinary, column-special, column-other}
use Rattle.algebra.specs.Cell.{Kinds}
use Rattle.states.specs.Coded.{Coded, only_none}
use Rattle.states.specs.Formula.{TypeOver, AssignmentOver, Formula, Fits, Grounded, is_variable}
use Rattle.states.specs.Instantiation.{Instantiation, InImage, InOutput, HasImage, HasOutput}
use Rattle.states.specs.States.{same-value, holders-is, holders-none, variable, fits-at}
use Rattle.states.specs.Members.{Place, in_state, in_list, nowhere, image-special, output-special, image-listed, output-listed}

module _ {K : Kinds} (C : Coded K) (F : Formula K) (is_grounded : Grounded F) (A : AssignmentOver K) (t : TypeOver K) (I : Instantiation C F) (image : HasImage I A) (output : HasOutput I t) (a : ℕ) where
  state-fits : T (special a) → Fits C F A t a
  state-fits h =
      let s = I.state a h in
      (fits-at C F A t a a s (column-special a h)
      (holders-is C F.relations A a s (ltb→lt s (C.base ^ F.relations) (I.below a h)) λ r below. same-value C _ _ λ v has. Iff.trans (image r below a v has) (image-special I a h r v))
      ).1
      (is_true _ (I.allowed a h), sym (same-value C _ _ λ v has. Iff.trans (output a v has) (output-special I a h v)))

  list-fits : (s : ℕ) (w : T (is_variable C F s)) → T (I.list s w a) → Fits C F A t a
  list-fits s w l =
      (fits-at C F A t a 0 s (column-other a λ h. special-ordinary a h (I.ordinaries s w a l))
      (holders-is C F.relations A a s ((variable C F s).0 w).below λ r below. same-value C _ _ λ v has. Iff.trans (image r below a v has) (image-listed I a s w l r v))
      ).1
      (((variable C F s).0 w).allowed, sym (same-value C _ _ λ v has. Iff.trans (output a v has) (output-listed I a s w l v)))

  none-fits : (T (special a) → ⊥) → ((r : ℕ) (v : K.Value) → InImage I r a v → ⊥) → ((v : K.Value) → InOutput I a v → ⊥) → Fits C F A t a
  none-fits k none silent =
      (fits-at C F A t a 0 0 (column-other a k)
      (holders-none C F.relations A a λ r below. only_none C (A r a) (is_false (K.has (A r a)) λ x. none r (A r a) ((image r below a (A r a) x).0 (λ i. A r a))))
      ).1
      (is_grounded.allowed, is_grounded.output ∙ sym (only_none C (t a) (is_false (K.has (t a)) λ x. silent (t a) ((output a (t a) x).0 (λ i. t a)))))

  pub fits : Place I a → Fits C F A t a
  fits (in_state h) = state-fits h
  fits (in_list s w l) = list-fits s w l
  fits (nowhere k none silent) = none-fits k none silent
