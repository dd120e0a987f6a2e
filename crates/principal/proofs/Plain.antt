-- Plain formulas and instantiations as those of base 2: a subset is the state in which its relations have an attribute.
use Rattle.std.specs.Prelude.{ℕ, ◌<◌, ◌≡◌, Bool, true, false, ◌↔◌, T}
use Rattle.std.proofs.Common.{sym, ◌∙◌}
use mathlib.Core.Logic.Iff
use Rattle.bits.specs.Bit.{bit}
use Rattle.bits.specs.Truth.{is_true, by-true}
use Rattle.attribute_set.specs.AttrSet.{special}
use Rattle.types.specs.Types.{Attrs, Assignment}
use Rattle.states.specs.Coded.{plain_code, value_at, plain_value}
use Rattle.states.specs.Instantiation.{InImage as InStateImage, InOutput as InStateOutput, HasImage as HasStateImage, HasOutput as HasStateOutput}
use Rattle.states.specs.Members.{image-special as state-image-special, image-listed as state-image-listed}
use Rattle.principal.specs.Formula.{Formula, is_variable}
use Rattle.principal.specs.Instantiation.{Instantiation, InImage, InOutput, HasImage, HasOutput}
use Rattle.principal.specs.Plain.{test-true, to_states}

-- ---- images and outputs

module _ {F : Formula} (I : Instantiation F) where
  pub image-is : (r a : ℕ) → InImage I r a ↔ InStateImage (to_states I) r a true
  image-is r a = (into, out)
    where
      into : InImage I r a → InStateImage (to_states I) r a true
      into (InImage.specials h b) = InStateImage.specials h (plain_value _ r ∙ is_true _ b)
      into (InImage.listed s h b l) = InStateImage.listed s h l (plain_value s r ∙ is_true _ b)

      out : InStateImage (to_states I) r a true → InImage I r a
      out (InStateImage.specials h b) = InImage.specials h (by-true (sym (plain_value _ r) ∙ b))
      out (InStateImage.listed s h l b) = InImage.listed s h (by-true (sym (plain_value s r) ∙ b)) l

  output-is : (a : ℕ) → InOutput I a ↔ InStateOutput (to_states I) a true
  output-is a = (into, out)
    where
      into : InOutput I a → InStateOutput (to_states I) a true
      into (InOutput.specials h b) = InStateOutput.specials h (is_true _ b)
      into (InOutput.listed s h b l) = InStateOutput.listed s h l (is_true _ b)

      out : InStateOutput (to_states I) a true → InOutput I a
      out (InStateOutput.specials h b) = InOutput.specials h (by-true b)
      out (InStateOutput.listed s h l b) = InOutput.listed s h (by-true b) l

  pub has-image : (A : Assignment) → HasImage I A ↔ HasStateImage (to_states I) A
  has-image A = (λ h r below a v. go h r below a v, λ h r below a. Iff.trans (test-true (A r a)) (Iff.trans (h r below a true tt) (Iff.symm (image-is r a))))
    where
      go : HasImage I A → (r : ℕ) → r < F.relations → (a : ℕ) (v : Bool) → T v → (A r a ≡ v) ↔ InStateImage (to_states I) r a v
      go h r below a true k = Iff.trans (Iff.symm (test-true (A r a))) (Iff.trans (h r below a) (image-is r a))
      go h r below a false k = absurd k

  pub has-output : (t : Attrs) → HasOutput I t ↔ HasStateOutput (to_states I) t
  has-output t = (λ h a v. go h a v, λ h a. Iff.trans (test-true (t a)) (Iff.trans (h a true tt) (Iff.symm (output-is a))))
    where
      go : HasOutput I t → (a : ℕ) (v : Bool) → T v → (t a ≡ v) ↔ InStateOutput (to_states I) a v
      go h a true k = Iff.trans (Iff.symm (test-true (t a))) (Iff.trans (h a) (output-is a))
      go h a false k = absurd k

  -- relation r has attribute a where it is in a's state
  in-state : (s r a : ℕ) → InStateImage (to_states I) r a true ↔ (value_at plain_code s r ≡ true) → InImage I r a ↔ T (bit s r)
  in-state s r a is = Iff.trans (image-is r a) (Iff.trans is ((λ h. by-true (sym (plain_value s r) ∙ h)), λ h. plain_value s r ∙ is_true _ h))

  pub image-special : (a : ℕ) (h : T (special a)) (r : ℕ) → InImage I r a ↔ T (bit (I.subset a h) r)
  image-special a h r = in-state (I.subset a h) r a (state-image-special (to_states I) a h r true)

  pub image-listed : (a s : ℕ) (v : T (is_variable F s)) → T (I.list s v a) → (r : ℕ) → InImage I r a ↔ T (bit s r)
  image-listed a s v l r = in-state s r a (state-image-listed (to_states I) a s v l r true)
