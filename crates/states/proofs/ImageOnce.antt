-- Two instantiations with one image are one.
use Rattle.std.specs.Prelude.{ℕ, ◌^◌, ◌≡◌, refl, T, ltb}
use Rattle.std.proofs.Common.{sym, subst, ltb→lt}
use mathlib.Core.Logic.Iff
use mathlib.Core.HLevel.{Π_prop, is_prop→PathP}
use Rattle.std.proofs.Math.Nat.{ℕ_set}
use Rattle.std.proofs.Math.Dec.{T_prop}
use Rattle.attribute_set.specs.AttrSet.{special}
use Rattle.types.specs.Types.{ordinary}
use Rattle.types.specs.Types as Plain
use Rattle.types.specs.Laws.{finite-prop}
use Rattle.bits.specs.Truth.{same_test, any-proof}
use Rattle.types.specs.Attributes.{special-ordinary}
use Rattle.algebra.specs.Cell.{Kinds}
use Rattle.states.specs.Coded.{Coded, value_at, states-once}
use Rattle.states.specs.Formula.{Formula, is_variable}
use Rattle.states.specs.Instantiation.{Instantiation, InImage, SameImage}
use Rattle.states.specs.States.{same-value, member, variable}
use Rattle.states.specs.Members.{image-special, image-listed}

module _ {K : Kinds} (C : Coded K) (F : Formula K) where
  pub same-state : (I J : Instantiation C F) → SameImage I J → (i : ℕ) (h : T (special i)) → I.state i h ≡ J.state i h
  same-state I J same i h =
      states-once C F.relations (I.state i h) (J.state i h) (ltb→lt _ _ (I.below i h)) (ltb→lt _ _ (J.below i h))
      λ r below. same-value C _ _ λ v has. Iff.trans (Iff.symm (image-special I i h r v)) (Iff.trans (same r below i v has) (image-special J i h r v))

  -- an attribute in a list of each is in the lists of one variable
  same-variable : (I J : Instantiation C F) → SameImage I J → (a s s' : ℕ) (w : T (is_variable C F s)) (w' : T (is_variable C F s')) → T (I.list s w a) → T (J.list s' w' a) → s' ≡ s
  same-variable I J same a s s' w w' l l' =
      sym
      (states-once C F.relations s s' ((variable C F s).0 w).below ((variable C F s').0 w').below
      λ r below. same-value C _ _ λ v has. Iff.trans (Iff.symm (image-listed I a s w l r v)) (Iff.trans (same r below a v has) (image-listed J a s' w' l' r v)))

  -- what is in a list of one is in that list of the other
  carry : (I J : Instantiation C F) → SameImage I J → (s : ℕ) (w : T (is_variable C F s)) (a : ℕ) → T (I.list s w a) → T (J.list s w a)
  carry I J same s w a l =
      let x = (variable C F s).0 w in
      let r = member C F.relations s x.some x.below in
      go ((same r.0 r.1 a (value_at C s r.0) r.2).0 (InImage.listed s w l refl))
    where
      go : {r : ℕ} {v : K.Value} → InImage J r a v → T (J.list s w a)
      go (InImage.specials h b) = absurd (special-ordinary a h (I.ordinaries s w a l))
      go (InImage.listed s' w' l' b) =
          subst (λ (x : ℕ). (u : T (is_variable C F x)) → T (J.list x u a)) (same-variable I J same a s s' w w' l l')
          (λ u. any-proof (is_variable C F s') (λ u. T (J.list s' u a)) w' u l')
          w

  pub same-list : (I J : Instantiation C F) → SameImage I J → (s : ℕ) (w : T (is_variable C F s)) (a : ℕ) → I.list s w a ≡ J.list s w a
  same-list I J same s w a = same_test _ _ (carry I J same s w a, carry J I (λ r below b v has. Iff.symm (same r below b v has)) s w a)

  -- the states and the lists say the rest
  pub same-data : (I J : Instantiation C F) → I.state ≡ J.state → I.list ≡ J.list → I ≡ J
  same-data I J p q =
      λ i.
      record {
        state = p i;
        below = is_prop→PathP (λ i. (k : ℕ) (h : T (special k)) → T (ltb (p i k h) (C.base ^ F.relations))) (λ i. Π_prop λ k. Π_prop λ h. T_prop (ltb (p i k h) (C.base ^ F.relations))) I.below J.below i;
        allowed = is_prop→PathP (λ i. (k : ℕ) (h : T (special k)) → T (F.allowed k (p i k h))) (λ i. Π_prop λ k. Π_prop λ h. T_prop (F.allowed k (p i k h))) I.allowed J.allowed i;
        list = q i;
        ordinaries =
            is_prop→PathP (λ i. (s : ℕ) (w : T (is_variable C F s)) (a : ℕ) → T (q i s w a) → T (ordinary a))
            (λ i. Π_prop λ s. Π_prop λ w. Π_prop λ a. Π_prop λ l. T_prop (ordinary a)) I.ordinaries J.ordinaries i;
        finite = is_prop→PathP (λ i. (s : ℕ) (w : T (is_variable C F s)) → Plain.Finite (q i s w)) (λ i. Π_prop λ s. Π_prop λ w. finite-prop _) I.finite J.finite i;
        disjoint =
            is_prop→PathP
            (λ i. (s s' : ℕ) (w : T (is_variable C F s)) (w' : T (is_variable C F s')) (a : ℕ) → T (q i s w a) → T (q i s' w' a) → s ≡ s')
            (λ i. Π_prop λ s. Π_prop λ s'. Π_prop λ w. Π_prop λ w'. Π_prop λ a. Π_prop λ l. Π_prop λ l'. ℕ_set s s') I.disjoint
            J.disjoint i;
      }
