-- The instantiation that an assignment which fits is the image of.
use Rattle.std.specs.Prelude.{ℕ, ◌<◌, ◌^◌, ◌≡◌, refl, true, eqb}
use Rattle.std.proofs.Common.{sym, ap, ◌∙◌, arith, lt→ltb}
use Rattle.std.proofs.Math.Path.{subst}
use Rattle.std.proofs.Math.Logic.{∥∥₁_elim}
use Rattle.std.proofs.Math.Dec.{T}
use Rattle.types.specs.Types.{ordinary, column}
use Rattle.types.specs.Types as Plain
use Rattle.types.specs.Laws.{finite-by, finite-prop}
use Rattle.bits.specs.Truth.{is_false, by-true, left}
use Rattle.types.specs.Attributes.{Kind, is_special, is_ordinary, is_zero, kind, zero-other, column-special, column-other}
use Rattle.algebra.specs.Cell.{Kinds}
use Rattle.states.specs.Coded.{Coded, value_at, value_none}
use Rattle.states.specs.Formula.{TypeOver, AssignmentOver, IsAssignment, Formula, holders, is_variable, Fits, Grounded}
use Rattle.states.specs.Instantiation.{Instantiation, InImage, InOutput, HasImage, HasOutput}
use Rattle.states.specs.States.{held_none, holders-value, holders-below, holders-none, bounded, variable, fits-at}
use Rattle.states.specs.Instance.{column-ordinary, held, held-here, held_by, not-zero}

module _ {K : Kinds} (C : Coded K) (F : Formula K) (is_grounded : Grounded F) (A : AssignmentOver K) (types : IsAssignment K F.relations A) (t : TypeOver K) (fits : (a : ℕ) → Fits C F A t a) where
  -- what fitting says in the attribute's column
  in-column : (a c : ℕ) → column a ≡ c → (F.allowed c (holders C F.relations A a) ≡ true) × (F.output c (holders C F.relations A a) ≡ t a)
  in-column a c e = (fits-at C F A t a c (holders C F.relations A a) e refl).0 (fits a)

  held-finite : (s : ℕ) → 0 < s → Plain.Finite (held_by C F.relations A s)
  held-finite s some =
      ∥∥₁_elim (bounded K F.relations A types) (finite-prop (held_by C F.relations A s))
      λ b. finite-by b.0 (λ a h. is_false _ λ l. omega (arith, held C F.relations A s a l, holders-none C F.relations A a (b.1 a h)))

  -- the instantiation of an assignment that fits: each attribute by the state of the relations that have it
  pub instance : Instantiation C F
  instance =
      record {
        state = λ i h. holders C F.relations A i;
        below = λ i h. lt→ltb (holders C F.relations A i) (C.base ^ F.relations) (holders-below C F.relations A i);
        allowed = λ i h. by-true (in-column i i (column-special i h)).0;
        list = λ s v. held_by C F.relations A s;
        ordinaries = λ s v a l. left (ordinary a) (eqb (holders C F.relations A a) s) l;
        finite = λ s v. held-finite s ((variable C F s).0 v).some;
        disjoint = λ s s' v v' a l l'. sym (held C F.relations A s a l) ∙ held C F.relations A s' a l';
      }

  -- the holders of an ordinary attribute, where there are any, are a variable
  holders-variable : (a : ℕ) → T (ordinary a) → 0 < holders C F.relations A a → T (is_variable C F (holders C F.relations A a))
  holders-variable a h some =
      (variable C F (holders C F.relations A a)).1
      (record { some = some; below = holders-below C F.relations A a; allowed = (in-column a 0 (column-ordinary a h)).0 })

  -- ---- the image

  some-holder : (r a : ℕ) → r < F.relations → T (K.has (A r a)) → 0 < holders C F.relations A a
  some-holder r a below x =
      not-zero (holders C F.relations A a)
      λ e. held_none C (A r a) x (sym (holders-value C F.relations A a r below) ∙ ap (λ (s : ℕ). value_at C s r) e ∙ value_none C r)

  pub instance-image : HasImage instance A
  unfolding instance
  instance-image r below a v has = (into (kind a), out)
    where
      same : value_at C (holders C F.relations A a) r ≡ A r a
      same = holders-value C F.relations A a r below

      into : Kind a → A r a ≡ v → InImage instance r a v
      into (is_special h) x = InImage.specials h (same ∙ x)
      into (is_ordinary h) x =
          InImage.listed (holders C F.relations A a)
          (holders-variable a h (some-holder r a below (subst (λ (u : K.Value). T (K.has u)) (sym x) has)))
          (held-here C F.relations A a h) (same ∙ x)
      into (is_zero e) x = absurd (held_none C v has (sym x ∙ ap (A r) e ∙ (types r below).positive))

      out : InImage instance r a v → A r a ≡ v
      out (InImage.specials h b) = sym same ∙ b
      out (InImage.listed s w l b) = sym same ∙ ap (λ (s : ℕ). value_at C s r) (held C F.relations A s a l) ∙ b

  -- ---- the output

  some-output : (a : ℕ) → column a ≡ 0 → T (K.has (t a)) → 0 < holders C F.relations A a
  some-output a c x =
      not-zero (holders C F.relations A a) λ e. held_none C (t a) x (sym ((fits-at C F A t a 0 0 c e).0 (fits a)).1 ∙ is_grounded.output)

  zero-silent : T (K.has (t 0)) → ⊥
  zero-silent x = omega (arith, some-output 0 (column-other 0 zero-other) x, holders-none C F.relations A 0 (λ r below. (types r below).positive))

  pub instance-output : HasOutput instance t
  unfolding instance
  instance-output a v has = (into (kind a), out)
    where
      there : t a ≡ v → T (K.has (t a))
      there x = subst (λ (u : K.Value). T (K.has u)) (sym x) has

      into : Kind a → t a ≡ v → InOutput instance a v
      into (is_special h) x = InOutput.specials h ((in-column a a (column-special a h)).1 ∙ x)
      into (is_ordinary h) x =
          let c = column-ordinary a h in
          InOutput.listed (holders C F.relations A a) (holders-variable a h (some-output a c (there x))) (held-here C F.relations A a h) ((in-column a 0 c).1 ∙ x)
      into (is_zero e) x = absurd (zero-silent (subst (λ (z : ℕ). T (K.has (t z))) e (there x)))

      out : InOutput instance a v → t a ≡ v
      out (InOutput.specials h b) = sym (in-column a a (column-special a h)).1 ∙ b
      out (InOutput.listed s w l b) =
          sym (in-column a 0 (column-ordinary a (left (ordinary a) _ l))).1 ∙ ap (F.output 0) (held C F.relations A s a l) ∙ b
