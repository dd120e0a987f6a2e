-- What an instantiation has of an attribute: of a special one its state, of one in a variable's list that variable.
use Rattle.std.specs.Prelude.{ℕ, ◌≡◌, Bool, true, false, ◌↔◌, T}
use Rattle.std.proofs.Common.{subst}
use Rattle.attribute_set.specs.AttrSet.{special}
use Rattle.types.specs.Attributes.{special-ordinary}
use Rattle.bits.specs.Truth.{any-proof}
use Rattle.algebra.specs.Cell.{Kinds}
use Rattle.states.specs.Coded.{Coded, value_at}
use Rattle.states.specs.Formula.{Formula, is_variable}
use Rattle.states.specs.Instantiation.{Instantiation, InImage, InOutput}

module _ {K : Kinds} {C : Coded K} {F : Formula K} (I : Instantiation C F) (a : ℕ) where
  -- ---- a special attribute

  pub image-special : (h : T (special a)) (r : ℕ) (v : K.Value) → InImage I r a v ↔ (value_at C (I.state a h) r ≡ v)
  image-special h r v = (out, λ b. InImage.specials h b)
    where
      out : InImage I r a v → value_at C (I.state a h) r ≡ v
      out (InImage.specials k b) = any-proof (special a) (λ k. value_at C (I.state a k) r ≡ v) k h b
      out (InImage.listed s w l b) = absurd (special-ordinary a h (I.ordinaries s w a l))

  pub output-special : (h : T (special a)) (v : K.Value) → InOutput I a v ↔ (F.output a (I.state a h) ≡ v)
  output-special h v = (out, λ b. InOutput.specials h b)
    where
      out : InOutput I a v → F.output a (I.state a h) ≡ v
      out (InOutput.specials k b) = any-proof (special a) (λ k. F.output a (I.state a k) ≡ v) k h b
      out (InOutput.listed s w l b) = absurd (special-ordinary a h (I.ordinaries s w a l))

  -- ---- an attribute in a list

  module _ (s : ℕ) (w : T (is_variable C F s)) (l : T (I.list s w a)) where
    pub image-listed : (r : ℕ) (v : K.Value) → InImage I r a v ↔ (value_at C s r ≡ v)
    image-listed r v = (out, λ b. InImage.listed s w l b)
      where
        out : InImage I r a v → value_at C s r ≡ v
        out (InImage.specials h b) = absurd (special-ordinary a h (I.ordinaries s w a l))
        out (InImage.listed s' w' l' b) = subst (λ (x : ℕ). value_at C x r ≡ v) (I.disjoint s' s w' w a l' l) b

    pub output-listed : (v : K.Value) → InOutput I a v ↔ (F.output 0 s ≡ v)
    output-listed v = (out, λ b. InOutput.listed s w l b)
      where
        out : InOutput I a v → F.output 0 s ≡ v
        out (InOutput.specials h b) = absurd (special-ordinary a h (I.ordinaries s w a l))
        out (InOutput.listed s' w' l' b) = subst (λ (x : ℕ). F.output 0 x ≡ v) (I.disjoint s' s w' w a l' l) b

-- ---- where an attribute is

-- a test that needs another to have passed
pub after : (b : Bool) → (T b → Bool) → Bool
after true f = f tt
after false f = false

pub after-into : (b : Bool) (f : T b → Bool) (h : T b) → T (f h) → T (after b f)
unfolding after
after-into true f h t = t
after-into false f h t = h

pub after-out : (b : Bool) (f : T b → Bool) → T (after b f) → (h : T b) × T (f h)
unfolding after
after-out true f t = (tt, t)
after-out false f t = absurd t

-- where an instantiation has attribute a: as a special attribute, in the list of a variable, or nowhere
pub data Place {K : Kinds} {C : Coded K} {F : Formula K} (I : Instantiation C F) (a : ℕ) : Type 0 where
  in_state : T (special a) → Place I a
  in_list : (s : ℕ) (w : T (is_variable C F s)) → T (I.list s w a) → Place I a
  nowhere : (T (special a) → ⊥) → ((r : ℕ) (v : K.Value) → InImage I r a v → ⊥) → ((v : K.Value) → InOutput I a v → ⊥) → Place I a
