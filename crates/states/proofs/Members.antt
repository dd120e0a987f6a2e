-- What an instantiation has of an attribute: of a special one its state, of one in a variable's list that variable.
use Rattle.std.specs.Prelude.{ℕ, ◌<◌, ◌^◌, Bool, ◌⊎◌, T}
use Rattle.std.proofs.Common.{inl, inr}
use Rattle.attribute_set.specs.AttrSet.{special}
use Rattle.bits.specs.Truth.{decided}
use Rattle.bits.specs.Search.{Below, found, missing, search-below}
use Rattle.algebra.specs.Cell.{Kinds}
use Rattle.states.specs.Coded.{Coded}
use Rattle.states.specs.Formula.{Formula, is_variable}
use Rattle.states.specs.Instantiation.{Instantiation, InImage, InOutput}
use Rattle.states.specs.States.{variable}
use Rattle.states.specs.Members.{Place, after, after-into, after-out, in_list, in_state, nowhere}

-- ---- where an attribute is

pub place : {K : Kinds} {C : Coded K} {F : Formula K} (I : Instantiation C F) (a : ℕ) → Place I a
place {K} {C} {F} I a = go (decided (special a)) (search-below (C.base ^ F.relations) in_lists)
  where
    in_lists : ℕ → Bool
    in_lists s = after (is_variable C F s) (λ w. I.list s w a)

    unlisted : ((s : ℕ) → s < C.base ^ F.relations → T (in_lists s) → ⊥) → (s : ℕ) (w : T (is_variable C F s)) → T (I.list s w a) → ⊥
    unlisted f s w l = f s ((variable C F s).0 w).below (after-into (is_variable C F s) (λ w. I.list s w a) w l)

    go : T (special a) ⊎ (T (special a) → ⊥) → Below (C.base ^ F.relations) in_lists → Place I a
    go (inl h) b = in_state h
    go (inr k) (found s below t) = let p = after-out (is_variable C F s) (λ w. I.list s w a) t in in_list s p.0 p.1
    go (inr k) (missing f) = nowhere k none silent
      where
        none : (r : ℕ) (v : K.Value) → InImage I r a v → ⊥
        none r v (InImage.specials h b) = k h
        none r v (InImage.listed s w l b) = unlisted f s w l

        silent : (v : K.Value) → InOutput I a v → ⊥
        silent v (InOutput.specials h b) = k h
        silent v (InOutput.listed s w l b) = unlisted f s w l
