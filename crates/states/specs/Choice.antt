-- A choice of an allowed state for each special attribute, with an ordinary attribute for every variable: the
-- assignment that it gives fits, and some filled assignment fits exactly when some choice covers every relation.
use Rattle.std.specs.Prelude.{ℕ, ◌-◌, ◌<◌, ◌^◌, ◌≡◌, refl, Bool, true, false, cond, ◌&&◌, ◌||◌, ◌⊎◌, T}
use Rattle.std.proofs.Common.{inl, inr}
use Rattle.attribute_set.specs.AttrSet.{special}
use Rattle.types.specs.Types.{ordinary, column}
use Rattle.algebra.specs.Cell.{Kinds}
use Rattle.bits.specs.Booleans.{and_left, and_right}
use Rattle.bits.specs.AnyBelow.{any_below}
use Rattle.states.specs.Coded.{Coded, value_at}
use Rattle.states.specs.Formula.{TypeOver, AssignmentOver, Formula, is_variable}

-- a state for each special attribute, allowed in its column
pub record Choice {K : Kinds} (C : Coded K) (F : Formula K) (state : ℕ → ℕ) : Type 0 where
  pub below : (i : ℕ) → T (special i) → state i < C.base ^ F.relations
  pub allowed : (i : ℕ) → T (special i) → F.allowed i (state i) ≡ true

-- the state of every attribute: a special one's is chosen, 16 + s has s where s is a variable, every other has none
abbrev pub chosen_state : {K : Kinds} (C : Coded K) (F : Formula K) → (ℕ → ℕ) → ℕ → ℕ
chosen_state C F state a = cond (special a) (state a) (cond (ordinary a && is_variable C F (a - 16)) (a - 16) 0)

-- the assignment of a choice: relation r has each attribute as its state says
abbrev pub chosen : {K : Kinds} (C : Coded K) (F : Formula K) → (ℕ → ℕ) → AssignmentOver K
chosen C F state r a = value_at C (chosen_state C F state a) r

-- the type of the result under it
abbrev pub chosen_type : {K : Kinds} (C : Coded K) (F : Formula K) → (ℕ → ℕ) → TypeOver K
chosen_type C F state a = F.output (column a) (chosen_state C F state a)

-- relation r has special attribute i
abbrev pub by_state : {K : Kinds} (C : Coded K) → (ℕ → ℕ) → ℕ → ℕ → Bool
by_state {K} C state r i = special i && K.has (value_at C (state i) r)

-- it has the list of s
abbrev pub by_list : {K : Kinds} (C : Coded K) (F : Formula K) → ℕ → ℕ → Bool
by_list {K} C F r s = is_variable C F s && K.has (value_at C s r)

-- relation r has an attribute: a special one by its state, or one of a variable's list
abbrev pub covers : {K : Kinds} (C : Coded K) (F : Formula K) → (ℕ → ℕ) → ℕ → Bool
covers C F state r = any_below 16 (by_state C state r) || any_below (C.base ^ F.relations) (by_list C F r)

pub split : (a b : Bool) → a && b ≡ true → (a ≡ true) × (b ≡ true)
split a b h = (and_left a b h, and_right a b h)

pub either : (a b : Bool) → a || b ≡ true → (a ≡ true) ⊎ (b ≡ true)
either true b h = inl refl
either false b h = inr h
