-- A choice of an allowed state for each special attribute, with an ordinary attribute for every variable: the
-- assignment that it gives fits, and some filled assignment fits exactly when some choice covers every relation.
use Rattle.std.specs.Prelude.{ℕ, ◌+◌, ◌-◌, ◌≤◌, ◌<◌, ◌^◌, ◌≡◌, refl, Bool, true, false, cond, ◌&&◌, ◌||◌, ◌⊎◌, T}
use Rattle.std.proofs.Common.{sym, ap₂, ◌∙◌, inl, inr, arith, le-leb, leb→le}
use Rattle.std.proofs.Math.Path.{ap}
use Rattle.std.proofs.Math.Bool.{or-true}
use Rattle.std.proofs.Math.Logic.{∥∥₁_elim}
use Rattle.std.proofs.Math.Dec.{T_prop}
use Rattle.attribute_set.specs.AttrSet.{special}
use Rattle.attribute_set.specs.Laws.{special-above}
use Rattle.types.specs.Types.{ordinary, column}
use Rattle.bits.specs.Truth.{is_true, by-true}
use Rattle.types.specs.Attributes.{Kind, is_special, is_ordinary, is_zero, kind, special-bounds, special-ordinary, zero-other, column-special, column-other}
use Rattle.algebra.specs.Cell.{Kinds}
use Rattle.bits.specs.AnyBelow.{any_below, in-any, any-in}
use Rattle.states.specs.Coded.{Coded, value_at, value_none}
use Rattle.states.specs.Formula.{TypeOver, AssignmentOver, Finite, IsAssignment, Filled, Formula, holders, is_variable, Fits, Grounded}
use Rattle.states.specs.Instance.{not-zero}
use Rattle.states.specs.States.{held_none, holders-value, holders-below, holders-is, variable, fits-at}
use Rattle.states.specs.Choice.{Choice, by_list, by_state, chosen, chosen_state, chosen_type, covers, either, split}

module _ {K : Kinds} (C : Coded K) (F : Formula K) (is_grounded : Grounded F) where
  module _ (state : ℕ → ℕ) (choice : Choice C F state) where
    -- where an attribute's state comes from
    data Origin (a : ℕ) : Type 0 where
      specials : T (special a) → chosen_state C F state a ≡ state a → Origin a
      variables : (T (special a) → ⊥) → T (is_variable C F (a - 16)) → chosen_state C F state a ≡ a - 16 → a < 16 + C.base ^ F.relations → Origin a
      others : (T (special a) → ⊥) → chosen_state C F state a ≡ 0 → Origin a

    origin : (a : ℕ) → Origin a
    origin a = go (special a) refl (ordinary a && is_variable C F (a - 16)) refl
      where
        go : (b : Bool) → special a ≡ b → (d : Bool) → ordinary a && is_variable C F (a - 16) ≡ d → Origin a
        go true e d k = specials (by-true e) (ap (λ (b : Bool). cond b (state a) (cond (ordinary a && is_variable C F (a - 16)) (a - 16) 0)) e)
        go false e true k =
            let both = split (ordinary a) _ k in
            let v = ((variable C F (a - 16)).0 (by-true both.1)).below in
            variables (λ h. special-ordinary a h (by-true both.0)) (by-true both.1)
            (ap₂ (λ (b d : Bool). cond b (state a) (cond d (a - 16) 0)) e k)
            (let least = leb→le 16 a (by-true both.0) in omega arith)
        go false e false k =
            others
            (λ h. let z : ◌≡◌ {A = Bool} true false = sym (is_true (special a) h)
            ∙ e in absurd (let y : ◌≡◌ {A = ℕ} 0 1 = cc in omega arith))
            (ap₂ (λ (b d : Bool). cond b (state a) (cond d (a - 16) 0)) e k)

    state-small : (a : ℕ) → chosen_state C F state a < C.base ^ F.relations
    state-small a = go (origin a)
      where
        go : Origin a → chosen_state C F state a < C.base ^ F.relations
        go (specials h e) = rw e (choice.below a h)
        go (variables k v e l) = rw e ((variable C F (a - 16)).0 v).below
        go (others k e) = rw e (let l = holders-below C F.relations (λ r a. K.none) 0 in omega arith)

    holders-chosen : (a : ℕ) → holders C F.relations (chosen C F state) a ≡ chosen_state C F state a
    holders-chosen a = holders-is C F.relations (chosen C F state) a (chosen_state C F state a) (state-small a) (λ r below. refl)

    state-allowed : (a : ℕ) → F.allowed (column a) (chosen_state C F state a) ≡ true
    state-allowed a = go (origin a)
      where
        go : Origin a → F.allowed (column a) (chosen_state C F state a) ≡ true
        go (specials h e) = rw (e, column-special a h) (choice.allowed a h)
        go (variables k v e l) = rw (e, column-other a k) ((variable C F (a - 16)).0 v).allowed
        go (others k e) = rw (e, column-other a k) is_grounded.allowed

    pub choice-fits : (a : ℕ) → Fits C F (chosen C F state) (chosen_type C F state) a
    choice-fits a = (fits-at C F (chosen C F state) (chosen_type C F state) a (column a) (chosen_state C F state a) refl (holders-chosen a)).1 (state-allowed a, refl)

    -- from 16 + base ^ m on no attribute has a state
    unheld : (a : ℕ) → 16 + C.base ^ F.relations ≤ a → chosen_state C F state a ≡ 0
    unheld a l = go (origin a)
      where
        go : Origin a → chosen_state C F state a ≡ 0
        go (specials h e) = absurd (let b = special-bounds a h in omega arith)
        go (variables k v e below) = absurd (omega arith)
        go (others k e) = e

    zero-unheld : chosen_state C F state 0 ≡ 0
    zero-unheld = go (origin 0)
      where
        go : Origin 0 → chosen_state C F state 0 ≡ 0
        go (specials h e) = absurd (zero-other h)
        go (variables k v e below) = e
        go (others k e) = e

    pub choice-types : IsAssignment K F.relations (chosen C F state)
    unfolding Finite
    choice-types r below =
        record {
          positive = ap (λ (s : ℕ). value_at C s r) zero-unheld ∙ value_none C r;
          finite = ∣ (16 + C.base ^ F.relations, λ a l. ap (λ (s : ℕ). value_at C s r) (unheld a l) ∙ value_none C r) ∣₁;
        }

    listed : (s : ℕ) → is_variable C F s ≡ true → chosen_state C F state (16 + s) ≡ s
    listed s v =
        let back : 16 + s - 16 ≡ s = omega arith in
        rw (special-above (16 + s) (omega arith), le-leb 16 (16 + s) (omega arith), back, v)

    pub choice-filled : ((r : ℕ) → r < F.relations → covers C F state r ≡ true) → Filled K F.relations (chosen C F state)
    choice-filled cover r below = go (either (any_below 16 (by_state C state r)) (any_below (C.base ^ F.relations) (by_list C F r)) (cover r below))
      where
        held : (a : ℕ) (s : ℕ) → chosen_state C F state a ≡ s → K.has (value_at C s r) ≡ true → ∥ ((a : ℕ) × T (K.has (chosen C F state r a))) ∥₁
        held a s e h = ∣ (a, by-true (ap (λ (s : ℕ). K.has (value_at C s r)) e ∙ h)) ∣₁

        go : (any_below 16 (by_state C state r) ≡ true) ⊎ (any_below (C.base ^ F.relations) (by_list C F r) ≡ true) → ∥ ((a : ℕ) × T (K.has (chosen C F state r a))) ∥₁
        go (inl h) =
            let found = any-in 16 (by_state C state r) h in
            let i = found.0 in
            let has = split (special i) (K.has (value_at C (state i) r)) found.2 in
            held i (state i) (ap (λ (b : Bool). cond b (state i) (cond (ordinary i && is_variable C F (i - 16)) (i - 16) 0)) has.0) has.1
        go (inr h) =
            let found = any-in (C.base ^ F.relations) (by_list C F r) h in
            let s = found.0 in
            let has = split (is_variable C F s) (K.has (value_at C s r)) found.2 in
            held (16 + s) s (listed s has.0) has.1

  -- ---- a filled assignment that fits is covered by the choice of its own states

  module _ (A : AssignmentOver K) (types : IsAssignment K F.relations A) (t : TypeOver K) (fits : (a : ℕ) → Fits C F A t a) where
    pub own-choice : Choice C F (holders C F.relations A)
    own-choice =
        record {
          below = λ i h. holders-below C F.relations A i;
          allowed = λ i h. ((fits-at C F A t i i (holders C F.relations A i) (column-special i h) refl).0 (fits i)).0;
        }

    pub own-covers : Filled K F.relations A → (r : ℕ) → r < F.relations → covers C F (holders C F.relations A) r ≡ true
    own-covers filled r below = is_true (covers C F (holders C F.relations A) r) (∥∥₁_elim (filled r below) (T_prop (covers C F (holders C F.relations A) r)) (λ x. by-true (go x.0 x.1 (kind x.0))))
      where
        held : (a : ℕ) → T (K.has (A r a)) → K.has (value_at C (holders C F.relations A a) r) ≡ true
        held a h = ap K.has (holders-value C F.relations A a r below) ∙ is_true (K.has (A r a)) h

        some : (a : ℕ) → T (K.has (A r a)) → 0 < holders C F.relations A a
        some a h = not-zero (holders C F.relations A a) (λ e. held_none C (A r a) h (sym (holders-value C F.relations A a r below) ∙ ap (λ (s : ℕ). value_at C s r) e ∙ value_none C r))

        go : (a : ℕ) → T (K.has (A r a)) → Kind a → covers C F (holders C F.relations A) r ≡ true
        go a h (is_special k) =
            ap (λ (b : Bool). b || any_below (C.base ^ F.relations) (by_list C F r))
            (in-any 16 (by_state C (holders C F.relations A) r) a (let b = special-bounds a k in omega arith)
            (ap₂ ◌&&◌ (is_true (special a) k) (held a h)))
        go a h (is_ordinary k) =
            let s = holders C F.relations A a in
            let v : is_variable C F s
            ≡ true = is_true (is_variable C F (holders C F.relations A a))
            ((variable C F s).1
            (record {
              some = some a h;
              below = holders-below C F.relations A a;
              allowed = ((fits-at C F A t a 0 s (column-other a (λ z. special-ordinary a z k)) refl).0 (fits a)).0;
            }))
            in
            ap (λ (b : Bool). any_below 16 (by_state C (holders C F.relations A) r) || b)
            (in-any (C.base ^ F.relations) (by_list C F r) s (holders-below C F.relations A a) (ap₂ ◌&&◌ v (held a h)))
            ∙ or-true (any_below 16 (by_state C (holders C F.relations A) r))
        go a h (is_zero e) = absurd (held_none C (A r a) h (ap (A r) e ∙ (types r below).positive))
