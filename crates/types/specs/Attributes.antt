-- The kinds of attributes, special, ordinary or 0, and their columns.
use Rattle.std.specs.Prelude.{ℕ, zero, suc, ◌≤◌, ◌<◌, ◌≡◌, refl, false, ◌&&◌, ◌⊎◌, T}
use Rattle.std.proofs.Common.{inl, inr, arith, leb-false, leb→le}
use Rattle.bits.specs.Truth.{is_true, is_false, by-true, decided, left}
use Rattle.attribute_set.specs.AttrSet.{special}
use Rattle.attribute_set.specs.Laws.{special-range, special-in}
use Rattle.types.specs.Types.{Attrs, IsType, ordinary, column}
use Rattle.types.specs.Laws.{finite-by, column-of-special, column-of-other}

pub special-bounds : (a : ℕ) → T (special a) → (1 ≤ a) × (a ≤ 15)
special-bounds a h = special-range a (is_true (special a) h)

pub special-ordinary : (a : ℕ) → T (special a) → T (ordinary a) → ⊥
special-ordinary a h k = omega (arith, special-bounds a h, leb→le 16 a k)

pub zero-other : T (special 0) → ⊥
zero-other h = omega (arith, special-bounds 0 h)

-- an attribute is special or ordinary, or the number is 0
pub data Kind (a : ℕ) : Type 0 where
  is_special : T (special a) → Kind a
  is_ordinary : T (ordinary a) → Kind a
  is_zero : a ≡ 0 → Kind a

neither : (a : ℕ) → (T (special a) → ⊥) → (T (ordinary a) → ⊥) → a ≡ 0
neither zero k l = refl
neither (suc a) k l =
    let below : suc a < 16 = leb-false 16 (suc a) (is_false (ordinary (suc a)) l) in
    absurd (k (by-true (special-in (suc a) (omega arith) (omega arith))))

pub kind : (a : ℕ) → Kind a
kind a = go (decided (special a)) (decided (ordinary a))
  where
    go : T (special a) ⊎ (T (special a) → ⊥) → T (ordinary a) ⊎ (T (ordinary a) → ⊥) → Kind a
    go (inl h) d = is_special h
    go (inr k) (inl h) = is_ordinary h
    go (inr k) (inr l) = is_zero (neither a k l)

-- special attributes alone are a type
pub special-type : (test : Attrs) → IsType (λ a. special a && test a)
special-type test = record { positive = none 0 zero-other; finite = finite-by 16 (λ a h. none a (λ k. omega (arith, special-bounds a k))) }
  where
    none : (a : ℕ) → (T (special a) → ⊥) → special a && test a ≡ false
    none a k = is_false _ (λ h. k (left (special a) (test a) h))

pub column-special : (a : ℕ) → T (special a) → column a ≡ a
column-special a h = column-of-special a (is_true (special a) h)

pub column-other : (a : ℕ) → (T (special a) → ⊥) → column a ≡ 0
column-other a h = column-of-other a (is_false (special a) h)

pub column-below : (a : ℕ) → column a < 16
column-below a = go (decided (special a))
  where
    go : T (special a) ⊎ (T (special a) → ⊥) → column a < 16
    go (inl h) = let bounds = special-bounds a h in rw (column-special a h) (omega arith)
    go (inr h) = rw (column-other a h) (omega arith)
