-- The laws of types, columns and holders.
use Rattle.std.specs.Prelude.{ℕ, ◌≤◌, ◌<◌, ◌^◌, ◌≡◌, refl, Bool, true, false, cond}
use Rattle.std.proofs.Common.{ap}
use Rattle.std.proofs.Math.Logic.{∥∥₁_prop}
use Rattle.bits.specs.Pack.{pack, pack-below}
use Rattle.attribute_set.specs.AttrSet.{special}
use Rattle.types.specs.Types.{Attrs, Assignment, Finite, column, holders}

-- a set with a bound is finite
pub finite-by : {t : Attrs} (bound : ℕ) → ((a : ℕ) → bound ≤ a → t a ≡ false) → Finite t
unfolding Finite
finite-by bound none = ∣ (bound, none) ∣₁

-- a finite set has a bound
pub finite-bound : {t : Attrs} → Finite t → ∥ ((bound : ℕ) × ((a : ℕ) → bound ≤ a → t a ≡ false)) ∥₁
unfolding Finite
finite-bound f = f

-- and which one does not matter
pub finite-prop : (t : Attrs) → IsProp (Finite t)
unfolding Finite
finite-prop t = ∥∥₁_prop

pub column-of-special : (a : ℕ) → special a ≡ true → column a ≡ a
unfolding column
column-of-special a e = ap (λ (b : Bool). cond b a 0) e

pub column-of-other : (a : ℕ) → special a ≡ false → column a ≡ 0
unfolding column
column-of-other a e = ap (λ (b : Bool). cond b a 0) e

-- the subset of the relations that hold an attribute
pub holders-packed : (m : ℕ) (A : Assignment) (a : ℕ) → holders m A a ≡ pack m (λ r. A r a)
unfolding holders
holders-packed m A a = refl

pub holders-below : (m : ℕ) (A : Assignment) (a : ℕ) → holders m A a < 2 ^ m
unfolding holders
holders-below m A a = pack-below m (λ r. A r a)
