-- Tests as statements.
use Rattle.std.specs.Prelude.{◌≡◌, refl, Bool, true, false, not, ◌&&◌, ◌↔◌, ◌⊎◌, T}
use Rattle.std.proofs.Common.{sym, subst, inl, inr}
use Rattle.std.proofs.Math.Dec.{T_prop}

pub is_true : (b : Bool) → T b → b ≡ true
is_true true h = refl
is_true false h = absurd h

pub is_false : (b : Bool) → (T b → ⊥) → b ≡ false
is_false true h = absurd (h tt)
is_false false h = refl

pub by-true : {b : Bool} → b ≡ true → T b
by-true e = subst T (sym e) tt

pub by-false : {b : Bool} → b ≡ false → T b → ⊥
by-false e h = subst T e h

pub decided : (b : Bool) → T b ⊎ (T b → ⊥)
decided true = inl tt
decided false = inr (λ h. h)

pub not-not : (b : Bool) → (T (not b) → ⊥) → T b
not-not true h = tt
not-not false h = h tt

-- tests that pass together are equal
pub same_test : (x y : Bool) → T x ↔ T y → x ≡ y
same_test true y h = sym (is_true y (h.0 tt))
same_test false y h = sym (is_false y h.1)

-- ---- both

pub both : (a b : Bool) → T a → T b → T (a && b)
both true b h k = k
both false b h k = h

pub left : (a b : Bool) → T (a && b) → T a
left true b h = tt
left false b h = h

pub right : (a b : Bool) → T (a && b) → T b
right true b h = h
right false b h = absurd h

-- what holds with one proof of a test holds with any
pub any-proof : (b : Bool) (P : T b → Type 0) (h k : T b) → P h → P k
any-proof b P h k p = subst P (T_prop b h k) p
