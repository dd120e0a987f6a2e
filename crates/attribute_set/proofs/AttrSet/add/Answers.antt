use mathlib.Core.Path.{◌≡◌, sym, ap, ◌∙◌}
use Prim.Native.Nat.{ℕ, ◌≤◌, ◌*◌, ◌^◌, ◌%◌}
use native.Mathlib.Nat.{one-mul, mod-eq_of_lt}
use native.Mathlib.Omega.{arith}
use lib.Pow.{pow-lt}
use Rattle.attribute_set.specs.Laws.{special-range}
use Rattle.attribute_set.specs.AttrSet.{with_attribute, set_of}
use Rattle.attribute_set.proofs.AttrSet.add.Goals as goal

-- a power of two below the width is not cut
power : (a : ℕ) → a ≤ 15 → 1 * 2 ^ a % 65536 ≡ 2 ^ a
power a h = ap (λ (p : ℕ). p % 65536) (one-mul (2 ^ a)) ∙ mod-eq_of_lt (pow-lt {j = 16} (omega arith))

pub overflow_shl-result : goal.overflow_shl-result
overflow_shl-result c = omega (arith, special-range _ (sym c.is_special.ensures ∙ c.if-is_special.true))

pub returns-then-is_special : goal.returns-then-is_special
unfolding with_attribute set_of
returns-then-is_special c =
    let special = sym c.is_special.ensures ∙ c.if-is_special.true in
    simp (special, power _ (special-range _ special).1)

pub returns-else-is_special : goal.returns-else-is_special
unfolding with_attribute
returns-else-is_special c = simp (← c.is_special.ensures, c.if-is_special.false)
