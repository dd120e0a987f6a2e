-- The laws of columns: a set of special attributes cannot tell an attribute from its column.
use Rattle.std.specs.Prelude.{ℕ, ◌≡◌, refl, Bool, true, false, eqb}
use Rattle.std.proofs.Common.{sym, ap, ◌∙◌, true≢false, eqb-true}
use Rattle.bits.specs.Booleans.{is_false}
use Rattle.attribute_set.specs.AttrSet.{special}
use Rattle.attribute_set.specs.Laws.{special-zero}
use Rattle.types.specs.Types.{Attrs, ◌⊆◌, column}
use Rattle.types.specs.Laws.{column-of-special, column-of-other}

-- no set of special attributes tells c from d
abbrev pub Alike : ℕ → ℕ → Type 0
Alike c d = (s : Attrs) → s ⊆ special → s c ≡ s d

-- the set of one attribute
abbrev pub single : ℕ → Attrs
single x = λ a. eqb a x

pub single-within : (x : ℕ) (t : Attrs) → t x ≡ true → single x ⊆ t
single-within x t h a e = rw (eqb-true a x e) h

-- a set of special attributes lacks every other
pub absent : (s : Attrs) → s ⊆ special → (a : ℕ) → special a ≡ false → s a ≡ false
absent s named a h = is_false _ (λ e. true≢false (sym (named a e) ∙ h))

pub absent-zero : (s : Attrs) → s ⊆ special → s 0 ≡ false
absent-zero s named = absent s named 0 special-zero

alike-zero : (a : ℕ) → special a ≡ false → Alike 0 a
alike-zero a h s named = absent-zero s named ∙ sym (absent s named a h)

pub alike-column : (a : ℕ) → Alike (column a) a
alike-column a = go (special a) refl
  where
    go : (t : Bool) → special a ≡ t → Alike (column a) a
    go true e = λ s named. ap s (column-of-special a e)
    go false e = rw (column-of-other a e) (alike-zero a e)
