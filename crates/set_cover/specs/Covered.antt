-- That a list of subsets leaves nothing uncovered, relation by relation.
use Rattle.std.specs.Prelude.{ℕ, suc, ◌+◌, ◌-◌, ◌≤◌, ◌<◌, ◌≡◌, refl, Bool, true, false, not, ◌&&◌, ◌||◌, List, ◌∷◌, length, get_or, drop, []}
use Rattle.std.proofs.Common.{sym, ap, ◌∙◌, add-one, drop_of_length-le, drop-cons}
use Rattle.std.specs.Int.Bits.{bit_and}
use Rattle.bits.specs.Bit.{bit}
use Rattle.bits.specs.Truth.{by-true}
use Rattle.set_cover.specs.Remainder.{rest}
use Rattle.set_cover.specs.Choice.{uncovered}

-- relation r is in one of the subsets
abbrev pub any_has : ℕ → List ℕ → Bool
any_has r [] = false
any_has r (x ∷ xs) = bit x r || any_has r xs

-- and in which
pub any_place : (r : ℕ) (xs : List ℕ) → any_has r xs ≡ true → (i : ℕ) × (bit (get_or xs i 0) r ≡ true)
any_place r [] is = absurd (by-true is)
any_place r (x ∷ xs) is = go (bit x r) refl (any_place r xs) is
  where
    go : (t : Bool) → bit x r ≡ t → (any_has r xs ≡ true → (i : ℕ) × (bit (get_or xs i 0) r ≡ true)) → t || any_has r xs ≡ true → (i : ℕ) × (bit (get_or (x ∷ xs) i 0) r ≡ true)
    go true has rest is = (0, has)
    go false lacks rest is = let found = rest is in (suc found.0, found.1)

-- each of them is below N
abbrev pub EachBelow : ℕ → List ℕ → Type 0
EachBelow N [] = Unit {0}
EachBelow N (x ∷ xs) = (x < N) × EachBelow N xs

-- one after the other, from place i on
pub uncovered-next : (xs : List ℕ) (need i left : ℕ) → i < length xs → left ≡ bit_and need (255 - get_or xs i 0) → uncovered need (drop i xs) ≡ uncovered left (drop (i + 1) xs)
unfolding rest
uncovered-next xs need i left h is =
    ap (uncovered need) (drop-cons xs i 0 h ∙ ap (λ (k : ℕ). get_or xs i 0 ∷ drop k xs) (sym (add-one i))) ∙ ap (λ (n : ℕ). uncovered n (drop (i + 1) xs)) (sym is)

pub uncovered-ended : (xs : List ℕ) (need i : ℕ) → length xs ≤ i → uncovered need (drop i xs) ≡ need
uncovered-ended xs need i h = ap (uncovered need) (drop_of_length-le xs h)

pub twist : (n x y : Bool) → (n && not x) && not y ≡ n && not (x || y)
twist true true y = refl
twist true false y = refl
twist false x y = refl

pub keep : (n : Bool) → n ≡ n && not false
keep true = refl
keep false = refl

pub flip : (b : Bool) → not b ≡ false → b ≡ true
flip true e = refl
flip false e = sym e
