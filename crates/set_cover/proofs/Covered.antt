-- That a list of subsets leaves nothing uncovered, relation by relation.
use Rattle.std.specs.Prelude.{ℕ, ◌-◌, ◌≤◌, ◌<◌, ◌^◌, ◌≡◌, ◌↔◌, Bool, true, not, ◌&&◌, List, ◌∷◌, []}
use Rattle.std.proofs.Common.{sym, ap, ◌∙◌, arith, pow_pos}
use Rattle.bits.specs.Bit.{bit, bit-none, bit-ones}
use Rattle.bits.specs.Pack.{bits-once}
use Rattle.set_cover.specs.Remainder.{rest, rest-least, rest-bit}
use Rattle.set_cover.specs.Choice.{uncovered}
use Rattle.set_cover.specs.Covered.{EachBelow, any_has, flip, keep, twist}

-- a relation of `need` is uncovered where it is in none
pub uncovered-bit : (r : ℕ) → r < 8 → (xs : List ℕ) (need : ℕ) → EachBelow 256 xs → bit (uncovered need xs) r ≡ bit need r && not (any_has r xs)
uncovered-bit r hr [] need below = keep (bit need r)
uncovered-bit r hr (x ∷ xs) need below =
    uncovered-bit r hr xs (rest need x) below.1
    ∙ ap (λ (b : Bool). b && not (any_has r xs)) (rest-bit need x r below.0 hr)
    ∙ twist (bit need r) (bit x r) (any_has r xs)

uncovered-least : (xs : List ℕ) (need : ℕ) → uncovered need xs ≤ need
uncovered-least [] need = omega arith
uncovered-least (x ∷ xs) need = let h = rest-least need x in let t = uncovered-least xs (rest need x) in omega arith

-- nothing of all m relations is uncovered exactly where each is in one of the subsets
pub fills-is : (m : ℕ) → m ≤ 8 → (xs : List ℕ) → EachBelow 256 xs → (uncovered (2 ^ m - 1) xs ≡ 0) ↔ ((r : ℕ) → r < m → any_has r xs ≡ true)
fills-is m few xs below = (out, into)
  where
    bits : (r : ℕ) → r < m → bit (uncovered (2 ^ m - 1) xs) r ≡ not (any_has r xs)
    bits r h = uncovered-bit r (omega arith) xs (2 ^ m - 1) below ∙ ap (λ (b : Bool). b && not (any_has r xs)) (bit-ones m r h)

    out : uncovered (2 ^ m - 1) xs ≡ 0 → (r : ℕ) → r < m → any_has r xs ≡ true
    out e r h = flip (any_has r xs) (sym (bits r h) ∙ ap (λ (x : ℕ). bit x r) e ∙ bit-none r)

    into : ((r : ℕ) → r < m → any_has r xs ≡ true) → uncovered (2 ^ m - 1) xs ≡ 0
    into all =
        let t = uncovered-least xs (2 ^ m - 1) in
        let p = pow_pos m in
        bits-once m (uncovered (2 ^ m - 1) xs) 0 (omega arith) (omega arith) (λ r h. bits r h ∙ ap not (all r h) ∙ sym (bit-none r))
