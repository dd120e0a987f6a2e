-- The relations that still need an attribute once those of a subset have one.
use Rattle.std.specs.Prelude.{ℕ, ◌-◌, ◌≤◌, ◌<◌, ◌≡◌, refl, Bool, true, false, not, ◌&&◌, ◌||◌, ◌⊎◌}
use Rattle.std.proofs.Common.{sym, ap, ◌∙◌, inl, inr, mod-eq_of_lt, arith}
use Rattle.std.specs.Int.Bits.{bit_and}
use Rattle.std.proofs.lemmas.Nat.{and_le_l, and_mask}
use Rattle.bits.specs.Bit.{bit, bit-and, bit_not}
use Rattle.bits.specs.Booleans.{and_left}
use Rattle.bits.specs.Pack.{bits-once}
use Rattle.types.specs.Memberships.{members, members-fewer}

-- the relations of `need` that are not in s
unfoldable pub rest : ℕ → ℕ → ℕ
rest need s = bit_and need (255 - s)

pub rest-and : (need s : ℕ) → rest need s ≡ bit_and need (255 - s)
unfolding rest
rest-and need s = refl

pub rest-least : (need s : ℕ) → rest need s ≤ need
unfolding rest
rest-least need s = and_le_l need (255 - s)

-- the empty subset leaves all
pub rest-none : (need : ℕ) → need < 256 → rest need 0 ≡ need
unfolding rest
rest-none need h = and_mask need 8 ∙ mod-eq_of_lt h

pub rest-bit : (need s j : ℕ) → s < 256 → j < 8 → bit (rest need s) j ≡ bit need j && not (bit s j)
unfolding rest
rest-bit need s j hs hj = bit-and need (255 - s) j ∙ ap (λ (b : Bool). bit need j && b) (bit_not 8 s j hs hj)

pub both : (n a b : Bool) → (n && not a) && not b ≡ n && not (a || b)
both true true b = refl
both true false b = refl
both false a b = refl

swap : (n a b : Bool) → (n && a) && b ≡ (n && b) && a
swap true true true = refl
swap true true false = refl
swap true false true = refl
swap true false false = refl
swap false a b = refl

twice : (n a : Bool) → (n && a) && a ≡ n && a
twice true true = refl
twice true false = refl
twice false a = refl

-- two subsets leave the same in either order
pub rest-swap : (need a b : ℕ) → need < 256 → rest (rest need a) b ≡ rest (rest need b) a
unfolding rest
rest-swap need a b h =
    let la = and_le_l need (255 - a) in
    let lb = and_le_l need (255 - b) in
    let lab = and_le_l (bit_and need (255 - a)) (255 - b) in
    let lba = and_le_l (bit_and need (255 - b)) (255 - a) in
    bits-once 8 _ _ (omega arith) (omega arith)
    (λ j l.
    bit-and (bit_and need (255 - a)) (255 - b) j
    ∙ ap (λ (x : Bool). x && bit (255 - b) j) (bit-and need (255 - a) j)
    ∙ swap (bit need j) (bit (255 - a) j) (bit (255 - b) j)
    ∙ sym (bit-and (bit_and need (255 - b)) (255 - a) j ∙ ap (λ (x : Bool). x && bit (255 - a) j) (bit-and need (255 - b) j)))

-- the same subset a second time leaves what it left
pub rest-again : (need a : ℕ) → need < 256 → rest (rest need a) a ≡ rest need a
unfolding rest
rest-again need a h =
    let la = and_le_l need (255 - a) in
    let laa = and_le_l (bit_and need (255 - a)) (255 - a) in
    bits-once 8 _ _ (omega arith) (omega arith)
    (λ j l.
    bit-and (bit_and need (255 - a)) (255 - a) j
    ∙ ap (λ (x : Bool). x && bit (255 - a) j) (bit-and need (255 - a) j)
    ∙ twice (bit need j) (bit (255 - a) j)
    ∙ sym (bit-and need (255 - a) j))

-- a remainder that is another number has fewer members
pub rest-fewer : (need s : ℕ) → need < 256 → rest need s < need → members (rest need s) < members need
unfolding rest
rest-fewer need s h less = go (members-fewer (bit_and need (255 - s)) need (omega arith) h (λ j l e. and_left (bit need j) (bit (255 - s) j) (sym (bit-and need (255 - s) j) ∙ e)))
  where
    go : (members (bit_and need (255 - s)) < members need) ⊎ (bit_and need (255 - s) ≡ need) → members (bit_and need (255 - s)) < members need
    go (inl fewer) = fewer
    go (inr same) = absurd (omega arith)
