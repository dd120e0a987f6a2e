-- A number between two bounds.
use Rattle.std.specs.Prelude.{ℕ, ◌≤◌, ◌≡◌, Bool, true, false, ◌&&◌, leb}
use Rattle.std.proofs.Common.{leb-true, le-leb}

-- x is one of low to high, both included
unfoldable pub in_range : ℕ → ℕ → ℕ → Bool
in_range low high x = leb low x && leb x high

both : (a b : Bool) → a && b ≡ true → (a ≡ true) × (b ≡ true)
both true true e = (e, e)
both true false e = (search, e)
both false b e = (e, search)

pub in-range : (low high x : ℕ) → in_range low high x ≡ true → (low ≤ x) × (x ≤ high)
unfolding in_range
in-range low high x e = let h = both (leb low x) (leb x high) e in (leb-true low x h.0, leb-true x high h.1)

pub range-in : (low high x : ℕ) → low ≤ x → x ≤ high → in_range low high x ≡ true
unfolding in_range
range-in low high x l h = rw (le-leb low x l, le-leb x high h)
