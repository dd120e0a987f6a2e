-- Texts one after the other.
use Rattle.std.specs.Prelude.{ℕ, zero, suc, ◌+◌, ◌<◌, ◌≡◌, refl, List, [], ◌++◌}
use Rattle.std.proofs.Common.{sym, ap, ap₂, add-one, arith}

-- f 0, f 1, .., n texts one after the other
unfoldable pub each : ℕ → (ℕ → List ℕ) → List ℕ
each zero f = []
each (suc n) f = each n f ++ f n

-- one text more
pub each_next : (n : ℕ) (f : ℕ → List ℕ) → each n f ++ f n ≡ each (n + 1) f
unfolding each
each_next n f = ap (λ (k : ℕ). each k f) (sym (add-one n))

-- functions that agree below n
pub each_same : (n : ℕ) (f g : ℕ → List ℕ) → ((i : ℕ) → i < n → f i ≡ g i) → each n f ≡ each n g
unfolding each
each_same zero f g e = refl
each_same (suc n) f g e = ap₂ ◌++◌ (each_same n f g (λ i h. e i (omega arith))) (e n (omega arith))

pub each_none : (f : ℕ → List ℕ) → [] ≡ each 0 f
unfolding each
each_none f = refl
