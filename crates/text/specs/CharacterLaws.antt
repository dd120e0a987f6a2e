-- Laws of numbers as characters.
use Rattle.std.specs.Prelude.{ℕ, ◌+◌, ◌/◌, ◌%◌, ◌≤◌, ◌<◌, ◌≡◌, Bool, cond, [], ◌∷◌}
use Rattle.std.proofs.Common.{sym, ap, lt-ltb, le-ltb}
use Rattle.text.specs.Characters.{decimal, hex_digit}

pub decimal-low : (n : ℕ) → n < 10 → (48 + n) ∷ [] ≡ decimal n
unfolding decimal
decimal-low n h = sym (ap (λ (t : Bool). cond t ((48 + n) ∷ []) ((48 + n / 10) ∷ (48 + n % 10) ∷ [])) (lt-ltb n 10 h))

pub decimal-high : (n : ℕ) → 10 ≤ n → (48 + n / 10) ∷ (48 + n % 10) ∷ [] ≡ decimal n
unfolding decimal
decimal-high n h = sym (ap (λ (t : Bool). cond t ((48 + n) ∷ []) ((48 + n / 10) ∷ (48 + n % 10) ∷ [])) (le-ltb n 10 h))

pub hex-low : (d : ℕ) → d < 10 → 48 + d ≡ hex_digit d
unfolding hex_digit
hex-low d h = sym (ap (λ (t : Bool). cond t (48 + d) (87 + d)) (lt-ltb d 10 h))

pub hex-high : (d : ℕ) → 10 ≤ d → 87 + d ≡ hex_digit d
unfolding hex_digit
hex-high d h = sym (ap (λ (t : Bool). cond t (48 + d) (87 + d)) (le-ltb d 10 h))
