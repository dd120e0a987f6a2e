-- Numbers as characters (FORMAT 7.16).
use Rattle.std.specs.Prelude.{ℕ, ◌+◌, ◌/◌, ◌%◌, cond, List, [], ◌∷◌, ltb}

-- FORMAT 7.16: a number below 100, without leading zeros
unfoldable pub decimal : ℕ → List ℕ
decimal n = cond (ltb n 10) ((48 + n) ∷ []) ((48 + n / 10) ∷ (48 + n % 10) ∷ [])

-- FORMAT 7.16: a hexadecimal digit, with small letters
unfoldable pub hex_digit : ℕ → ℕ
hex_digit d = cond (ltb d 10) (48 + d) (87 + d)

-- FORMAT 7.16: a space and the two digits of s
unfoldable pub subset_text : ℕ → List ℕ
subset_text s = 32 ∷ hex_digit (s / 16) ∷ hex_digit (s % 16) ∷ []

-- FORMAT 7.15: the end of a line
abbrev pub newline : List ℕ
newline = 10 ∷ []
