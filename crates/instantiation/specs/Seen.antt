-- Attributes that were listed before, for 19 (FORMAT 6.2). Within one list attributes rise, so
-- none is listed twice there.
use Rattle.std.specs.Prelude.{ℕ, ◌/◌, ◌%◌, ◌≡◌, Bool, false, ◌||◌, List, [], ◌∷◌, eqb, length, get_or}
use Rattle.bits.specs.Bit.{bit}
use Rattle.bits.specs.Rising.{member}

-- no attribute was listed yet
abbrev pub nothing_seen : ℕ → Bool
nothing_seen a = false

-- one of the attributes was seen before, at the start or in the list
abbrev pub repeated_in : (ℕ → Bool) → List ℕ → Bool
repeated_in seen [] = false
repeated_in seen (x ∷ xs) = seen x || repeated_in (λ a. seen a || eqb a x) xs

-- the attributes whose bits stand
abbrev pub seen_in : List ℕ → ℕ → Bool
seen_in marks a = bit (get_or marks (a / 8) 0) (a % 8)

-- the attributes of the list are marked as well
pub record Marked (list before after : List ℕ) : Type 0 where
  pub size : length after ≡ length before
  pub marks : (a : ℕ) → seen_in after a ≡ seen_in before a || member a list
