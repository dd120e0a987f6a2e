-- The attributes of some of the entries: of those that a relation holds, for one.
use Rattle.std.specs.Prelude.{ℕ, ◌≤◌, ◌<◌, Bool, cond, List, [], ◌∷◌, length, get_or}
use Rattle.bits.specs.Bit.{bit}
use Rattle.membership.specs.Entries.{attribute_of}

-- the attributes of the entries that pass a test
abbrev pub kept : (ℕ → Bool) → List ℕ → List ℕ
kept test [] = []
kept test (e ∷ es) = cond (test e) (attribute_of e ∷ kept test es) (kept test es)

-- of those whose subset has relation r, which is one of eight
abbrev pub held_by : ℕ → List ℕ → List ℕ
held_by r es = kept (λ e. bit e r) es

-- so many entries are there, and each is below 2 ^ 24
pub record ItemsFit (items : List ℕ) (count : ℕ) : Type 0 where
  pub enough : count ≤ length items
  pub below : (i : ℕ) → i < count → get_or items i 0 < 16777216
