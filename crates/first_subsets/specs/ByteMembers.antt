-- The members of the subsets that a column allows, byte by byte: byte h of the allowed plane is of the subsets whose
-- relations from 3 on are h, and its bit t of the one whose first three are t.
use Rattle.std.specs.Prelude.{ℕ, ◌+◌, ◌-◌, ◌*◌, ◌/◌, ◌%◌, ◌≤◌, ◌<◌, min, ◌≡◌, refl, Bool, true, not, ◌&&◌, ◌||◌, List, leb, get_or}
use Rattle.std.proofs.Common.{sym, ◌∙◌, arith}
use Rattle.std.specs.Int.Bits.{bit_and}
use Rattle.bits.specs.AllBelow.{all_below}
use Rattle.bits.specs.Bit.{bit}
use Rattle.bits.specs.Total.{total}
use Rattle.types.specs.Memberships.{members, members-split}
use Rattle.column.specs.Column.{allowed_in}
use Rattle.column.specs.ColumnLaws.{allowed-bit}

-- the fewest members of a subset of three relations whose bit stands in a byte; 9 if none does
unfoldable pub fewest_in_byte : ℕ → ℕ
fewest_in_byte x = 9 - min x 1 * 6 - min (bit_and x 127) 1 - min (bit_and x 23) 1 - x % 2

-- at most 9, and no subset of three relations whose bit stands in the byte has fewer members
abbrev pub fewest_right : ℕ → Bool
fewest_right x = leb (fewest_in_byte x) 9 && all_below 8 (λ t. not (bit x t) || leb (fewest_in_byte x) (members t))

-- antt computes it for every byte and every bit
pub byte-test : all_below 256 fewest_right ≡ true
unfolding fewest_in_byte members total bit
byte-test = refl

-- ---- of a column

-- no subset that the column allows has fewer than n members
abbrev pub NoneFewer : List ℕ → ℕ → Type 0
NoneFewer column n = (n ≤ 9) × ((s : ℕ) → s < 256 → allowed_in column s ≡ true → n ≤ members s)

-- none whose byte is below i has fewer
pub record FewestBelow (column : List ℕ) (i n : ℕ) : Type 0 where
  pub few : n ≤ 9
  pub least : (h t : ℕ) → h < i → t < 8 → bit (get_or column h 0) t ≡ true → n ≤ members h + members t

pub fewest-none : (column : List ℕ) → FewestBelow column 0 9
fewest-none column = record { few = omega arith; least = λ h t below. absurd (omega arith) }

pub fewest-all : (column : List ℕ) (i n : ℕ) → FewestBelow column i n → 32 ≤ i → NoneFewer column n
fewest-all column i n before all = (
  before.few,
  λ s below allowed. rw (members-split s below) (before.least (s / 8) (s % 8) (omega arith) (omega arith) (sym (allowed-bit column s) ∙ allowed)),
)
