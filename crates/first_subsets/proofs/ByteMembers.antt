-- The members of the subsets that a column allows, byte by byte: byte h of the allowed plane is of the subsets whose
-- relations from 3 on are h, and its bit t of the one whose first three are t.
use Rattle.std.specs.Prelude.{ℕ, ◌+◌, ◌/◌, ◌%◌, ◌≤◌, ◌<◌, min, ◌≡◌, Bool, true, not, ◌||◌, List, leb, get_or}
use Rattle.std.proofs.Common.{sym, ap, ◌∙◌, arith, leb-true}
use Rattle.std.proofs.Math.Bool.{and-eq-true_iff}
use Rattle.std.proofs.Math.Decide.{dec_lt}
use Rattle.std.specs.Int.Count.{ones}
use Rattle.bits.specs.AllBelow.{all_below, all_in}
use Rattle.bits.specs.Bit.{bit}
use Rattle.types.specs.Memberships.{members, members-some, members-ones, members-split}
use Rattle.column.specs.ColumnLaws.{allowed-bit}
use Rattle.first_subsets.specs.ByteMembers.{FewestBelow, NoneFewer, byte-test, fewest_in_byte, fewest_right}

module _ (x : ℕ) (h : x < 256) where
  passed : (leb (fewest_in_byte x) 9 ≡ true) × (all_below 8 (λ t. not (bit x t) || leb (fewest_in_byte x) (members t)) ≡ true)
  passed = (and-eq-true_iff (leb (fewest_in_byte x) 9) (all_below 8 (λ t. not (bit x t) || leb (fewest_in_byte x) (members t)))).0 (all_in 256 fewest_right byte-test x h)

  pub byte-most : fewest_in_byte x ≤ 9
  byte-most = leb-true (fewest_in_byte x) 9 passed.0

  byte-least : (t : ℕ) → t < 8 → bit x t ≡ true → fewest_in_byte x ≤ members t
  byte-least t below stands =
      leb-true (fewest_in_byte x) (members t)
      (sym (ap (λ (b : Bool). not b || leb (fewest_in_byte x) (members t)) stands) ∙ all_in 8 (λ t. not (bit x t) || leb (fewest_in_byte x) (members t)) passed.1 t below)

-- ---- of a column

pub fewest-next : (column : List ℕ) (i n : ℕ) → FewestBelow column i n → i < 256 → get_or column i 0 < 256 → FewestBelow column (i + 1) (min n (ones i + fewest_in_byte (get_or column i 0)))
fewest-next column i n before small byte =
    let few = before.few in
    record { few = omega arith; least = λ h t below bits stands. each h t bits stands (dec_lt h i) below }
  where
    each : (h t : ℕ) → t < 8 → bit (get_or column h 0) t ≡ true → Dec (h < i) → h < i + 1 → min n (ones i + fewest_in_byte (get_or column i 0)) ≤ members h + members t
    each h t bits stands (yes earlier) below = let least = before.least h t earlier bits stands in omega arith
    each h t bits stands (no later) below =
        let here : h ≡ i = omega arith in
        let least = byte-least (get_or column i 0) byte t bits (rw here at stands) in
        let same = members-ones i small in
        rw here (omega arith)

-- by the first byte alone
pub fewest-first-byte : (column : List ℕ) (n : ℕ) → n ≡ fewest_in_byte (get_or column 0 0) → get_or column 0 0 < 256 → n < 2 → NoneFewer column n
fewest-first-byte column n is byte few = (omega arith, λ s below allowed. rw (members-split s below) (go s below (sym (allowed-bit column s) ∙ allowed) (dec_lt (s / 8) 1)))
  where
    go : (s : ℕ) → s < 256 → bit (get_or column (s / 8) 0) (s % 8) ≡ true → Dec (s / 8 < 1) → n ≤ members (s / 8) + members (s % 8)
    go s below stands (yes first) =
        let here : s / 8 ≡ 0 = omega arith in
        let least = byte-least (get_or column 0 0) byte (s % 8) (omega arith) (rw here at stands) in
        omega arith
    go s below stands (no later) = let some = members-some (s / 8) (omega arith) (omega arith) in omega arith
