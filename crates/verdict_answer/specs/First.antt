-- The first allowed subset of each column of a node, by fewest members (FORMAT 7.7, 7.8).
use Rattle.std.specs.Prelude.{ℕ, Bool, cond, ◌&&◌, List, eqb, ltb, leb}
use Rattle.bits.specs.Lowest.{lowest_from}
use Rattle.bits.specs.Tab.{tab}
use Rattle.types.specs.Memberships.{members}
use Rattle.column.specs.Column.{allowed_in}
use Rattle.stored_formula.specs.ColumnPlace.{column_at}
use Rattle.verdict_answer.specs.declared.Subsets.{Subsets}

-- which subsets each column of node k allows, as read off the work space; of an expression e of m relations it is
-- `allowed_bit m e`
abbrev pub allowed_at : List ℕ → ℕ → ℕ → ℕ → Bool
allowed_at work k i = allowed_in (column_at work k i)

-- ---- the first subset that passes a test; 256 where none does

-- by their numbers
abbrev pub lowest_in : (ℕ → Bool) → ℕ
lowest_in test = lowest_from 256 0 test

-- of those with n members, by their numbers
unfoldable pub lowest_with : ℕ → (ℕ → Bool) → ℕ
lowest_with n test = lowest_in (λ s. eqb (members s) n && test s)

-- FORMAT 7.8: by how many members they have, and then by their numbers
unfoldable pub fewest_in : (ℕ → Bool) → ℕ
fewest_in test = lowest_with (lowest_from 9 0 (λ n. ltb (lowest_with n test) 256)) test

-- the first that column i allows; 256 where it allows nothing
abbrev pub first_in : (ℕ → ℕ → Bool) → ℕ → ℕ
first_in allowed i = fewest_in (allowed i)

-- ---- by the first subset of each column

-- FORMAT 7.7: the lowest special attribute whose column allows nothing; 16 if there is none
unfoldable pub blocked_by : (ℕ → ℕ) → ℕ
blocked_by first = lowest_from 15 1 (λ i. eqb (first i) 256)

-- the same by what the columns allow
abbrev pub blocked_in : (ℕ → ℕ → Bool) → ℕ
blocked_in allowed = blocked_by (first_in allowed)

-- FORMAT 7.8: the subset of each special attribute below that one; 0 for any other number
unfoldable pub chosen_by : (ℕ → ℕ) → List ℕ
chosen_by first = tab 16 (λ i. cond (ltb i (blocked_by first) && leb 1 i) (first i) 0)

-- both, as the code finds them
unfoldable pub subsets_by : (ℕ → ℕ) → Subsets
subsets_by first = record { blocked = blocked_by first; chosen = chosen_by first }
