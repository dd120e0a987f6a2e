-- What the code gathers on its way: the entries of an instantiation's lists in the order of the bytes, before they are
-- judged together and sorted.
use Rattle.std.specs.Prelude.{ℕ, ◌+◌, ◌*◌, ◌≤◌, ◌<◌, List, [], ◌∷◌, ◌++◌, map, length, take, Result, Ok, Err}
use Rattle.membership.specs.Entries.{entry, ListFits, TableIn}
use Rattle.instantiation.specs.Instantiation.{Lists}
use Rattle.refusal.specs.Several.{several_refused as lists_refused, several_read as lists_read}
use Rattle.refusal.specs.declared.Refusal.{Refusal}

-- the entries of these lists in the order of the bytes, under the subsets s, s + 1, ..
abbrev pub listed_from : ℕ → List (List ℕ) → List ℕ
listed_from s [] = []
listed_from s (l ∷ ls) = map (λ a. entry a s) l ++ listed_from (s + 1) ls

-- the lists before they are judged together: the first refusal, or the number of their entries, at most 256
abbrev pub gathered : Lists → Result ℕ Refusal
gathered (lists_refused r) = Err r
gathered (lists_read ls) = Ok (length (take 256 (listed_from 0 ls)))

-- and so many entries stand at the front of the slice, one for each two of so many bytes at most
abbrev pub GatheredIn : ℕ → Lists → List ℕ → Type 0
GatheredIn size (lists_refused r) items = Unit {0}
GatheredIn size (lists_read ls) items = TableIn (listed_from 0 ls) items (length (take 256 (listed_from 0 ls))) × (length (take 256 (listed_from 0 ls)) * 2 ≤ size)

-- a list of bytes whose entries are written after the first k entries of a slice, which has room
-- for them, up to 256 entries
pub record Appends (list : List ℕ) (count : ℕ) (items : List ℕ) (k : ℕ) : Type 0 where
  pub few : count ≤ 255
  pub fits : ListFits count list
  pub most : k ≤ 256
  pub enough : k ≤ length items
  pub room : (x : ℕ) → x < 256 → x < k + count → x < length items
