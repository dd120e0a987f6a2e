-- Instantiations (FORMAT 6.1, 6.2, 8.4).
use Rattle.std.specs.Prelude.{ℕ, zero, suc, ◌+◌, ◌-◌, ◌*◌, ◌/◌, ◌%◌, ◌≤◌, ◌≡◌, Bool, true, false, cond, not, List, [], ◌∷◌, ◌++◌, eqb, ltb, length, get_or, drop, Result, Ok, Err}
use Rattle.bits.specs.Bit.{bit}
use Rattle.bits.specs.Pack.{pack}
use Rattle.bits.specs.Tab.{tab}
use Rattle.refusal.specs.declared.Refusal.{Refusal}
use Rattle.refusal.specs.declared.Refusal.TheVariants.{InputTruncated, InputFollowed, TooManyAttributes, RepeatedAttribute}
use Rattle.refusal.specs.Several.{Several, several_refused as lists_refused, several_read as lists_read, precede, at_end}
use Rattle.type_record.specs.Lists.{read_list, listed, list_bytes}
use Rattle.membership.specs.Entries.{attribute_of, subset_of, enter}
use Rattle.membership.specs.Holders.{ItemsFit}
use Rattle.instantiation.specs.declared.InstantiationTable.{InstantiationTable}
use Rattle.instantiation.specs.Seen.{nothing_seen, repeated_in}
use Rattle.schema.specs.Judgement.{Judgement, Read, Refused}

-- FORMAT 9.11: the bytes of the longest instantiation, and the least length of a slice for one
abbrev pub instantiation_size : ℕ
instantiation_size = 812

-- ---- the lists

-- FORMAT 6.1: whether the bit of s stands in the plane after the 15 bytes
abbrev pub standing : List ℕ → ℕ → Bool
standing bytes s = bit (get_or bytes (15 + s / 8) 0) (s % 8)

-- FORMAT 6.2: a list for each subset from some number on, empty where the bit is clear; or the first refusal
abbrev pub Lists : Type 0
Lists = Several (List ℕ)

-- what a list's reading gives, with the reading of what follows it
abbrev pub follow : Result ℕ Refusal → List ℕ → (List ℕ → Lists) → Lists
follow (Err r) bytes rest = lists_refused r
follow (Ok n) bytes rest = precede (listed n bytes) (rest (drop (n * 2 + 1) bytes))

-- FORMAT 6.1, 8.4: the lists of so many subsets from s on, in the order of the bytes, and then 17
unfoldable pub read_lists : List ℕ → ℕ → ℕ → List ℕ → Lists
read_lists whole zero s bytes = at_end InputFollowed bytes
read_lists whole (suc left) s bytes = elim (standing whole s) [ true ↦ follow (read_list bytes) bytes (read_lists whole left (s + 1)) | false ↦ precede [] (read_lists whole left (s + 1) bytes) ]

-- ---- the membership table

-- the entries, once the relations in s, s + 1, .. hold these lists
abbrev pub entries_from : ℕ → List (List ℕ) → List ℕ → List ℕ
entries_from s [] es = es
entries_from s (l ∷ ls) es = entries_from (s + 1) ls (enter s l es)

-- the entries of all lists, the first being that of subset 0
unfoldable pub entries_in : List (List ℕ) → List ℕ
entries_in ls = entries_from 0 ls []

-- all attributes that are listed
abbrev pub all_listed : List (List ℕ) → List ℕ
all_listed [] = []
all_listed (l ∷ ls) = l ++ all_listed ls

-- FORMAT 6.1: the subset given to each special attribute, by its number
unfoldable pub subsets_of : List ℕ → List ℕ
subsets_of bytes = tab 16 (λ i. cond (eqb i 0) 0 (get_or bytes (i - 1) 0))

-- ---- reading

-- what the bytes of an instantiation say: whether it is refused, and if not its membership table
pub record Instantiation : Type 0 where
  pub judgement : Judgement
  -- the subset given to each special attribute, by its number
  pub subsets : List ℕ
  pub entries : List ℕ

-- a refused instantiation: its table is empty
unfoldable pub refused_instantiation : Refusal → Instantiation
refused_instantiation r = record { judgement = Refused r; subsets = tab 16 (λ i. 0); entries = [] }

-- FORMAT 8.4: 19 and then 18, once the lists are read; and the membership table
abbrev pub tabled : Lists → List ℕ → Instantiation
tabled (lists_refused r) bytes = refused_instantiation r
tabled (lists_read ls) bytes =
    cond (repeated_in nothing_seen (all_listed ls)) (refused_instantiation RepeatedAttribute)
    (cond (ltb 255 (length (entries_in ls))) (refused_instantiation TooManyAttributes)
    (record { judgement = Read; subsets = subsets_of bytes; entries = entries_in ls }))

-- FORMAT 8.4: what the bytes of an instantiation say; 14 below 47 bytes
unfoldable pub instantiation_reading : List ℕ → Instantiation
instantiation_reading bytes =
    cond (ltb (length bytes) 47) (refused_instantiation InputTruncated) (tabled (read_lists bytes 256 0 (drop 47 bytes)) bytes)

-- the same as it is handed on, with the number of the entries
abbrev pub handed : Judgement → Instantiation → Result InstantiationTable Refusal
handed Read i = Ok (record { subsets = i.subsets; count = length i.entries })
handed (Refused r) i = Err r

-- the same by its judgement
unfoldable pub reading_of : Instantiation → Result InstantiationTable Refusal
reading_of i = handed i.judgement i

-- ---- writing

-- the attributes of the entries whose subset is s
abbrev pub with_subset : ℕ → List ℕ → List ℕ
with_subset s [] = []
with_subset s (e ∷ es) = cond (eqb (subset_of e) s) (attribute_of e ∷ with_subset s es) (with_subset s es)

-- FORMAT 7.11: the list of each subset that a table says
unfoldable pub lists_of : List ℕ → List (List ℕ)
lists_of es = tab 256 (λ s. with_subset s es)

-- FORMAT 6.1: the lists that are not empty, one after the other
abbrev pub lists_bytes : List (List ℕ) → List ℕ
lists_bytes [] = []
lists_bytes (l ∷ ls) = list_bytes l ++ lists_bytes ls

-- FORMAT 6.1: byte j of the plane, with the bits of the subsets whose list is not empty
unfoldable pub map_byte : List (List ℕ) → ℕ → ℕ
map_byte ls j = pack 8 (λ i. not (eqb (length (get_or ls (j * 8 + i) [])) 0))

-- FORMAT 6.1: the bytes of an instantiation
unfoldable pub instantiation_bytes : List ℕ → List (List ℕ) → List ℕ
instantiation_bytes subsets ls = tab 15 (λ i. get_or subsets (i + 1) 0) ++ (tab 32 (map_byte ls) ++ lists_bytes ls)

-- what a table that is written must be: a subset for each special attribute, at most 255 entries below 2 ^ 24
pub record WritesFrom (subsets items : List ℕ) (count : ℕ) : Type 0 where
  pub special : length subsets ≡ 16
  pub few : count ≤ 255
  pub fit : ItemsFit items count
