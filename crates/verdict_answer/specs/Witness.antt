-- The choice that Verdict takes, and the schema that it is: the witness (FORMAT 7.8, 7.26).
use Rattle.std.specs.Prelude.{ℕ, ◌+◌, ◌-◌, ◌^◌, Bool, List, [], ◌∷◌, take, drop}
use Rattle.type_record.specs.Record.{TypeRecord}
use Rattle.membership.specs.Entries.{entry}
use Rattle.special_maps.specs.Special.{maps_from}
use Rattle.schema.specs.Schema.{schema_bytes, records_of}
use Rattle.set_cover.specs.Cost.{cost}
use Rattle.set_cover.specs.Choice.{best}

-- ---- by what the columns of a node allow, for m relations

-- FORMAT 7.26: the fewest memberships by which all relations are filled; `infinity` where they cannot be
abbrev pub cost_in : ℕ → (ℕ → ℕ → Bool) → ℕ
cost_in m allowed = cost (2 ^ m) allowed 15 (2 ^ m - 1)

-- FORMAT 7.26: of the choices with so few the lowest: the subsets of attributes 1 to 15, and then the variables
abbrev pub choice_in : ℕ → (ℕ → ℕ → Bool) → List ℕ
choice_in m allowed = best (2 ^ m) allowed 15 (2 ^ m - 1)

-- ---- by the choice

-- the subset of each of 16 attributes, by number; there is no attribute 0
unfoldable pub specials_of : List ℕ → List ℕ
specials_of choice = 0 ∷ take 15 choice

-- one ordinary attribute for each variable, in turn, from attribute a on
abbrev pub numbered : ℕ → List ℕ → List ℕ
numbered a [] = []
numbered a (v ∷ vs) = entry a v ∷ numbered (a + 1) vs

-- FORMAT 7.26: from 16 on
unfoldable pub ordinaries_of : List ℕ → List ℕ
ordinaries_of choice = numbered 16 (drop 15 choice)

-- FORMAT 7.8: the records of the witness
abbrev pub witness_records : ℕ → List ℕ → List TypeRecord
witness_records m choice = records_of m (maps_from (specials_of choice)) (ordinaries_of choice)

-- FORMAT 7.8: its bytes
unfoldable pub witness_bytes : ℕ → List ℕ → List ℕ
witness_bytes m choice = schema_bytes (witness_records m choice)
