-- Tables in which every relation has an attribute, and the reading of schemas that refuses those with an empty record
-- (FORMAT 2.17, 8.4).
use Rattle.std.specs.Prelude.{ℕ, ◌<◌, ◌≡◌, Bool, false, cond, not, ◌||◌, List, [], ◌∷◌, eqb, get_or}
use Rattle.bits.specs.AllBelow.{all_below}
use Rattle.bits.specs.Bit.{bit}
use Rattle.refusal.specs.declared.Refusal.TheVariants.{EmptyRecord}
use Rattle.schema.specs.Schema.{Schema, refused_schema, schema_reading}
use Rattle.schema.specs.Judgement.{Judgement, Read, Refused}

-- relation r, which is one of eight, has one of the entries
abbrev pub holds_some : ℕ → List ℕ → Bool
holds_some r [] = false
holds_some r (e ∷ es) = bit e r || holds_some r es

-- FORMAT 2.17: each of m relations has a special attribute, by its map, or one of the entries
unfoldable pub table_filled : ℕ → List ℕ → List ℕ → Bool
table_filled m special entries = all_below m (λ r. not (eqb (get_or special r 0) 0) || holds_some r entries)

-- FORMAT 8.4: 25, once a schema is read
abbrev pub unless_empty : ℕ → Schema → Judgement → Schema
unless_empty m s (Refused r) = s
unless_empty m s Read = cond (table_filled m s.special s.entries) s (refused_schema EmptyRecord)

-- FORMAT 8.4: what the bytes of a schema of m relations say: 14 to 18, and then 25
unfoldable pub filled_reading : ℕ → List ℕ → Schema
filled_reading m bytes = unless_empty m (schema_reading m bytes) (schema_reading m bytes).judgement

-- the subset of the relations that have one of the entries
abbrev pub SomeHeld : ℕ → List ℕ → Type 0
SomeHeld s entries = (r : ℕ) → r < 8 → bit s r ≡ holds_some r entries
