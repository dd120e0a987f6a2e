-- The ordinary attributes of a schema or an instantiation, in rising order, each with the subset of
-- the relations that hold it.
use Rattle.std.specs.Prelude.{ℕ, ◌+◌, ◌*◌, ◌/◌, ◌%◌, ◌≤◌, ◌<◌, ◌≡◌, cond, List, [], ◌∷◌, eqb, ltb, length, take}
use Rattle.std.specs.Int.Bits.{bit_or}

-- an entry: an attribute and a subset, as one number
abbrev pub entry : ℕ → ℕ → ℕ
entry a s = a * 256 + s

-- the attribute of an entry
abbrev pub attribute_of : ℕ → ℕ
attribute_of e = e / 256

-- its subset
abbrev pub subset_of : ℕ → ℕ
subset_of e = e % 256

-- the subset of the relations that hold attribute a
abbrev pub holders_in : List ℕ → ℕ → ℕ
holders_in [] a = 0
holders_in (e ∷ es) a = cond (eqb a (attribute_of e)) (subset_of e) (holders_in es a)

-- the entries once a rising list of attributes is held by the relations in s as well
unfoldable pub enter : ℕ → List ℕ → List ℕ → List ℕ
enter s [] es = es
enter s (a ∷ more) [] = entry a s ∷ enter s more []
enter s (a ∷ more) (e ∷ es) =
    cond (ltb a (attribute_of e)) (entry a s ∷ enter s more (e ∷ es))
    (cond (ltb (attribute_of e) a) (e ∷ enter s (a ∷ more) es) (bit_or e s ∷ enter s more es))

-- of these entries, which rise, the first 256 stand at the front of the slice: one more than a schema may have
pub record TableIn (es items : List ℕ) (count : ℕ) : Type 0 where
  pub count-is : count ≡ length (take 256 es)
  pub entries : take count items ≡ take 256 es

-- a list's bytes, which begin with its count byte, are long enough for so many attributes
abbrev pub ListFits : ℕ → List ℕ → Type 0
ListFits count list = (i : ℕ) → i < count → i * 2 + 3 ≤ length list

-- a slice with room for the attributes that so many bytes can list, two bytes each, up to 256
abbrev pub RoomFor : ℕ → List ℕ → Type 0
RoomFor size slice = (k : ℕ) → k ≤ 256 → k * 2 ≤ size → k ≤ length slice

-- and one with room for a list of at most 255 attributes besides 256 entries
abbrev pub SpareFor : ℕ → List ℕ → Type 0
SpareFor size slice = (k : ℕ) → k ≤ 511 → k * 2 ≤ size → k ≤ length slice
