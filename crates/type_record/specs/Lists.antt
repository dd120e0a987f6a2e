-- Lists of ordinary attributes (FORMAT 4.3, 8.4).
use Rattle.std.specs.Prelude.{ℕ, zero, suc, ◌+◌, ◌*◌, ◌/◌, ◌%◌, List, [], ◌∷◌, eqb, ltb, leb, length, get_or, Result, Ok, Err}
use Rattle.bits.specs.Tab.{tab}
use Rattle.bits.specs.Word.{word}
use Rattle.refusal.specs.Chain.{refuse}
use Rattle.refusal.specs.declared.Refusal.TheVariants.{InputTruncated, CountZero, ListedAttribute}
use Rattle.refusal.specs.declared.Refusal.{Refusal}

-- FORMAT 4.3: attribute i of a list whose bytes begin with its count byte
abbrev pub attribute_at : List ℕ → ℕ → ℕ
attribute_at bytes i = word bytes (i * 2 + 1)

-- FORMAT 8.4: the attributes from number i on, so many, the one before them given: each 14 where its bytes are missing,
-- and 16 where it is not above the one before
unfoldable pub read_from : List ℕ → ℕ → ℕ → ℕ → Result ℕ Refusal
read_from bytes zero i previous = Ok i
read_from bytes (suc left) i previous =
    refuse Err (ltb (length bytes) (i * 2 + 3)) InputTruncated
    (refuse Err (leb (attribute_at bytes i) previous) ListedAttribute
    (read_from bytes left (i + 1) (attribute_at bytes i)))

-- FORMAT 8.4: the list at the front of the bytes: 14 without a count byte, 15, and then its
-- attributes, the first above 15
unfoldable pub read_list : List ℕ → Result ℕ Refusal
read_list bytes =
    refuse Err (ltb (length bytes) 1) InputTruncated
    (refuse Err (eqb (get_or bytes 0 0) 0) CountZero
    (read_from bytes (get_or bytes 0 0) 0 15))

-- FORMAT 4.3: the first n attributes of the list
unfoldable pub listed : ℕ → List ℕ → List ℕ
listed n bytes = tab n (attribute_at bytes)

-- FORMAT 4.3: two bytes for each attribute, low first
abbrev pub word_bytes : List ℕ → List ℕ
word_bytes [] = []
word_bytes (a ∷ l) = a % 256 ∷ a / 256 ∷ word_bytes l

-- FORMAT 4.3: a list that is not empty: its count byte and its attributes
abbrev pub list_bytes : List ℕ → List ℕ
list_bytes [] = []
list_bytes (a ∷ l) = length (a ∷ l) ∷ word_bytes (a ∷ l)
