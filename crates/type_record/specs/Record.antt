-- Type records (FORMAT 4.1 to 4.5, 8.4).
use Rattle.std.specs.Prelude.{ℕ, ◌+◌, ◌-◌, ◌*◌, ◌/◌, ◌%◌, cond, List, ◌∷◌, eqb, ltb, length, drop, Result, Ok, Err}
use Rattle.bits.specs.Bit.{bit}
use Rattle.bits.specs.Rising.{member}
use Rattle.bits.specs.Word.{word}
use Rattle.attribute_set.specs.AttrSet.{special}
use Rattle.types.specs.Types.{Attrs}
use Rattle.refusal.specs.Chain.{refuse}
use Rattle.refusal.specs.declared.Refusal.TheVariants.{InputTruncated}
use Rattle.type_record.specs.Lists.{read_list, listed, list_bytes}
use Rattle.refusal.specs.declared.Refusal.{Refusal}
use Rattle.type_record.specs.declared.records.RecordHead.{RecordHead}

-- FORMAT 9.8: the bytes of the longest record, and the least length of a slice for one
abbrev pub output_size : ℕ
output_size = 513

-- ---- reading

-- the front of a record that was read
abbrev pub RecordRead : ℕ → ℕ → Result RecordHead Refusal
RecordRead map n = Ok (record { special = map; count = n })

-- a record's reading, once its list is read
abbrev pub with_list : ℕ → Result ℕ Refusal → Result RecordHead Refusal
with_list map (Ok n) = RecordRead map n
with_list map (Err r) = Err r

-- FORMAT 8.4: the record at the front of the bytes: its special attributes, bit 0 clear, and the
-- number of its ordinary ones
unfoldable pub read_record : List ℕ → Result RecordHead Refusal
read_record bytes =
    refuse Err (ltb (length bytes) 2) InputTruncated
    (cond (eqb (word bytes 0 % 2) 0) (RecordRead (word bytes 0) 0) (with_list (word bytes 0 - 1) (read_list (drop 2 bytes))))

-- FORMAT 4.5: the bytes of a record with n ordinary attributes
unfoldable pub record_size : ℕ → ℕ
record_size n = cond (eqb n 0) 2 (n * 2 + 3)

-- ---- what a record says

-- what a record says
pub record TypeRecord : Type 0 where
  -- FORMAT 4.2: bit i for special attribute i
  pub map : ℕ
  -- FORMAT 4.3: the ordinary attributes
  pub ordinary : List ℕ

-- the record at the front of the bytes, once its reading has given these
unfoldable pub record_at : List ℕ → ℕ → ℕ → TypeRecord
record_at bytes map n = record { map = map; ordinary = listed n (drop 2 bytes) }

-- FORMAT 4.4: the type that it stands for
unfoldable pub type_of : TypeRecord → Attrs
type_of t = λ a. cond (special a) (bit t.map a) (member a t.ordinary)

-- ---- writing

-- bit 0 of the map as it is written: 1 where a list follows
abbrev pub follows : ℕ → ℕ
follows n = cond (eqb n 0) 0 1

-- FORMAT 4.1: the bytes of the record: the map, low byte first, whose bit 0 says that a list follows, and the list
unfoldable pub record_bytes : ℕ → List ℕ → List ℕ
record_bytes map ordinary = (map % 256 + follows (length ordinary)) ∷ map / 256 ∷ list_bytes ordinary
