-- How one node is read (FORMAT 1.2 to 1.5, 8.3).
use Rattle.std.specs.Prelude.{ℕ, zero, suc, ◌+◌, ◌*◌, ◌/◌, ◌%◌, ◌≡◌, Bool, cond, not, ◌||◌, List, [], ◌∷◌, eqb, ltb, leb, length, get_or, drop, Result, Ok, Err}
use Rattle.bits.specs.Bit.{bit}
use Rattle.attribute_set.specs.AttrSet.{special, set_of}
use Rattle.refusal.specs.Chain.{refuse}
use Rattle.refusal.specs.declared.Refusal.{Refusal}
use Rattle.refusal.specs.declared.Refusal.TheVariants.{NodeTruncated, NodeMap, OperatorCode, RelationNumber, Operand, Attribute}
use Rattle.node.specs.declared.nodes.Node.{Node}
use Rattle.node.specs.declared.nodes.Node.TheVariants.{Relation, Binary, WithSet, Renaming, ProjectingOut}
use Rattle.node.specs.Operators.{known_code, binary_of, set_op_of}
use Rattle.node.specs.declared.nodes.Decoding.{Decoding}

-- ---- layout

-- FORMAT 1.3: the fields that a node can have
pub data Field : Type 0 where
  relation left right code attributes old new : Field

-- FORMAT 1.3: the fields from the lowest bit up
abbrev pub bit_order : List Field
bit_order = relation ∷ left ∷ right ∷ code ∷ attributes ∷ old ∷ new ∷ []

-- FORMAT 1.3: the bit of each in the map
abbrev pub bit_of : Field → ℕ
bit_of relation = 0
bit_of left = 1
bit_of right = 2
bit_of code = 3
bit_of attributes = 4
bit_of old = 5
bit_of new = 6

-- FORMAT 1.3: an attribute set has two bytes, every other field one
abbrev pub width : Field → ℕ
width relation = 1
width left = 1
width right = 1
width code = 1
width attributes = 2
width old = 1
width new = 1

-- the fields whose bit stands, of those that begin at the map's lowest bit
abbrev pub standing : ℕ → List Field → List Field
standing map [] = []
standing map (f ∷ fs) = cond (eqb (map % 2) 1) (f ∷ standing (map / 2) fs) (standing (map / 2) fs)

-- FORMAT 1.2: the fields of a node with this map
abbrev pub fields_of : ℕ → List Field
fields_of map = standing map bit_order

-- FORMAT 1.2: where a field stands, of fields that follow each other from a place on
abbrev pub place_in : List Field → ℕ → Field → ℕ
place_in [] at f = at
place_in (g ∷ gs) at f = cond (eqb (bit_of f) (bit_of g)) at (place_in gs (at + width g) f)

-- the byte after these fields, the first of which stands at a place
abbrev pub end_of : List Field → ℕ → ℕ
end_of [] at = at
end_of (f ∷ fs) at = end_of fs (at + width f)

-- FORMAT 1.4: the bytes of a node with this map, the map among them
unfoldable pub size_of : ℕ → ℕ
size_of map = end_of (fields_of map) 1

-- FORMAT 1.3: the number in a field; a set has its low byte first
abbrev pub number_at : Field → List ℕ → ℕ → ℕ
number_at relation bytes at = get_or bytes at 0
number_at left bytes at = get_or bytes at 0
number_at right bytes at = get_or bytes at 0
number_at code bytes at = get_or bytes at 0
number_at attributes bytes at = get_or bytes at 0 + get_or bytes (at + 1) 0 * 256
number_at old bytes at = get_or bytes at 0
number_at new bytes at = get_or bytes at 0

-- a field's value in a node with this map
abbrev pub value_of : ℕ → List ℕ → Field → ℕ
value_of map bytes f = number_at f bytes (place_in (fields_of map) 1 f)

-- ---- judgement

-- FORMAT 1.3: what makes a field's value wrong, in node k of a file with m relations
abbrev pub wrong : ℕ → ℕ → ℕ → Field → ℕ → Bool
wrong m k map relation v = leb m v
wrong m k map left v = leb k v
wrong m k map right v = leb k v
wrong m k map code v = not (known_code map v)
wrong m k map attributes v = bit v 0
wrong m k map old v = not (special v)
wrong m k map new v = not (special v)

-- FORMAT 1.3: the refusal of a wrong value
abbrev pub refusal_of : Field → Refusal
refusal_of relation = RelationNumber
refusal_of left = Operand
refusal_of right = Operand
refusal_of code = OperatorCode
refusal_of attributes = Attribute
refusal_of old = Attribute
refusal_of new = Attribute

-- FORMAT 8.3: the fields from the lowest bit up, and what comes if none is wrong
abbrev pub judge : ℕ → ℕ → ℕ → List ℕ → List Field → Result ℕ Refusal → Result ℕ Refusal
judge m k map bytes [] next = next
judge m k map bytes (f ∷ fs) next =
    refuse Err (wrong m k map f (value_of map bytes f)) (refusal_of f) (judge m k map bytes fs next)

-- FORMAT 8.3: 4 where bytes of the node are missing, then its fields
unfoldable pub check_fields : ℕ → ℕ → ℕ → List ℕ → Result ℕ Refusal
check_fields m k map bytes =
    refuse Err (ltb (length bytes) (size_of map)) NodeTruncated
    (judge m k map bytes (fields_of map) (Ok (size_of map)))

-- FORMAT 1.4: the five maps
abbrev pub legal : ℕ → Bool
legal map = eqb map 1 || eqb map 14 || eqb map 26 || eqb map 98 || eqb map 34

-- FORMAT 8.3: the size of node k of a file with m relations, off the front of the bytes, or its refusal: 4 without a
-- byte for the map, 5, and then the fields
unfoldable pub check_node : ℕ → ℕ → List ℕ → Result ℕ Refusal
check_node m k bytes =
    refuse Err (ltb (length bytes) 1) NodeTruncated
    (refuse Err (not (legal (get_or bytes 0 0))) NodeMap
    (check_fields m k (get_or bytes 0 0) bytes))

-- what comes after a node that is legal
abbrev pub after_node : Result ℕ Refusal → (ℕ → Result ℕ Refusal) → Result ℕ Refusal
after_node (Err r) next = Err r
after_node (Ok size) next = next size

-- FORMAT 8.3: the end of so many nodes from node k on, the first of which begins at byte `at`, or the first refusal;
-- each node in full before the next
unfoldable pub check_nodes : ℕ → ℕ → ℕ → ℕ → List ℕ → Result ℕ Refusal
check_nodes m zero k at bytes = Ok at
check_nodes m (suc count) k at bytes = after_node (check_node m k (drop at bytes)) (λ size. check_nodes m count (k + 1) (at + size) bytes)

-- bytes that begin with a node in which nothing is refused
pub record Checked (bytes : List ℕ) : Type 0 where
  pub m : ℕ
  pub k : ℕ
  pub size : ℕ
  pub passed : check_node m k bytes ≡ Ok size

-- ---- the node

-- FORMAT 1.4: the node of a legal map whose fields have the values v
abbrev pub node_with : ℕ → (Field → ℕ) → Node
node_with map v =
    cond (eqb map 1) (Relation (v relation))
    (cond (eqb map 14) (Binary (binary_of (v code)) (v left) (v right))
    (cond (eqb map 26) (WithSet (set_op_of (v code)) (v left) (set_of (v attributes)))
    (cond (eqb map 98) (Renaming (v left) (v old) (v new))
    (ProjectingOut (v left) (v old)))))

-- the node that checked bytes begin with
unfoldable pub node_of : List ℕ → Node
node_of bytes = node_with (get_or bytes 0 0) (value_of (get_or bytes 0 0) bytes)

-- ---- both

-- a node that was read, and its size
abbrev pub Read : Node → ℕ → Result Decoding Refusal
Read node size = Ok (record { node = node; size = size })

-- the node and its size, or the refusal of the check
abbrev pub with_node : Node → Result ℕ Refusal → Result Decoding Refusal
with_node node (Ok size) = Read node size
with_node node (Err r) = Err r

-- FORMAT 7.4: the node and its size, or its refusal
unfoldable pub read_node : ℕ → ℕ → List ℕ → Result Decoding Refusal
read_node m k bytes = with_node (node_of bytes) (check_node m k bytes)
