-- Sets: the type of a node over a membership table, in words of 64 bits. Word 0 is what breaks a rule, 0 exactly where
-- the node is typed; word 1 is the special attributes of the output, bit i for attribute i; word 2 + v is its entries
-- 64 v to 64 v + 63. Node k's words stand from place k * width on.
use Rattle.std.specs.Prelude.{ℕ, ◌+◌, ◌-◌, ◌*◌, ◌/◌, ◌%◌, ◌^◌, ◌≤◌, ◌<◌, min, ◌≡◌, Bool, true, cond, List, ltb, length, get_or}
use Rattle.std.specs.Int.Bits.{bit_or, bit_and, bit_xor}
use Rattle.bits.specs.Bit.{bit}
use Rattle.bits.specs.Pack.{pack}
use Rattle.attribute_set.specs.AttrSet.{bits_of}
use Rattle.algebra.specs.Expression.{Expression}
use Rattle.algebra.specs.Cell.{plain, out, ok}
use Rattle.node.specs.declared.nodes.BinaryOp.{BinaryOp}
use Rattle.node.specs.declared.nodes.BinaryOp.TheVariants.{Union, Difference, Join, Product}
use Rattle.node.specs.declared.nodes.SetOp.{SetOp}
use Rattle.node.specs.declared.nodes.SetOp.TheVariants.{Selection, Projection}
use Rattle.node.specs.declared.nodes.Node.{Node}
use Rattle.node.specs.declared.nodes.Node.TheVariants.{Relation, Binary, WithSet, Renaming, ProjectingOut}

-- the words of a type over a table with so many entries
abbrev pub width_of : ℕ → ℕ
width_of count = 2 + (count + 63) / 64

-- ---- which attributes: place j of a type is special attribute j below 64, and entry j - 64 from there on

-- the column of the attribute at place j
abbrev pub place_column : ℕ → ℕ
place_column j = cond (ltb j 16) j 0

-- whether relation r holds the attribute at place j
abbrev pub held_at : List ℕ → List ℕ → ℕ → ℕ → Bool
held_at special entries j r = cond (ltb j 64) (bit (get_or special r 0) j) (bit (get_or entries (j - 64) 0) r)

-- ---- their cells

-- the attribute at place j breaks no rule
abbrev pub ok_at : Expression → List ℕ → List ℕ → ℕ → Bool
ok_at e special entries j = ok plain e (place_column j) (held_at special entries j)

-- the output has it
abbrev pub out_at : Expression → List ℕ → List ℕ → ℕ → Bool
out_at e special entries j = out plain e (place_column j) (held_at special entries j)

-- the bit of place j in the words of a type
abbrev pub place_bit : (ℕ → ℕ) → ℕ → Bool
place_bit word j = bit (word (1 + j / 64)) (j % 64)

-- these words are the type of e over the table
pub record TypeIn (e : Expression) (special entries : List ℕ) (width : ℕ) (word : ℕ → ℕ) : Type 0 where
  pub typed : word 0 ≡ 0 → (j : ℕ) → j < (width - 1) * 64 → ok_at e special entries j ≡ true
  pub untyped : ((j : ℕ) → j < (width - 1) * 64 → ok_at e special entries j ≡ true) → word 0 ≡ 0
  pub output : word 0 ≡ 0 → (j : ℕ) → j < (width - 1) * 64 → place_bit word j ≡ out_at e special entries j

-- the words from a place on
abbrev pub words_at : List ℕ → ℕ → ℕ → ℕ
words_at sets at v = get_or sets (at + v) 0

-- ---- each operator on words: what breaks its rule, and what comes out

-- the attributes of a word that break the operator's rule (FORMAT 2.7 to 2.10)
unfoldable pub breaking : BinaryOp → ℕ → ℕ → ℕ
breaking Union x y = bit_xor x y
breaking Difference x y = bit_xor x y
breaking Join x y = 0
breaking Product x y = bit_and x y

-- the attributes of a word that the result has
unfoldable pub coming_out : BinaryOp → ℕ → ℕ → ℕ
coming_out Union x y = x
coming_out Difference x y = x
coming_out Join x y = bit_or x y
coming_out Product x y = bit_or x y

-- what x lacks of s
unfoldable pub lacking : ℕ → ℕ → ℕ
lacking x s = bit_xor (bit_or x s) x

-- x without s
unfoldable pub without : ℕ → ℕ → ℕ
without x s = bit_xor (bit_or x s) s

-- FORMAT 2.13: what breaks a renaming among the special attributes, where o is the old
-- attribute's bit and n the new one's
abbrev pub renaming_breaks : ℕ → ℕ → ℕ → ℕ
renaming_breaks x o n = bit_or (lacking x o) (bit_and x n)

-- and what comes out
abbrev pub renamed : ℕ → ℕ → ℕ → ℕ
renamed x o n = bit_or (without x o) n

-- ---- the words of a node as they are computed

-- entries `from` to `end` - 1, a bit for each that relation r holds
unfoldable pub entries_held : List ℕ → ℕ → ℕ → ℕ → ℕ
entries_held items r from end = pack (end - from) (λ i. bit (get_or items (from + i) 0) r)

-- word v of a relation: 64 entries, or as many as there are
unfoldable pub relation_word : List ℕ → ℕ → ℕ → ℕ → ℕ
relation_word items count r v = entries_held items r ((v - 2) * 64) (min count ((v - 2) * 64 + 64))

-- words 2 to width - 1 of a node stand, and those before the node are as they were
pub record Laying (entry : ℕ → ℕ) (at width : ℕ) (old sets : List ℕ) : Type 0 where
  pub size : length sets ≡ length old
  pub before : (p : ℕ) → p < at → get_or sets p 0 ≡ get_or old p 0
  pub entries : (v : ℕ) → 2 ≤ v → v < width → get_or sets (at + v) 0 ≡ entry v

-- ... and so do `broken` and `given` as words 0 and 1
pub record Laid (broken given : ℕ) (entry : ℕ → ℕ) (at width : ℕ) (old sets : List ℕ) : Type 0 where
  pub rest : Laying entry at width old sets
  pub first : get_or sets at 0 ≡ broken
  pub second : get_or sets (at + 1) 0 ≡ given

-- `broken` is 0 exactly where both operands are typed and none of their words 1 to width - 1 breaks the rule
pub record Breaks (op : BinaryOp) (x y : ℕ → ℕ) (width broken : ℕ) : Type 0 where
  pub clear : broken ≡ 0 → (x 0 ≡ 0) × (y 0 ≡ 0) × ((v : ℕ) → 1 ≤ v → v < width → breaking op (x v) (y v) ≡ 0)
  pub kept : x 0 ≡ 0 → y 0 ≡ 0 → ((v : ℕ) → 1 ≤ v → v < width → breaking op (x v) (y v) ≡ 0) → broken ≡ 0

-- a node of two operands whose words 1 to width - 1 stand, while `broken` is not yet written
pub record Combining (op : BinaryOp) (left right at width : ℕ) (old sets : List ℕ) (broken : ℕ) : Type 0 where
  pub size : length sets ≡ length old
  pub before : (p : ℕ) → p < at → get_or sets p 0 ≡ get_or old p 0
  pub words : (v : ℕ) → 1 ≤ v → v < width → get_or sets (at + v) 0 ≡ coming_out op (get_or old (left + v) 0) (get_or old (right + v) 0)
  pub rule : Breaks op (words_at old left) (words_at old right) width broken

-- ... and where it is
abbrev pub Combined : BinaryOp → ℕ → ℕ → ℕ → ℕ → List ℕ → List ℕ → Type 0
Combined op left right at width old sets = Combining op left right at width old sets (get_or sets at 0)

-- a selection or a projection by the set s, of the operand at place `from`
abbrev pub SetLaid : SetOp → ℕ → ℕ → ℕ → ℕ → List ℕ → List ℕ → Type 0
SetLaid Selection from s at width old sets = Laid (bit_or (get_or old from 0) (lacking (get_or old (from + 1) 0) s)) (get_or old (from + 1) 0) (words_at old from) at width old sets
SetLaid Projection from s at width old sets = Laid (bit_or (get_or old from 0) (lacking (get_or old (from + 1) 0) s)) s (λ v. 0) at width old sets

-- a renaming of the attribute with bit o to the one with bit n
abbrev pub RenamingLaid : ℕ → ℕ → ℕ → ℕ → ℕ → List ℕ → List ℕ → Type 0
RenamingLaid from o n at width old sets = Laid (bit_or (get_or old from 0) (renaming_breaks (get_or old (from + 1) 0) o n)) (renamed (get_or old (from + 1) 0) o n) (words_at old from) at width old sets

-- projecting out the attribute with bit o
abbrev pub OutLaid : ℕ → ℕ → ℕ → ℕ → List ℕ → List ℕ → Type 0
OutLaid from o at width old sets = Laid (bit_or (get_or old from 0) (lacking (get_or old (from + 1) 0) o)) (without (get_or old (from + 1) 0) o) (words_at old from) at width old sets

-- the words of node k, from those of its operands
abbrev pub NodeSets : List ℕ → List ℕ → ℕ → ℕ → ℕ → List ℕ → List ℕ → Node → Type 0
NodeSets special items count width k old sets (Relation r) = Laid 0 (get_or special r 0) (relation_word items count r) (k * width) width old sets
NodeSets special items count width k old sets (Binary op l r) = Combined op (l * width) (r * width) (k * width) width old sets
NodeSets special items count width k old sets (WithSet op l s) = (bits_of s < 65536) × SetLaid op (l * width) (bits_of s) (k * width) width old sets
NodeSets special items count width k old sets (Renaming l o n) = RenamingLaid (l * width) (2 ^ o) (2 ^ n) (k * width) width old sets
NodeSets special items count width k old sets (ProjectingOut l o) = OutLaid (l * width) (2 ^ o) (k * width) width old sets
