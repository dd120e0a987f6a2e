-- The lines of a node, read off its columns in the work space.
use Rattle.std.specs.Prelude.{ℕ, ◌+◌, Bool, List, [], ◌∷◌, ◌++◌}
use Rattle.attribute_set.specs.declared.AttrSet.{AttrSet}
use Rattle.attribute_set.specs.AttrSet.{has_attribute}
use Rattle.stored_formula.specs.ColumnPlace.{column_at}
use Rattle.verdict_answer.specs.First.{allowed_at}
use Rattle.listing_entries.specs.declared.entries.Kind.{Kind}
use Rattle.listing_entries.specs.declared.entries.Kind.TheVariants.{Variables, Output, Signed}
use Rattle.text.specs.Characters.{decimal, newline}
use Rattle.text.specs.Each.{each}
use Rattle.listing_entries.specs.Entries.{when_so, list_text}
use Rattle.listing_lines.specs.Text.{untypable_by, verdict_text}

-- the node's line, by whether the node is untypable
unfoldable pub node_text : Bool → ℕ → List ℕ
node_text untypable k = (110 ∷ 111 ∷ 100 ∷ 101 ∷ 32 ∷ []) ++ decimal k ++ verdict_text untypable ++ newline

-- a letter, a number and a colon
unfoldable pub label : ℕ → ℕ → List ℕ
label letter n = (letter ∷ []) ++ decimal n ++ (58 ∷ [])

-- a line with a label, and a list of subsets of a column
unfoldable pub line_text : ℕ → ℕ → Kind → List ℕ → List ℕ
line_text letter n kind column = label letter n ++ list_text kind column ++ newline

-- a relation's line, off column 0
unfoldable pub relation_text : List ℕ → ℕ → List ℕ
relation_text column r = line_text 114 r (Variables r) column

-- the output's line, off column 0
unfoldable pub out_text : List ℕ → List ℕ
out_text column = (111 ∷ 117 ∷ 116 ∷ 58 ∷ []) ++ list_text Output column ++ newline

-- attribute i, if it is in the set
unfoldable pub attribute_text : List ℕ → ℕ → AttrSet → ℕ → List ℕ
attribute_text work node named i = when_so (has_attribute named i) (line_text 97 i Signed (column_at work node i))

-- the lines of the attributes in the set, rising
unfoldable pub attributes_text : List ℕ → ℕ → AttrSet → List ℕ
attributes_text work node named = each 15 (λ j. attribute_text work node named (j + 1))

-- all lines of a node, off the work space
unfoldable pub lines_text : List ℕ → ℕ → ℕ → AttrSet → List ℕ
lines_text work m node named =
    node_text (untypable_by m (allowed_at work node)) node
    ++ each m (relation_text (column_at work node 0))
    ++ out_text (column_at work node 0)
    ++ attributes_text work node named

-- all lines of node k, off its formula
unfoldable pub formula_lines : List ℕ → ℕ → ℕ → AttrSet → List ℕ
formula_lines formula m k named =
    node_text (untypable_by m (allowed_at formula 0)) k
    ++ each m (relation_text (column_at formula 0 0))
    ++ out_text (column_at formula 0 0)
    ++ attributes_text formula 0 named
