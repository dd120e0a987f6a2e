-- The texts of E1, and of E5 and E7, untypable nodes: a column of E5 allows nothing, and E7's relation cannot be filled
-- (FORMAT 10.1, 10.5, 10.7).
use Rattle.std.specs.Prelude.{◌≡◌, refl, List, [], ◌∷◌, ℕ}
use Rattle.bits.specs.Bit.{bit}
use Rattle.bits.specs.Lowest.{lowest_from}
use Rattle.bits.specs.Total.{total}
use Rattle.bits.specs.Range.{in_range}
use Rattle.bits.specs.Tab.{tab}
use Rattle.attribute_set.specs.AttrSet.{has_attribute, special, set_of}
use Rattle.refusal.specs.Chain.{refuse}
use Rattle.node.specs.Operators.{binary_of, set_op_of}
use Rattle.node.specs.ReadNode.{size_of, check_fields, check_node, node_of, read_node}
use Rattle.expression_file.specs.ReadFile.{acceptance, parse, header, read_nodes, placed_at, placed_nodes}
use Rattle.node_expression.specs.NodeExpression.{expression_at, earlier}
use Rattle.stored_formula.specs.FormulaBytes.{allowed_bit, output_bit}
use Rattle.types.specs.Memberships.{members}
use Rattle.set_cover.specs.Remainder.{rest}
use Rattle.set_cover.specs.Least.{least}
use Rattle.set_cover.specs.Cost.{cost, cost_table, cover_table}
use Rattle.verdict_answer.specs.First.{lowest_with, fewest_in, blocked_by}
use Rattle.verdict_answer.specs.Verdict.{untypable_in}
use Rattle.text.specs.Each.{each}
use Rattle.text.specs.Characters.{subset_text, hex_digit, decimal}
use Rattle.listing_entries.specs.Naming.{named_below}
use Rattle.listing_lines.specs.Text.{text_of, listing, node_line, relation_line, out_line, attribute_line, is_untypable}

-- σ{2,3}((ρ1/2(r0) ∪ r1) ⋈ r2)
abbrev pub e1 : List ℕ
e1 = 3 ∷ 7 ∷ 1 ∷ 0 ∷ 98 ∷ 0 ∷ 1 ∷ 2 ∷ 1 ∷ 1 ∷ 14 ∷ 1 ∷ 2 ∷ 1 ∷ 1 ∷ 2 ∷ 14 ∷ 3 ∷ 4 ∷ 3 ∷ 26 ∷ 5 ∷ 5 ∷ 12 ∷ 0 ∷ []

pub e1-text :
    text_of e1 ≡
    110 ∷ 111 ∷ 100 ∷ 101 ∷ 32 ∷ 54 ∷ 32 ∷ 116 ∷ 121 ∷ 112 ∷ 97 ∷ 98 ∷ 108 ∷ 101 ∷ 10
    ∷ 114 ∷ 48 ∷ 58 ∷ 32 ∷ 48 ∷ 51 ∷ 32 ∷ 48 ∷ 55 ∷ 10
    ∷ 114 ∷ 49 ∷ 58 ∷ 32 ∷ 48 ∷ 51 ∷ 32 ∷ 48 ∷ 55 ∷ 10
    ∷ 114 ∷ 50 ∷ 58 ∷ 32 ∷ 48 ∷ 52 ∷ 32 ∷ 48 ∷ 55 ∷ 10
    ∷ 111 ∷ 117 ∷ 116 ∷ 58 ∷ 32 ∷ 48 ∷ 51 ∷ 32 ∷ 48 ∷ 52 ∷ 32 ∷ 48 ∷ 55 ∷ 10
    ∷ 97 ∷ 49 ∷ 58 ∷ 32 ∷ 48 ∷ 49 ∷ 45 ∷ 32 ∷ 48 ∷ 53 ∷ 43 ∷ 10
    ∷ 97 ∷ 50 ∷ 58 ∷ 32 ∷ 48 ∷ 50 ∷ 43 ∷ 32 ∷ 48 ∷ 54 ∷ 43 ∷ 10
    ∷ 97 ∷ 51 ∷ 58 ∷ 32 ∷ 48 ∷ 51 ∷ 43 ∷ 32 ∷ 48 ∷ 52 ∷ 43 ∷ 32 ∷ 48 ∷ 55 ∷ 43 ∷ 10 ∷ []
unfolding text_of listing node_line relation_line out_line attribute_line named_below is_untypable untypable_in each subset_text hex_digit decimal acceptance
    expression_at allowed_bit output_bit bit total tab members lowest_with fewest_in blocked_by lowest_from cost cost_table cover_table least rest has_attribute
    parse header read_nodes read_node check_node check_fields size_of node_of refuse in_range placed_at placed_nodes earlier special set_of binary_of set_op_of
e1-text = refl

-- σ{1,2}(π{2,3}(r0))
abbrev pub e5 : List ℕ
e5 = 1 ∷ 3 ∷ 1 ∷ 0 ∷ 26 ∷ 0 ∷ 6 ∷ 12 ∷ 0 ∷ 26 ∷ 1 ∷ 5 ∷ 6 ∷ 0 ∷ []

pub e5-text :
    text_of e5 ≡
    110 ∷ 111 ∷ 100 ∷ 101 ∷ 32 ∷ 50 ∷ 32 ∷ 117 ∷ 110 ∷ 116 ∷ 121 ∷ 112 ∷ 97 ∷ 98 ∷ 108 ∷ 101 ∷ 10
    ∷ 114 ∷ 48 ∷ 58 ∷ 32 ∷ 48 ∷ 49 ∷ 10
    ∷ 111 ∷ 117 ∷ 116 ∷ 58 ∷ 10
    ∷ 97 ∷ 49 ∷ 58 ∷ 10
    ∷ 97 ∷ 50 ∷ 58 ∷ 32 ∷ 48 ∷ 49 ∷ 43 ∷ 10
    ∷ 97 ∷ 51 ∷ 58 ∷ 32 ∷ 48 ∷ 49 ∷ 43 ∷ 10 ∷ []
unfolding text_of listing node_line relation_line out_line attribute_line named_below is_untypable untypable_in each subset_text hex_digit decimal acceptance
    expression_at allowed_bit output_bit bit total tab members lowest_with fewest_in blocked_by lowest_from cost cost_table cover_table least rest has_attribute
    parse header read_nodes read_node check_node check_fields size_of node_of refuse in_range placed_at placed_nodes earlier special set_of binary_of set_op_of
e5-text = refl

-- r0 × r0
abbrev pub e7 : List ℕ
e7 = 1 ∷ 2 ∷ 1 ∷ 0 ∷ 14 ∷ 0 ∷ 0 ∷ 4 ∷ []

pub e7-text :
    text_of e7 ≡
    110 ∷ 111 ∷ 100 ∷ 101 ∷ 32 ∷ 49 ∷ 32 ∷ 117 ∷ 110 ∷ 116 ∷ 121 ∷ 112 ∷ 97 ∷ 98 ∷ 108 ∷ 101 ∷ 10
    ∷ 114 ∷ 48 ∷ 58 ∷ 10
    ∷ 111 ∷ 117 ∷ 116 ∷ 58 ∷ 10 ∷ []
unfolding text_of listing node_line relation_line out_line attribute_line named_below is_untypable untypable_in each subset_text hex_digit decimal acceptance
    expression_at allowed_bit output_bit bit total tab members lowest_with fewest_in blocked_by lowest_from cost cost_table cover_table least rest has_attribute
    parse header read_nodes read_node check_node check_fields size_of node_of refuse in_range placed_at placed_nodes earlier special set_of binary_of set_op_of
e7-text = refl
