use Rattle.text.specs.Written.{writes-more}
use Rattle.listing_lines.specs.Lines.{formula_lines}
use Rattle.listing_lines.proofs.write_lines.Goals as goal

pub returns : goal.returns
unfolding formula_lines
returns c =
    rw (← c.is_untypable-untypable.ensures, ← c.column_of-column.ensures)
    (writes-more (writes-more (writes-more c.write_node_line.ensures.wrote c.write_relation_lines.ensures.wrote) c.write_out_line.ensures.wrote) c.write_attribute_lines.ensures.wrote)
