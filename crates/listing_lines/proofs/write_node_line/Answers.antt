use Rattle.text.specs.Written.{writes-more}
use Rattle.listing_lines.specs.Lines.{node_text}
use Rattle.listing_lines.proofs.write_node_line.Goals as goal

pub returns-clause-wrote : goal.returns-clause-wrote
unfolding node_text
returns-clause-wrote c =
    writes-more (writes-more (writes-more c.write_bytes.ensures c.write_decimal.ensures.wrote) c.write_verdict.ensures.wrote) c.write_byte.ensures
