use Rattle.text.specs.Written.{writes-more}
use Rattle.listing_lines.specs.Lines.{label}
use Rattle.listing_lines.proofs.write_label.Goals as goal

pub returns-clause-wrote : goal.returns-clause-wrote
unfolding label
returns-clause-wrote c = writes-more (writes-more c.write_byte.ensures c.write_decimal.ensures.wrote) c.write_byte-2.ensures
