use Rattle.text.specs.Characters.{newline}
use Rattle.text.specs.Written.{writes-two}
use Rattle.listing_lines.specs.Lines.{line_text}
use Rattle.listing_lines.proofs.write_list_line.Goals as goal

pub returns-clause-wrote : goal.returns-clause-wrote
unfolding line_text
returns-clause-wrote c = writes-two _ newline c.write_label.ensures.wrote c.write_list.ensures.wrote
