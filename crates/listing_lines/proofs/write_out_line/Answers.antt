use Rattle.text.specs.Characters.{newline}
use Rattle.text.specs.Written.{writes-two}
use Rattle.listing_entries.specs.Entries.{list_text}
use Rattle.listing_lines.specs.Lines.{out_text}
use Rattle.listing_entries.specs.declared.entries.Kind.TheVariants.{Output}
use Rattle.listing_lines.proofs.write_out_line.Goals as goal

pub returns-clause-wrote : goal.returns-clause-wrote
unfolding out_text
returns-clause-wrote c = writes-two (list_text Output _) newline c.write_bytes.ensures c.write_list.ensures.wrote
