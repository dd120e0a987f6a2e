use Rattle.text.specs.Characters.{subset_text}
use Rattle.text.specs.Written.{writes-more}
use Rattle.text.proofs.Writer.write_subset.Goals as goal

pub returns-clause-wrote : goal.returns-clause-wrote
unfolding subset_text
returns-clause-wrote c =
    rw (← c.hex_digit.ensures, ← c.hex_digit-2.ensures) (writes-more (writes-more c.write_byte.ensures c.write_byte-2.ensures) c.write_byte-3.ensures)
