use native.Mathlib.Omega.{arith}
use Rattle.text.specs.Written.{writes-none}
use Rattle.listing_lines.specs.Lines.{attribute_text}
use Rattle.listing_lines.proofs.write_attribute_line.Goals as goal

pub returns-then-has-clause-wrote : goal.returns-then-has-clause-wrote
unfolding attribute_text
returns-then-has-clause-wrote c =
    rw (← c.has.ensures, c.if-has.true, ← c.column_of-column.ensures) c.write_list_line.ensures.wrote

pub returns-else-has-clause-wrote : goal.returns-else-has-clause-wrote
unfolding attribute_text
returns-else-has-clause-wrote c = rw (← c.has.ensures, c.if-has.false) (writes-none _ (omega arith))
