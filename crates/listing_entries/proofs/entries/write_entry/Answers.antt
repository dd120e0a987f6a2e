use native.Mathlib.Omega.{arith}
use Rattle.text.specs.Written.{writes-none, writes-more}
use Rattle.listing_entries.specs.Entries.{entry_text}
use Rattle.listing_entries.proofs.entries.write_entry.Goals as goal

pub returns-then-is_listed-clause-wrote : goal.returns-then-is_listed-clause-wrote
unfolding entry_text
returns-then-is_listed-clause-wrote c =
    rw (← c.is_listed.ensures, c.if-is_listed.true) (writes-more c.write_subset.ensures.wrote c.write_sign.ensures.wrote)

pub returns-else-is_listed-clause-wrote : goal.returns-else-is_listed-clause-wrote
unfolding entry_text
returns-else-is_listed-clause-wrote c = rw (← c.is_listed.ensures, c.if-is_listed.false) (writes-none _ (omega arith))
