use native.Mathlib.Omega.{arith}
use Rattle.text.specs.Written.{writes-none}
use Rattle.listing_entries.proofs.entries.write_sign.Goals as goal

pub returns-in-Variables-clause-wrote : goal.returns-in-Variables-clause-wrote
returns-in-Variables-clause-wrote c = rw c.in-Variables.is (writes-none _ (omega arith))

pub returns-in-Output-clause-wrote : goal.returns-in-Output-clause-wrote
returns-in-Output-clause-wrote c = rw c.in-Output.is (writes-none _ (omega arith))
