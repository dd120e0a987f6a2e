use Rattle.listing_entries.specs.Naming.{JoinedTo}
use Rattle.listing_entries.proofs.naming.join.Given as goal

abbrev pub invariant-loop-a : goal.invariant-loop-a
invariant-loop-a l = JoinedTo l.initial.all l.other l.a l.all
