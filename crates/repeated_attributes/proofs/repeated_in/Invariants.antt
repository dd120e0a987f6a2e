use Rattle.repeated_attributes.proofs.MarkedLists.{Repeats}
use Rattle.repeated_attributes.proofs.repeated_in.Given as goal

abbrev pub invariant-loop-s : goal.invariant-loop-s
invariant-loop-s l = Repeats l.bytes l.seen l.repeated l.at l.s
