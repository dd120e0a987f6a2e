use Rattle.filled_schema.proofs.RelationsTested.{Passed}
use Rattle.filled_schema.proofs.is_filled.Given as goal

abbrev pub invariant-loop-r : goal.invariant-loop-r
invariant-loop-r l = Passed l.m l.special l.entries l.r
