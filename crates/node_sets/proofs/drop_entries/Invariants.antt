use Rattle.type_sets.specs.Sets.{Laying}
use Rattle.node_sets.proofs.drop_entries.Given as goal

abbrev pub invariant-loop-v : goal.invariant-loop-v
invariant-loop-v l = Laying (λ v. 0) l.at l.v l.initial.sets l.sets
