use Rattle.type_sets.specs.Sets.{Combining}
use Rattle.node_sets.proofs.combine.Given as goal

abbrev pub invariant-loop-v : goal.invariant-loop-v
invariant-loop-v l = Combining l.op l.left l.right l.at l.v l.initial.sets l.sets l.broken
