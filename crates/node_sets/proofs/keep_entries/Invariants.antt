use Rattle.type_sets.specs.Sets.{words_at, Laying}
use Rattle.node_sets.proofs.keep_entries.Given as goal

abbrev pub invariant-loop-v : goal.invariant-loop-v
invariant-loop-v l = Laying (words_at l.initial.sets l.from) l.at l.v l.initial.sets l.sets
