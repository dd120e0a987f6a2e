use Rattle.std.specs.Prelude.{length}
use Rattle.type_sets.specs.Sets.{relation_word, Laying}
use Rattle.node_sets.proofs.lay_relation.Given as goal

abbrev pub invariant-loop-v : goal.invariant-loop-v
invariant-loop-v l = Laying (relation_word l.entries (length l.entries) l.r) l.at l.v l.initial.sets l.sets
