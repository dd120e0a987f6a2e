use mathlib.Core.Path.{◌≡◌}
use lib.ListN.{length}
use Rattle.expression_file.specs.Walk.{Walk}
use Rattle.type_sets.specs.FilledSets.{Filled}
use Rattle.set_filling.proofs.fill_sets.Given as goal

abbrev pub invariant-loop-k : goal.invariant-loop-k
invariant-loop-k l = (length l.sets ≡ length l.initial.sets) × Walk l.file.bytes.now l.file.header.relations l.file.header.nodes l.k l.at × Filled l.file.bytes.now l.special l.entries l.width l.k l.sets
