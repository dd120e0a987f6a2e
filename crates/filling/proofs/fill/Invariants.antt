use Prim.Native.Nat.{◌*◌, ◌≤◌}
use Rattle.expression_file.specs.Walk.{Walk}
use Rattle.stored_formula.specs.FilledNodes.{FilledTo}
use Rattle.filling.proofs.fill.Given as goal

abbrev pub invariant-loop-k : goal.invariant-loop-k
invariant-loop-k l = let head = l.file.header in (l.k ≤ head.nodes) × Walk l.file.bytes.now head.relations head.nodes l.k l.at × FilledTo l.file.bytes.now head.relations (l.k * 1024) l.initial.work l.work
