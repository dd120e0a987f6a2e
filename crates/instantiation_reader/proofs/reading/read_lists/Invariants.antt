use Rattle.instantiation_reader.proofs.EntriesResumed.{Resumed}
use Prim.Native.Nat.{◌-◌}
use Rattle.instantiation_reader.proofs.reading.read_lists.Given as goal

abbrev pub invariant-loop-s : goal.invariant-loop-s
invariant-loop-s l = Resumed l.bytes l.initial.items l.items l.k l.at l.s

abbrev pub decreases-loop-s : goal.decreases-loop-s
decreases-loop-s l = 256 - l.s
