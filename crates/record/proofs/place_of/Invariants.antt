use Prim.Native.Nat.{◌-◌}
use Rattle.record.specs.RecordLaws.{Seeking}
use Rattle.record.proofs.place_of.Given as goal

abbrev pub invariant-loop-k : goal.invariant-loop-k
invariant-loop-k l = Seeking l.file l.node l.k l.at
