use Rattle.instantiation_writer.proofs.OneList.{Following}
use lib.ListN.{length, take}
use Prim.Native.Nat.{◌-◌}
use Rattle.instantiation_writer.proofs.lists.write_list.Given as goal

abbrev pub invariant-loop-j : goal.invariant-loop-j
invariant-loop-j l = Following (take (length l.sorted) l.sorted) l.i l.initial.out l.out l.j

abbrev pub decreases-loop-j : goal.decreases-loop-j
decreases-loop-j l = length l.sorted - l.j
