use Rattle.instantiation_writer.proofs.ListsBefore.{Prefix}
use lib.ListN.{length, take}
use Prim.Native.Nat.{◌-◌}
use Rattle.instantiation_writer.proofs.lists.write_lists.Given as goal

abbrev pub invariant-loop-i : goal.invariant-loop-i
invariant-loop-i l = Prefix (take (length l.sorted) l.sorted) l.initial.out l.out l.at l.i

abbrev pub decreases-loop-i : goal.decreases-loop-i
decreases-loop-i l = length l.sorted - l.i
