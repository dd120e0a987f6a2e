use Rattle.first_subsets.specs.ByteMembers.{FewestBelow}
use Rattle.first_subsets.proofs.members.fewest_in_bytes.Given as goal

abbrev pub invariant-loop-i : goal.invariant-loop-i
invariant-loop-i l = FewestBelow l.column l.i l.fewest
