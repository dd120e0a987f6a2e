use Rattle.std.proofs.Common.{length, take}
use Rattle.instantiation_writer.proofs.MapBits.{Mapping}
use Rattle.instantiation_writer.proofs.maps.set_bits.Given as goal

abbrev pub invariant-loop-e : goal.invariant-loop-e
invariant-loop-e l = Mapping (take (length l.entries) l.entries) l.initial.out l.out l.e-index
