use Rattle.std.proofs.Common.{refl, arith, length}
use Rattle.std.proofs.Math.Seq.{take-length}
use Rattle.instantiation_writer.proofs.MapBits.{mapping-none, mapping-next, mapping-end}
use Rattle.instantiation_writer.proofs.maps.set_bits.Goals as goal

pub loop-e-init : goal.loop-e-init
loop-e-init c = mapping-none _ _ c.requires.1

pub loop-e-preserved : goal.loop-e-preserved
loop-e-preserved c = mapping-next _ _ (omega arith) c.requires.0 c.loop-e.invariant c.loop-e-test.true refl

pub returns : goal.returns
returns c =
    rw (take-length c.args.entries.now) at
    (mapping-end c.args.entries.now (length c.args.entries.now) (omega arith) c.requires.0 c.loop-e.invariant c.loop-e-test.false)
