use Rattle.std.proofs.Common.{length, arith}
use Rattle.filled_schema.proofs.HoldersResumed.{gathered_none, gathered_next}
use Rattle.filled_schema.proofs.holders.Goals as goal

pub loop-e-init : goal.loop-e-init
loop-e-init c = gathered_none c.args.entries.now (length c.args.entries.now)

pub loop-e-preserved : goal.loop-e-preserved
loop-e-preserved c = gathered_next _ _ (omega arith) _ _ c.loop-e.invariant c.loop-e-test.true
