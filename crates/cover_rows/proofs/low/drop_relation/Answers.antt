use native.Mathlib.Omega.{arith}
use Rattle.cover_rows.specs.LowEntries.{dropped-block}
use Rattle.cover_rows.proofs.low.drop_relation.Goals as goal

pub loop-h-preserved : goal.loop-h-preserved
loop-h-preserved c =
    let args = c.args in
    let pre = c.requires in
    let loop = c.loop-h in
    let below = c.loop-h-test.true in
    (omega arith, dropped-block args.table.now args.relation loop.h pre.1 (omega arith) loop.table c.drop_in_block.new.table loop.invariant.1 c.drop_in_block.ensures)
