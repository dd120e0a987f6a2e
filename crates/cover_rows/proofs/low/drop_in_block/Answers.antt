use Prim.Native.Nat.{◌*◌}
use native.Mathlib.Omega.{arith}
use Rattle.cover_rows.specs.Blocks.{written-at-more}
use Rattle.cover_rows.specs.LowEntries.{dropped_entry, dropped-next}
use Rattle.cover_rows.proofs.low.drop_in_block.Goals as goal

pub loop-n-preserved : goal.loop-n-preserved
loop-n-preserved c =
    let args = c.args in
    let loop = c.loop-n in
    let size = loop.invariant.1.size in
    let pre = c.requires in
    let below = c.loop-n-test.true in (
      omega arith,
      written-at-more (dropped_entry args.table.now args.relation (args.h * 16)) (args.h * 16) args.table.now loop.n loop.table _ (omega arith) loop.invariant.1
          (dropped-next args.table.now args.relation args.h pre.1 pre.0 loop.n loop.table below loop.invariant.1),
    )
