use mathlib.Core.Path.{◌∙◌}
use native.Mathlib.Omega.{arith}
use Rattle.cover_rows.specs.Blocks.{lowered-block}
use Rattle.cover_rows.proofs.rows.lower_row.Goals as goal

pub loop-h-preserved : goal.loop-h-preserved
loop-h-preserved c =
    let args = c.args in
    let loop = c.loop-h in
    let below = c.loop-h-test.true in (
      omega arith,
      c.lower_block.ensures.size ∙ loop.invariant.1,
      lowered-block args.row.now args.table.now args.high args.members loop.h loop.row c.lower_block.new.row loop.invariant.2 c.lower_block.ensures,
    )
