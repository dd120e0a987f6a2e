use native.Mathlib.Omega.{arith}
use Rattle.cover_rows.specs.Tried.{reached-none, reached-past, reached-all}
use Rattle.cover_rows.proofs.rows.cost_row.Goals as goal
use Rattle.cover_rows.proofs.rows.cost_row.Goals.{then-allows_low, else-allows_low}

pub loop-low-init : goal.loop-low-init
loop-low-init c = let pre = c.requires in rw (pre.3) (reached-none (omega arith) pre.1)

pub loop-low-preserved : goal.loop-low-preserved
loop-low-preserved c =
    let pre = c.requires in
    let loop = c.loop-low in
    elim c.if-allows_low.branch [
      | then-allows_low w ↦ rw (w.row-is) w.try_low.ensures
      | else-allows_low w ↦
          rw (w.row-is) (reached-past (omega arith) pre.1 loop.low (c.allows_low.ensures w.if-allows_low.false) loop.invariant)
    ]

pub returns : goal.returns
returns c =
    let pre = c.requires in
    let loop = c.loop-low in
    let lows = c.low_parts-lows.ensures in
    let past = c.loop-low-test.false in
    reached-all (omega arith) pre.1 loop.low (omega arith) loop.invariant
