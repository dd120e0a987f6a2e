use Prim.Native.Nat.{◌*◌}
use native.Mathlib.Omega.{arith}
use Rattle.cover_rows.specs.LowEntries.{held-not, held-is, dropped-none}
use Rattle.cover_rows.proofs.low.drop_held.Goals as goal

pub returns-then-low-relation-ne0 : goal.returns-then-low-relation-ne0
returns-then-low-relation-ne0 c =
    let args = c.args in
    rw (held-is args.low args.relation c.if-low-relation-ne0.true) c.drop_relation.ensures

pub returns-else-low-relation-ne0 : goal.returns-else-low-relation-ne0
returns-else-low-relation-ne0 c =
    let args = c.args in
    let pre = c.requires in
    rw (held-not args.low args.relation c.if-low-relation-ne0.false) (dropped-none args.table.now (args.blocks * 16) (omega arith))
