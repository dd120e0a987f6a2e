use native.Mathlib.Omega.{arith}
use lib.Dec.{eqb}
use lib.ListN.{get_or}
use Rattle.cover_table.specs.Alike.{alike-none, alike_next, one_at_most}
use Rattle.cover_table.proofs.alike.same_bytes.Goals as goal

pub loop-i-init : goal.loop-i-init
loop-i-init c = (omega arith, omega arith, alike-none _ _)

pub loop-i-preserved : goal.loop-i-preserved
loop-i-preserved c =
    let args = c.args in
    let loop = c.loop-i in
    let below = c.loop-i-test.true in
    let one = one_at_most (eqb (get_or args.a.now loop.i 0) (get_or args.b.now loop.i 0)) in
    let is = c.difference-differences.ensures in
    (omega arith, omega arith, rw is (alike_next loop.i args.a.now args.b.now loop.differences loop.invariant.2))
