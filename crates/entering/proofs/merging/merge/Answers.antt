use Rattle.entering.specs.Merging.{merge-entered}
use Rattle.entering.proofs.merging.merge.Goals as goal

pub loop-i-preserved : goal.loop-i-preserved
loop-i-preserved c =
    let pre = c.requires in
    merge-entered c.args.subset pre.enters c.loop-i.invariant pre.in_bounds c.loop-i-test.true
    c.word_at-a.ensures c.enter_one-reached.ensures
