use Rattle.entering.specs.Entering.{mark-goes-on, mark-all}
use Rattle.std.proofs.Common.{sym, refl, ◌∙◌, arith}
use Rattle.entering.proofs.entering.mark.Goals as goal

pub loop-i-preserved : goal.loop-i-preserved
loop-i-preserved c =
    let loop = c.loop-i in
    let pre = c.requires in
    let marked = c.in-Ok.ensures in
    let enough = pre.enough in (
      omega arith,
      c.mark_one.auto.items ∙ loop.invariant.1,
      mark-goes-on c.args.subset pre loop.items (omega arith) loop.invariant.2 c.ranges.subset.fits c.loop-i-test.true c.word_at-a.ensures
          marked.passed marked.after (sym marked.found) refl,
    )

pub returns : goal.returns
returns c =
    let loop = c.loop-i in
    let pre = c.requires in
    let enough = pre.enough in
    let size = loop.invariant.1 in
    record {
      unchanged = loop.invariant.2.same;
      table_in = λ all. mark-all c.args.subset pre loop.items (omega arith) loop.invariant.2 (omega arith);
    }
