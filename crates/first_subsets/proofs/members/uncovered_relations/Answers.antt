use mathlib.Core.Path.{refl, sym, ◌∙◌}
use native.Mathlib.Omega.{arith}
use Rattle.set_cover.specs.Covered.{uncovered-next}
use Rattle.first_subsets.proofs.members.uncovered_relations.Goals as goal

pub loop-i-preserved : goal.loop-i-preserved
loop-i-preserved c =
    let loop = c.loop-i in
    let subsets = c.args.subsets.now in
    let below = c.loop-i-test.true in
    (omega arith, sym (uncovered-next subsets loop.need loop.i _ (omega arith) refl) ∙ loop.invariant.1)
