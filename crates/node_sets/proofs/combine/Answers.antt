use native.Mathlib.Omega.{arith}
use Rattle.type_sets.specs.SetLaws.{combining-first, combining-next}
use Rattle.node_sets.proofs.combine.Goals as goal

pub loop-v-init : goal.loop-v-init
loop-v-init c = combining-first

pub loop-v-preserved : goal.loop-v-preserved
loop-v-preserved c =
    let loop = c.loop-v in
    let args = c.args in
    let size = loop.invariant.size in
    combining-next _ _ _ _ _ (omega arith) (omega arith) (omega arith) (omega arith) c.breaking-broken.ensures
    c.coming_out.ensures loop.invariant
