use Prim.Native.Nat.{◌+◌}
use mathlib.Core.Path.{refl, ◌∙◌}
use native.Mathlib.Omega.{arith}
use Rattle.expression_file.specs.Walk.{walk_first, walk-next, walk_here}
use Rattle.type_sets.specs.SetLaws.{node-below}
use Rattle.type_sets.specs.FilledSets.{filled_none}
use Rattle.set_filling.proofs.fill_sets.Goals as goal

pub loop-k-init : goal.loop-k-init
loop-k-init c =
    let args = c.args in
    (refl, walk_first _ _ _ c.args.file.now.accepted, filled_none _ _ _ _ _)

pub fill_node-at-requires : goal.fill_node-at-requires
fill_node-at-requires c =
    let loop = c.loop-k in
    let args = c.args in
    let size = loop.invariant.0 in
    let most = node-below loop.k (args.node + 1) args.width (omega arith) in
    record {
      here = walk_here _ _ _ _ _ c.args.file.now.accepted (omega arith) loop.invariant.1;
      special_len = c.requires.node_lt_n.1;
      groups = c.gather_subsets.ensures;
      width_value = (c.requires.width_value.0, omega arith);
      filled = loop.invariant.2;
    }

pub loop-k-preserved : goal.loop-k-preserved
loop-k-preserved c =
    let fill-node = c.fill_node-at in
    let loop = c.loop-k in
    let args = c.args in
    let below = c.requires.node_lt_n.0 in
    let step = walk-next _ _ _ _ _ loop.invariant.1 (omega arith) in
    (fill-node.auto.sets ∙ loop.invariant.0, rw fill-node.ensures.value step.next, fill-node.ensures.filled_2)
