use mathlib.Core.Path.{◌∙◌}
use native.Mathlib.Omega.{arith}
use Rattle.expression_file.specs.Walk.{walk_first, walk-next, walk-decoded}
use Rattle.listing_entries.specs.Naming.{named_none, named-next}
use Rattle.listing_entries.proofs.naming.named_attributes.Goals as goal

pub loop-k-init : goal.loop-k-init
loop-k-init c = (walk_first _ _ _ c.args.file.now.accepted, rw c.empty-set.ensures (named_none _))

pub decode-decoding-requires : goal.decode-decoding-requires
decode-decoding-requires c = (walk-decoded _ _ _ _ _ c.loop-k.invariant.0 c.loop-k-test.true).checked

pub overflow_add-at : goal.overflow_add-at
overflow_add-at c =
    let walk = c.loop-k.invariant.0 in
    let more = c.loop-k-test.true in
    let size = c.decode-decoding.ensures.size_value ∙ (walk-decoded _ _ _ _ _ walk more).decoding-size in
    let inside = (walk-next _ _ _ _ _ walk more).next.inside in
    omega arith

pub loop-k-preserved : goal.loop-k-preserved
loop-k-preserved c =
    let walk = c.loop-k.invariant.0 in
    let more = c.loop-k-test.true in
    let here = walk-decoded _ _ _ _ _ walk more in
    let decoding = c.decode-decoding.ensures in (
      rw (decoding.size_value ∙ here.decoding-size) (walk-next _ _ _ _ _ walk more).next,
      named-next _ _ _ _ _ (decoding.node_value ∙ here.node-is) c.loop-k.invariant.1 c.add_named-set.ensures,
    )
