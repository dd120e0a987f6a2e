use native.Mathlib.Omega.{arith}
use Rattle.record.specs.RecordLaws.{seek-here, seek-next, seek_found}
use Rattle.record.proofs.place_of.Goals as goal

pub loop-k-init : goal.loop-k-init
loop-k-init c = c.requires

pub bounds-file-at : goal.bounds-file-at
bounds-file-at c = (seek-here _ _ _ _ c.loop-k.invariant).below

pub size_of-at-requires : goal.size_of-at-requires
size_of-at-requires c = (seek-here _ _ _ _ c.loop-k.invariant).map-legal

pub overflow_add-at : goal.overflow_add-at
overflow_add-at c =
    let inside = (seek-next _ _ _ _ c.loop-k.invariant c.loop-k-test.true).walk.inside in
    let size = c.size_of-at.ensures in omega arith

pub loop-k-preserved : goal.loop-k-preserved
loop-k-preserved c = rw c.size_of-at.ensures (seek-next _ _ _ _ c.loop-k.invariant c.loop-k-test.true)

pub bounds-file-at-2 : goal.bounds-file-at-2
bounds-file-at-2 c = (seek-here _ _ _ _ c.loop-k.invariant).below

pub size_of-requires : goal.size_of-requires
size_of-requires c = (seek-here _ _ _ _ c.loop-k.invariant).map-legal

pub returns : goal.returns
returns c = rw c.size_of.ensures (seek_found _ _ _ _ c.loop-k.invariant c.loop-k-test.false)
