use Rattle.std.proofs.Common.{ℕ, List, length, take, ◌≤◌}
use Rattle.std.proofs.Math.Seq.{take-length}
use Rattle.type_record.specs.Lists.{list_bytes}
use Rattle.instantiation.specs.Runs.{list_at}
use Rattle.instantiation_writer.proofs.OneList.{follow-first, follow-room, follow-next, follow-whole}
use lib.ListN.{length-set}
use native.Mathlib.Omega.{arith}
use mathlib.Core.Logic.{inl, inr}
use Rattle.instantiation_writer.proofs.lists.write_list.Goals.{then-loop-j-test+else-sorted-j, else-loop-j-test}
use Rattle.instantiation_writer.proofs.lists.write_list.Goals as goal

fits : (sorted out : List ℕ) (i : ℕ) → length (list_bytes (list_at sorted i)) ≤ length out → length (list_bytes (list_at (take (length sorted) sorted) i)) ≤ length out
fits sorted out i h = rw (take-length sorted) h

pub loop-j-init : goal.loop-j-init
loop-j-init c = follow-first _ _ c.requires.by_subset.0 _ c.requires.by_subset.1 _

pub bounds-out-j : goal.bounds-out-j
bounds-out-j c =
    let pre = c.requires in
    let room = follow-room _ _ pre.by_subset.0 _ pre.by_subset.1 (fits c.args.sorted.now c.args.out.now c.args.i pre.i_in_bounds) c.loop-j.invariant c.loop-j-test.true
    c.if-sorted-j.true in
    omega arith

pub bounds-out-j-in-loop-j : goal.bounds-out-j-in-loop-j
bounds-out-j-in-loop-j c =
    let pre = c.requires in
    let room = follow-room _ _ pre.by_subset.0 _ pre.by_subset.1 (fits c.args.sorted.now c.args.out.now c.args.i pre.i_in_bounds) c.loop-j.invariant c.loop-j-test.true
    c.if-sorted-j.true in
    simp length-set (omega arith)

pub loop-j-preserved : goal.loop-j-preserved
loop-j-preserved c =
    let pre = c.requires in
    follow-next _ _ pre.by_subset.0 _ pre.by_subset.1 (fits c.args.sorted.now c.args.out.now c.args.i pre.i_in_bounds) c.loop-j.invariant c.loop-j-test.true c.if-sorted-j.true

pub returns : goal.returns
returns c =
    let pre = c.requires in
    let both = rw (take-length c.args.sorted.now) at
    (follow-whole _ _ pre.by_subset.0 _ pre.by_subset.1 (fits c.args.sorted.now c.args.out.now c.args.i pre.i_in_bounds) c.loop-j.invariant
    (elim c.loop-j-test.branch [ then-loop-j-test+else-sorted-j w ↦ inr (w.loop-j-test.true, w.if-sorted-j.false) | else-loop-j-test w ↦ inl w.loop-j-test.false ])) in
    record { value = both.0; out_after = both.1 }
