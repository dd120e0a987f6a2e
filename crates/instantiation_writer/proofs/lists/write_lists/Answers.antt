use Rattle.std.proofs.Common.{List, ℕ, length, take, ◌+◌, ◌≡◌}
use Rattle.bits.specs.Tab.{over}
use Rattle.type_record.specs.Lists.{list_bytes}
use Rattle.instantiation.specs.Runs.{list_at}
use Rattle.std.proofs.Math.Seq.{take-length}
use Rattle.instantiation_writer.proofs.ListsBefore.{prefix-first, prefix-at, reach, list-size, part_room, list-up_to, prefix-next, prefix-end}
use native.Mathlib.Omega.{arith}
use Rattle.instantiation_writer.proofs.lists.write_lists.Goals as goal

module _ (sorted : List ℕ) (i : ℕ) where
  ends : {j : ℕ} → j ≡ i + length (list_at sorted i) → j ≡ i + length (list_at (take (length sorted) sorted) i)
  ends is = rw (take-length sorted) is

  list-written : {part : List ℕ} (old : List ℕ) → part ≡ over (list_bytes (list_at sorted i)) old → part ≡ over (list_bytes (list_at (take (length sorted) sorted) i)) old
  list-written old is = rw (take-length sorted) is

pub loop-i-init : goal.loop-i-init
loop-i-init c = prefix-first _ _

pub slice_bounds-write_list-count : goal.slice_bounds-write_list-count
slice_bounds-write_list-count c =
    let pre = c.requires in
    let inside = prefix-at _ _ pre.by_subset pre.in_bounds c.loop-i.invariant in
    omega arith

pub slice_bounds-write_list-start : goal.slice_bounds-write_list-start
slice_bounds-write_list-start c =
    let pre = c.requires in
    let inside = prefix-at _ _ pre.by_subset pre.in_bounds c.loop-i.invariant in
    omega arith

pub write_list-j-requires : goal.write_list-j-requires
write_list-j-requires c =
    let pre = c.requires in
    record {
      by_subset = (pre.by_subset, c.loop-i-test.true);
      i_in_bounds = rw (take-length c.args.sorted.now) at (part_room _ _ pre.by_subset pre.in_bounds c.loop-i.invariant c.loop-i-test.true);
    }

pub overflow_mul-at : goal.overflow_mul-at
overflow_mul-at c =
    let pre = c.requires in
    let is = (ends c.args.sorted.now c.loop-i.i c.write_list-j.ensures.value) in
    let end = list-up_to _ _ pre.by_subset pre.in_bounds c.loop-i.invariant c.loop-i-test.true in
    let few = pre.by_subset.few in
    omega arith

pub overflow_add-at : goal.overflow_add-at
overflow_add-at c =
    let pre = c.requires in
    let is = (ends c.args.sorted.now c.loop-i.i c.write_list-j.ensures.value) in
    let end = list-up_to _ _ pre.by_subset pre.in_bounds c.loop-i.invariant c.loop-i-test.true in
    let few = pre.by_subset.few in
    omega arith

pub overflow_add-at-in-loop-i : goal.overflow_add-at-in-loop-i
overflow_add-at-in-loop-i c =
    let loop-test = c.loop-i-test in
    let loop = c.loop-i in
    let pre = c.requires in
    let is = (ends c.args.sorted.now c.loop-i.i c.write_list-j.ensures.value) in
    let end = reach _ _ pre.by_subset pre.in_bounds loop.invariant loop-test.true in
    let size = list-size _ _ pre.by_subset pre.in_bounds loop.invariant loop-test.true in
    omega arith

pub loop-i-preserved : goal.loop-i-preserved
loop-i-preserved c =
    let pre = c.requires in
    prefix-next _ _ pre.by_subset pre.in_bounds c.loop-i.invariant c.loop-i-test.true (ends c.args.sorted.now c.loop-i.i c.write_list-j.ensures.value)
    (list-written c.args.sorted.now c.loop-i.i _ c.write_list-j.ensures.out_after)

pub returns : goal.returns
returns c =
    let pre = c.requires in
    let both = rw (take-length c.args.sorted.now) at (prefix-end _ _ pre.by_subset pre.in_bounds c.loop-i.invariant c.loop-i-test.false) in
    record { value = both.0; out_after = both.1 }
