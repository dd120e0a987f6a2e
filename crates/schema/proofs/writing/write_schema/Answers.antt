use Rattle.std.proofs.Common.{ℕ, List, take, ◌≡◌, take_all}
use Rattle.membership.specs.Holders.{held_by}
use Rattle.schema.proofs.RecordsBefore.{prefix-first, room, listed-most, prefix-next}
use lib.ListN.{length}
use borrow.Rule.Slice.PartMut.{mid_len}
use native.Mathlib.Omega.{arith}
use native.Mathlib.Nat.{le_refl}
use mathlib.Core.Path.{refl, ◌∙◌}
use Rattle.schema.proofs.writing.write_schema.Goals as goal

module _ (entries : List ℕ) where
  all : take (length entries) entries ≡ entries
  all = take_all (length entries) entries (omega arith)

  held-all : (r : ℕ) {n : ℕ} (list : List ℕ) → n ≡ length (held_by r entries) → take n list ≡ held_by r entries
      → (n ≡ length (held_by r (take (length entries) entries))) × (take n list ≡ held_by r (take (length entries) entries))
  held-all r list number is = rw all (number, is)

pub loop-r-init : goal.loop-r-init
loop-r-init c = (prefix-first _ _ _ _, refl)

pub write_record-at-requires : goal.write_record-at-requires
write_record-at-requires c =
    let held_by = c.held_by-n in
    let held = held-all c.args.entries.now c.loop-r.r held_by.new.list held_by.ensures.value held_by.ensures.list_after in
    let loop = c.loop-r in
    let pre = c.requires in
    let space = room pre.m_bound pre.writes_from pre.schema_size_in_bounds.0 loop.invariant.0 c.loop-r-test.true in
    let part = mid_len loop.at (length loop.out) loop.out (le_refl (length loop.out)) in
    record {
      special_value = pre.writes_from.even loop.r;
      listed_len_bound = listed-most pre.m_bound pre.writes_from pre.schema_size_in_bounds.0 loop.invariant.0 _ held.0 held.1;
      output_size_in_bounds = omega arith;
    }

pub overflow_add-at : goal.overflow_add-at
overflow_add-at c =
    let held_by = c.held_by-n in
    let held = held-all c.args.entries.now c.loop-r.r held_by.new.list held_by.ensures.value held_by.ensures.list_after in
    let pre = c.requires in
    let eight = pre.m_bound in
    let most = (prefix-next pre.m_bound pre.writes_from pre.schema_size_in_bounds.0 c.loop-r.invariant.0 _ held.0 held.1
    c.loop-r-test.true c.write_record-at.ensures.value c.write_record-at.ensures.out_after).most in
    omega arith

pub loop-r-preserved : goal.loop-r-preserved
loop-r-preserved c =
    let held_by = c.held_by-n in
    let held = held-all c.args.entries.now c.loop-r.r held_by.new.list held_by.ensures.value held_by.ensures.list_after in
    let loop = c.loop-r in
    let pre = c.requires in (
      prefix-next pre.m_bound pre.writes_from pre.schema_size_in_bounds.0 loop.invariant.0 _ held.0 held.1 c.loop-r-test.true
          c.write_record-at.ensures.value c.write_record-at.ensures.out_after,
      held_by.auto.list ∙ loop.invariant.1,
    )
