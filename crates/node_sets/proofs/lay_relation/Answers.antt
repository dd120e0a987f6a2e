use Prim.Native.Nat.{◌+◌, ◌-◌, ◌*◌, ◌/◌}
use native.Mathlib.Omega.{arith}
use Rattle.std.specs.Prelude.{length}
use Rattle.std.proofs.Common.{length-take-le}
use Rattle.type_sets.specs.SetLaws.{laying-next}
use Rattle.entry_columns.specs.EntryColumns.{stacking-whole, word-is}
use Rattle.node_sets.proofs.lay_relation.Goals as goal

pub loop-v-preserved : goal.loop-v-preserved
loop-v-preserved c =
    let loop = c.loop-v in
    let pre = c.requires in
    let args = c.args in
    let size = loop.invariant.size in
    let wide = pre.width_value.0 in
    let made = length-take-le ((length args.entries.now + 7) / 8) args.groups.now pre.groups.0 in
    let held = stacking-whole args.groups.now ((length args.entries.now + 7) / 8) (args.r * 8) ((loop.v - 2) * 8) _ _ (omega arith) c.held_word.ensures in
    let word = word-is args.entries.now args.groups.now _ args.r loop.v _ _ (omega arith) pre.groups pre.r_bound (omega arith) (omega arith) (rw made) c.held_word.type_inv held in
    laying-next _ _ _ (omega arith) word loop.invariant
