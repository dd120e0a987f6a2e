use Prim.Native.Nat.{◌-◌}
use mathlib.Core.Path.{refl, ap}
use mathlib.Core.List.{List}
use native.Mathlib.Omega.{arith}
use Rattle.column.specs.Column.{allowed_in}
use Rattle.cover_table.specs.Table.{row-lent, row-after}
use Rattle.cover_choice.specs.Specials.{choosing-next, choosing-ended, picked-below}
use Rattle.cover_choice.proofs.choose_specials.Goals as goal

pub pick-s-requires : goal.pick-s-requires
pick-s-requires c =
    let pre = c.requires in
    let loop = c.loop-i in
    let next = row-lent _ _ _ 16 _ pre.le_count.2 (15 - loop.i) (omega arith) (omega arith) in
    let long = next.long in
    let need = loop.invariant.below in
    (omega arith, pre.le_count.1, omega arith, next.costs loop.need need)

pub overflow_cast-s : goal.overflow_cast-s
overflow_cast-s c =
    let pre = c.requires in
    let loop = c.loop-i in
    let some = loop.invariant.some in
    let below = c.loop-i-test.true in
    let few = pre.le_count.1 in
    let aims = row-after _ _ _ 16 _ pre.le_count.2 (15 - loop.i) (16 - loop.i) loop.need (omega arith) (omega arith) loop.invariant.below in
    let small = picked-below _ _ few loop.i loop.subsets loop.need loop.invariant _ _ _ _ below (λ s h. ap (λ (l : List _). allowed_in l s) c.column_of-column.ensures)
    (row-lent _ _ _ 16 _ pre.le_count.2 (15 - loop.i) (omega arith) (omega arith)).holds aims c.pick-s.ensures in
    omega arith

pub loop-i-preserved : goal.loop-i-preserved
loop-i-preserved c =
    let pre = c.requires in
    let loop = c.loop-i in
    let some = loop.invariant.some in
    let below = c.loop-i-test.true in
    let few = pre.le_count.1 in
    let aims = row-after _ _ _ 16 _ pre.le_count.2 (15 - loop.i) (16 - loop.i) loop.need (omega arith) (omega arith) loop.invariant.below in
    choosing-next _ _ few loop.i loop.subsets loop.need loop.invariant _ _ _ _ below (λ s h. ap (λ (l : List _). allowed_in l s) c.column_of-column.ensures)
    (row-lent _ _ _ 16 _ pre.le_count.2 (15 - loop.i) (omega arith) (omega arith)).holds aims c.pick-s.ensures _ refl

pub returns : goal.returns
returns c = choosing-ended _ _ c.requires.le_count.1 _ _ _ c.loop-i.invariant (let past = c.loop-i-test.false in omega arith)
