use Prim.Native.Nat.{◌/◌}
use mathlib.Core.Path.{◌≡◌}
use native.Mathlib.Nat.{div-one}
use native.Mathlib.Omega.{arith}
use borrow.Author.Rules.{rules}
use Rattle.std.specs.Prelude.{length}
use Rattle.entry_columns.specs.EntryColumns.{gathering-next, gathering-all}
use Rattle.entry_columns.proofs.gather_subsets.Goals as goal

pub loop-g-preserved : goal.loop-g-preserved
loop-g-preserved c =
    let args = c.args in
    gathering-next _ _ _ _ 8 _ _ _ (omega arith) (omega arith) (omega arith) (omega arith)
    (c.stack.ensures _ 0 _ (omega arith) (λ j b h p. rw div-one (search rules)))
    c.transpose.ensures c.loop-g.invariant

pub returns : goal.returns
returns c =
    let loop = c.loop-g in
    let args = c.args in
    let full : loop.g-counter ≡ length args.entries.now / 8 = omega arith in
    gathering-all _ _ _ _ _ (omega arith) c.requires
    (gathering-next _ _ _ _ _ _ _ _ (omega arith) (omega arith) (omega arith) (omega arith)
    (c.stack-2.ensures _ 0 _ (omega arith) (λ j b h p. rw div-one (search rules)))
    c.transpose-2.ensures (rw full at loop.invariant))
