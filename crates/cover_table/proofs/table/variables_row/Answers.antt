use Prim.Native.Nat.{◌*◌}
use mathlib.Core.Path.{◌≡◌, refl, sym, ap, ◌∙◌}
use native.Mathlib.Omega.{arith}
use Rattle.column.specs.Column.{allowed_in}
use Rattle.cover_table.specs.Alike.{alike}
use Rattle.cover_table.specs.Table.{start-row, settled-row, covering-more}
use Rattle.cover_table.proofs.table.variables_row.Goals as goal

pub loop-j-init : goal.loop-j-init
loop-j-init c = let pre = c.requires in (omega arith, start-row _ _ (omega arith))

pub returns-then-same_bytes : goal.returns-then-same_bytes
returns-then-same_bytes c =
    let loop = c.loop-j in
    let args = c.args in
    let pre = c.requires in
    settled-row args.count (allowed_in args.column) (omega arith) _ args.column _ (args.blocks * 16) loop.invariant.0 pre.1 (omega arith) (λ s h. refl) loop.invariant.1
    (ap (alike (args.blocks * 16) loop.row) (sym c.cost_row.ensures) ∙ sym c.same_bytes.ensures ∙ c.if-same_bytes.true)

pub loop-j-preserved : goal.loop-j-preserved
loop-j-preserved c =
    let loop = c.loop-j in
    let args = c.args in
    let pre = c.requires in
    let below = c.loop-j-test.true in
    (omega arith, rw c.cost_row.ensures (covering-more args.count (allowed_in args.column) (omega arith) _ args.column _ (args.blocks * 16) pre.1 (omega arith) (λ s h. refl) loop.invariant.1))

pub returns : goal.returns
returns c =
    let loop = c.loop-j in
    let most = loop.invariant.0 in
    let past = c.loop-j-test.false in
    let all : loop.j ≡ 8 = omega arith in
    rw all at loop.invariant.1
