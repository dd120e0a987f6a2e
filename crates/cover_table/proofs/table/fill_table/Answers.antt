use Prim.Native.Nat.{◌*◌}
use mathlib.Core.Path.{refl, sym, ap, ◌∙◌}
use mathlib.Core.List.{List}
use native.Mathlib.Omega.{arith}
use Rattle.column.specs.Column.{allowed_in}
use Rattle.verdict_answer.specs.First.{allowed_at}
use Rattle.cover_table.specs.Table.{table-first, table-next, kept_row, made_row}
use Rattle.cover_table.proofs.table.fill_table.Goals as goal
use Rattle.cover_table.proofs.table.fill_table.Goals.{then-same_bytes, else-same_bytes}

pub loop-k-init : goal.loop-k-init
loop-k-init c =
    let args = c.args in
    let pre = c.requires in
    let column = ap (λ (l : List _). allowed_in l) c.column_of-first.ensures in
    let first = table-first args.count (allowed_at args.formula.now 0) (omega arith) pre.blocks_bound.2 args.table.now _ _ (args.blocks * 16) pre.blocks_bound.1 (omega arith) pre.table_len (rw column at c.variables_row-row.ensures) c.copy_bytes.ensures in
    (omega arith, refl, first.0, first.1)

pub loop-k-preserved : goal.loop-k-preserved
loop-k-preserved c =
    let args = c.args in
    let pre = c.requires in
    let loop = c.loop-k in
    let below = c.loop-k-test.true in
    elim c.if-same_bytes.branch [
      | then-same_bytes w ↦
          let same = sym c.same_bytes.ensures ∙ w.if-same_bytes.true in
          let next = table-next args.count (allowed_at args.formula.now 0) (omega arith) pre.blocks_bound.2 loop.k _ _ loop.row _ loop.table _ (args.blocks * 16) pre.blocks_bound.1 (omega arith) below
          (λ s h. ap (λ (l : List _). allowed_in l s) c.column_of-first.ensures)
          (λ s h. ap (λ (l : List _). allowed_in l s) c.column_of-column.ensures) loop.invariant.3 loop.invariant.2
          (kept_row _ _ loop.row (args.blocks * 16) args.count same) w.copy_bytes-then-same_bytes.ensures in
          rw (w.row-is, w.table-is) (omega arith, w.copy_bytes-then-same_bytes.auto.to ∙ loop.invariant.1, next.0, next.1)
      | else-same_bytes w ↦
          let other = sym c.same_bytes.ensures ∙ w.if-same_bytes.false in
          let next = table-next args.count (allowed_at args.formula.now 0) (omega arith) pre.blocks_bound.2 loop.k _ _ loop.row _ loop.table _ (args.blocks * 16) pre.blocks_bound.1 (omega arith) below
          (λ s h. ap (λ (l : List _). allowed_in l s) c.column_of-first.ensures)
          (λ s h. ap (λ (l : List _). allowed_in l s) c.column_of-column.ensures) loop.invariant.3 loop.invariant.2
          (made_row _ _ loop.row (args.blocks * 16) args.count _ w.cost_row.ensures other) w.copy_bytes-else-same_bytes.ensures in
          rw (w.row-is, w.table-is) (omega arith, w.copy_bytes-else-same_bytes.auto.to ∙ loop.invariant.1, next.0, next.1)
    ]
