use mathlib.Core.Path.{sym, ◌∙◌}
use native.Mathlib.Omega.{arith}
use Rattle.planes.specs.PlaneLaws.{stepped-is2}
use Rattle.column.specs.ColumnLaws.{plain-combined, filling-both, filling-end}
use Rattle.column.specs.ColumnBytes.{combined-map}
use Rattle.column.proofs.columns.combined_column.Goals as goal

pub loop-j-preserved : goal.loop-j-preserved
loop-j-preserved c =
    let args = c.args in
    let made = c.combined_bytes-bytes.ensures in
    let map = combined-map args.c args.left args.right c.loop-j.j in
    (omega arith, filling-both _ _ _ _ _ c.loop-j-test.true (made.allowed ∙ map 0) (made.output ∙ map 1) c.loop-j.invariant.1)

pub returns : goal.returns
returns c = filling-end _ _ _ (omega arith) c.loop-j.invariant.1 ∙ stepped-is2 2 _ _ _ ∙ sym (plain-combined _ _ _)
