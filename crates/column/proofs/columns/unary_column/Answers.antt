use mathlib.Core.Path.{sym, ◌∙◌}
use native.Mathlib.Omega.{arith}
use Rattle.planes.specs.PlaneLaws.{stepped-is}
use Rattle.column.specs.ColumnLaws.{plain-unary, filling-both, filling-end}
use Rattle.column.specs.ColumnBytes.{unary-map}
use Rattle.column.proofs.columns.unary_column.Goals as goal

pub loop-j-preserved : goal.loop-j-preserved
loop-j-preserved c =
    let bytes = c.unary_bytes-bytes.ensures in
    let map = unary-map c.args.u c.args.operand c.loop-j.j in
    (omega arith, filling-both _ _ _ _ _ c.loop-j-test.true (bytes.allowed_value ∙ map 0) (bytes.output_value ∙ map 1) c.loop-j.invariant.1)

pub returns : goal.returns
returns c = filling-end _ _ _ (omega arith) c.loop-j.invariant.1 ∙ stepped-is 2 _ _ ∙ sym (plain-unary _ _)
