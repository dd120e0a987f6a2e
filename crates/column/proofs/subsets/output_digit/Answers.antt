use mathlib.Core.Path.{sym, ap, ◌∙◌}
use mathlib.Core.Bool.{Bool, cond}
use Rattle.bits.specs.PackFrom.{bit-digit}
use Rattle.column.specs.ColumnLaws.{output-bit}
use Rattle.column.proofs.subsets.output_digit.Goals as goal

pub returns : goal.returns
returns c = sym (ap (λ (b : Bool). cond b 1 0) (output-bit _ _) ∙ bit-digit _ _)
