use mathlib.Core.Path.{sym, ◌∙◌}
use Rattle.column.specs.ColumnLaws.{allowed-bit}
use Rattle.bits.specs.Bit.{bit_test}
use Rattle.column.proofs.subsets.allowed_in.Goals as goal

pub returns : goal.returns
returns c = bit_test _ _ ∙ sym (allowed-bit _ _)
