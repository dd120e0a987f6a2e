use borrow.Author.Rules.{rules}
use Rattle.bits.specs.Bit.{bit-and}
use Rattle.column.specs.StepLaws.{agreement-bit}
use Rattle.column.proofs.steps.agreeing_bytes.Goals as goal

pub returns : goal.returns
returns c = record { by_index = search (rules, agreement-bit 8, bit-and); by_index_2 = search (rules, agreement-bit 8, bit-and) }
