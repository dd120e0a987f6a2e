use Rattle.std.proofs.Common.{◌+◌, ◌-◌, length}
use Rattle.query_operands.proofs.operands.+read_operand_read_pair.Given as goal

abbrev pub decreases-read_operand : goal.decreases-read_operand
decreases-read_operand l = (length l.text.now - l.at) + (length l.text.now - l.at)

abbrev pub decreases-read_pair : goal.decreases-read_pair
decreases-read_pair l = (length l.text.now - l.at) + (length l.text.now - l.at) + 1
