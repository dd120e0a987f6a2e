use Rattle.bits.specs.Bit.{bit_test}
use Rattle.repeated_attributes.proofs.is_standing.Goals as goal

pub returns : goal.returns
returns c = bit_test _ _
