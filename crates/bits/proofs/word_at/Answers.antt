use Rattle.std.proofs.Common.{arith, ◌∙◌}
use Rattle.bits.specs.Word.{word}
use Rattle.bits.proofs.word_at.Goals as goal

pub returns : goal.returns
unfolding word
returns c = c.from_le_bytes.ensures ∙ omega arith
