use Rattle.std.proofs.Common.{arith, ◌∙◌}
use Rattle.node_word.specs.NodeWord.{word_of}
use Rattle.node_word.proofs.words.word.Goals as goal

pub returns : goal.returns
unfolding word_of
returns c = let is = c.from_le_bytes.ensures in record { value = omega (arith, is); upper_bound = omega (arith, is) }
