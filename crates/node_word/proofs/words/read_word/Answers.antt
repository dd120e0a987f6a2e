use Rattle.node_word.specs.NodeWord.{read_word}
use Rattle.node_word.proofs.words.read_word.Goals as goal

pub returns : goal.returns
unfolding read_word
returns c = simp c.node_word.ensures.value
