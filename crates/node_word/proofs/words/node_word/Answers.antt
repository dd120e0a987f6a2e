use mathlib.Core.Path.{sym, ap, ◌∙◌}
use Rattle.node_word.specs.NodeWord.{node_word}
use Rattle.node_word.proofs.words.node_word.Goals as goal

pub returns-in-Relation : goal.returns-in-Relation
unfolding node_word
returns-in-Relation c =
    record {
      value = c.word.ensures.value ∙ ap node_word (sym c.in-Relation.is);
      upper_bound = c.word.ensures.upper_bound;
    }

pub returns-in-Binary : goal.returns-in-Binary
unfolding node_word
returns-in-Binary c =
    record {
      value = simp (c.word-in-Binary.ensures.value, c.binary_code.ensures, c.in-Binary.is);
      upper_bound = c.word-in-Binary.ensures.upper_bound;
    }

pub returns-in-WithSet : goal.returns-in-WithSet
unfolding node_word
returns-in-WithSet c =
    record {
      value = simp (c.word-in-WithSet.ensures.value, c.set_code.ensures, c.to_bits-bits.ensures, c.in-WithSet.is);
      upper_bound = c.word-in-WithSet.ensures.upper_bound;
    }

pub returns-in-Renaming : goal.returns-in-Renaming
unfolding node_word
returns-in-Renaming c =
    record {
      value = c.word-in-Renaming.ensures.value ∙ ap node_word (sym c.in-Renaming.is);
      upper_bound = c.word-in-Renaming.ensures.upper_bound;
    }

pub returns-in-ProjectingOut : goal.returns-in-ProjectingOut
unfolding node_word
returns-in-ProjectingOut c =
    record {
      value = c.word-in-ProjectingOut.ensures.value ∙ ap node_word (sym c.in-ProjectingOut.is);
      upper_bound = c.word-in-ProjectingOut.ensures.upper_bound;
    }
