use Rattle.query_prefixes.specs.Answers.{node_over}
use Rattle.query_prefixes.proofs.prefixes.UnaryNode.over.Goals as goal

pub returns-in-WithSet : goal.returns-in-WithSet
unfolding node_over
returns-in-WithSet c = rw c.in-WithSet.is

pub returns-in-Renaming : goal.returns-in-Renaming
unfolding node_over
returns-in-Renaming c = rw c.in-Renaming.is

pub returns-in-ProjectingOut : goal.returns-in-ProjectingOut
unfolding node_over
returns-in-ProjectingOut c = rw c.in-ProjectingOut.is
