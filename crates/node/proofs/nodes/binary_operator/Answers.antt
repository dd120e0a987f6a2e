use Rattle.refusal.specs.Chain.{chain}
use Rattle.node.specs.Operators.{binary_of}
use Rattle.node.proofs.nodes.binary_operator.Goals as goal

pub returns-in-1 : goal.returns-in-1
unfolding binary_of
returns-in-1 c = simp c.in-1.is

pub returns-in-2 : goal.returns-in-2
unfolding binary_of
returns-in-2 c = simp c.in-2.is

pub returns-in-3 : goal.returns-in-3
unfolding binary_of
returns-in-3 c = simp c.in-3.is

pub returns-in_default : goal.returns-in_default
unfolding binary_of
returns-in_default c = search chain
