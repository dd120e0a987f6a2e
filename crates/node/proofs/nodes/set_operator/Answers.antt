use Rattle.refusal.specs.Chain.{chain}
use Rattle.node.specs.Operators.{set_op_of}
use Rattle.node.proofs.nodes.set_operator.Goals as goal

pub returns-in-5 : goal.returns-in-5
unfolding set_op_of
returns-in-5 c = simp c.in-5.is

pub returns-in_default : goal.returns-in_default
unfolding set_op_of
returns-in_default c = search chain
