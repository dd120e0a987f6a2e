use Rattle.refusal.specs.Chain.{refuse, chain}
use Rattle.node.specs.ReadNode.{check_fields, size_of}
use Rattle.node.proofs.checking.check_relation.Goals as goal

pub returns-then-bytes-lt2 : goal.returns-then-bytes-lt2
unfolding check_fields size_of refuse
returns-then-bytes-lt2 c = search chain

pub returns-then-m-bytes : goal.returns-then-m-bytes
unfolding check_fields size_of refuse
returns-then-m-bytes c = search chain

pub returns : goal.returns
unfolding check_fields size_of refuse
returns c = search chain
