use borrow.Author.Tests.{le-ltb}
use Rattle.refusal.specs.Chain.{refuse, chain}
use Rattle.node.specs.ReadNode.{check_node, check_fields}
use Rattle.node.proofs.checking.check_node.Goals as goal

pub returns-then-bytes-lt1 : goal.returns-then-bytes-lt1
unfolding check_node refuse
returns-then-bytes-lt1 c = search chain

pub returns-in-1 : goal.returns-in-1
unfolding check_node check_fields refuse
returns-in-1 c = simp (le-ltb _ _ c.if-bytes-lt1.false, c.in-1.is, c.check_relation.ensures)

pub returns-in-14 : goal.returns-in-14
unfolding check_node check_fields refuse
returns-in-14 c = simp (le-ltb _ _ c.if-bytes-lt1.false, c.in-14.is, c.check_binary.ensures)

pub returns-in-26 : goal.returns-in-26
unfolding check_node check_fields refuse
returns-in-26 c = simp (le-ltb _ _ c.if-bytes-lt1.false, c.in-26.is, c.check_with_set.ensures)

pub returns-in-98 : goal.returns-in-98
unfolding check_node check_fields refuse
returns-in-98 c = simp (le-ltb _ _ c.if-bytes-lt1.false, c.in-98.is, c.check_renaming.ensures)

pub returns-in-34 : goal.returns-in-34
unfolding check_node check_fields refuse
returns-in-34 c = simp (le-ltb _ _ c.if-bytes-lt1.false, c.in-34.is, c.check_projecting_out.ensures)

pub returns-in_default : goal.returns-in_default
unfolding check_node refuse
returns-in_default c = search chain
