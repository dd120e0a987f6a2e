use native.Mathlib.Omega.{arith}
use Rattle.verdict_answer.proofs.WithoutWitness.{typability-unfilled, typability-filled}
use Rattle.typability.proofs.table_typability.Goals as goal

pub returns-then-cost-lt200 : goal.returns-then-cost-lt200
returns-then-cost-lt200 c = typability-filled _ _ _ c.requires.m_bound.1 (let is = c.fill_costs-cost.ensures.value in omega arith) c.fill_costs-cost.ensures.value

pub returns : goal.returns
returns c = typability-unfilled _ _ c.requires.m_bound.1 (let is = c.fill_costs-cost.ensures.value in omega arith)
