use native.Mathlib.Omega.{arith}
use Rattle.verdict_answer.proofs.VerdictLaws.{stored-unfilled}
use Rattle.verdict.proofs.witness.table_verdict.Goals as goal

pub chosen_verdict-requires : goal.chosen_verdict-requires
chosen_verdict-requires c =
    let pre = c.requires in
    let costs = c.fill_costs-cost.ensures in
    let can = c.if-cost-lt200.true in
    record {
      m_bound = pre.m_bound;
      table_holds = costs.table_holds;
      cost_value = (costs.value, omega arith);
    }

pub returns : goal.returns
returns c =
    let both = stored-unfilled _ _ _ c.requires.m_bound.2 (rw c.fill_costs-cost.ensures.value at c.if-cost-lt200.false) in
    record {
      value = both.0;
      schema_after = both.1;
    }
