use Rattle.type_formula.proofs.formulas.type_formula_verdict.Goals as goal

pub returns : goal.returns
returns c =
    let verdict = c.verdict in
    let gives = rw verdict.ensures.value at c.write_outcome.ensures in
    record {
      value = gives.value;
      work_after = verdict.ensures.work_after;
      schema_after = verdict.ensures.schema_after;
      value_after = gives.value_after;
      memberships_after = gives.memberships_after;
    }
