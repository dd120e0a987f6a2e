use Rattle.type_formula.proofs.formulas.type_formula_formula.Goals as goal

pub returns : goal.returns
returns c =
    let formula = c.formula in
    record {
      value = rw formula.ensures.value at c.acceptance_number.ensures;
      work_after = formula.ensures.work_after;
    }
