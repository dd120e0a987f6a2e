use Rattle.type_formula.proofs.instantiations.type_formula_apply.Goals as goal

pub returns : goal.returns
returns c =
    let apply = c.apply in
    let gives = rw apply.ensures.value at c.write_application.ensures in
    record {
      value = gives.value;
      work_after = apply.ensures.work_after;
      schema_after = apply.ensures.schema_after;
      out_after = apply.ensures.out_after;
      size_after = gives.size_after;
      width_after = gives.width_after;
    }
