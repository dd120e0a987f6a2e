use Rattle.type_formula.proofs.instantiations.type_formula_recover.Goals as goal

pub returns : goal.returns
returns c =
    let recover = c.recover in
    let gives = rw recover.ensures.value at c.write_recovery.ensures in
    record {
      value = gives.value;
      work_after = recover.ensures.work_after;
      instantiation_after = recover.ensures.out_after;
      value_after = gives.value_after;
    }
