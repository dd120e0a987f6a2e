use Rattle.type_formula.proofs.edits.type_formula_edit.Goals as goal

pub returns : goal.returns
returns c =
    let edit = c.edit in
    let gives = rw edit.ensures.value at c.write_editing.ensures in
    record {
      value = gives.value;
      res_after = edit.ensures.res_after;
      size_after = gives.size_after;
    }
