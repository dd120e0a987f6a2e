use Rattle.type_formula.proofs.edits.type_formula_preview.Goals as goal

pub returns : goal.returns
returns c =
    let preview = c.preview in
    let gives = rw preview.ensures.value at c.write_typability.ensures in
    record {
      value = gives.value;
      work_after = preview.ensures.work_after;
      attribute_after = gives.attribute_after;
      memberships_after = gives.memberships_after;
    }
