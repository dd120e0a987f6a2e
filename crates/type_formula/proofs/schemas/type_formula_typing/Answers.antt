use Rattle.type_formula.proofs.schemas.type_formula_typing.Goals as goal

pub returns : goal.returns
returns c =
    let typing = c.typing in
    let gives = rw typing.ensures.value at c.write_answer.ensures in
    record {
      value = gives.value;
      out_after = typing.ensures.out_after;
      value_after = gives.value_after;
    }
