use Rattle.type_formula.proofs.queries.type_formula_parse_query.Goals as goal

pub returns : goal.returns
returns c =
    let parse = c.parse_query in
    let gives = rw parse.ensures.value at c.write_parsing.ensures in
    record {
      value = gives.value;
      file_after = parse.ensures.file_after;
      size_after = gives.size_after;
    }
