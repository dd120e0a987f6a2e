use Rattle.type_formula.proofs.type_formula_accept.Goals as goal

pub returns : goal.returns
returns c = rw c.accept.ensures at c.write_acceptance.ensures
