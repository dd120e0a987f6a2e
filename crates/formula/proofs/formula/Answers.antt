use Rattle.std.proofs.lemmas.Result.{err_from_is_err_and}
use mathlib.Core.Path.{sym, ◌∙◌}
use Rattle.stored_formula.specs.FormulaLaws.{answer-tested, answer-file, space-refused, space-filled}
use Rattle.formula.proofs.formula.Goals as goal

pub invariant_of-accepted : goal.invariant_of-accepted
invariant_of-accepted c = record {
  accepted = (answer-file _ _ _ _ (sym (answer-tested _ _ c.accept.ensures c.with_space.ensures) ∙ c.in_ok-header.was)).0;
}

pub fill-requires : goal.fill-requires
fill-requires c = record {
  formula_size_in_bounds = (answer-file _ _ _ _ (sym (answer-tested _ _ c.accept.ensures c.with_space.ensures) ∙ c.in_ok-header.was)).1;
}

pub returns-in_err-header : goal.returns-in_err-header
returns-in_err-header c =
    let answer = sym (answer-tested _ _ c.accept.ensures c.with_space.ensures) ∙ c.in_err-header.was in
    let p = err_from_is_err_and c.from_residual.result c.from_residual.ensures.1 in
    rw (p.1, p.2)
    (record {
      value = sym answer;
      work_after = sym (space-refused _ _ _ answer);
    })

pub returns : goal.returns
returns c =
    let answer = sym (answer-tested _ _ c.accept.ensures c.with_space.ensures) ∙ c.in_ok-header.was in
    record {
      value = sym answer;
      work_after = c.fill.ensures ∙ sym (space-filled _ _ _ _ answer);
    }
