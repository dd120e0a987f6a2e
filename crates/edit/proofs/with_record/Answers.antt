use Rattle.std.proofs.lemmas.Result.{err_from_is_err_and}
use mathlib.Core.Path.{sym, ◌∙◌}
use native.Mathlib.Omega.{arith}
use Rattle.edit_answer.specs.EditLaws.{recorded-refused, recorded-stops, recorded-passes}
use Rattle.edit.proofs.with_record.Goals as goal

pub overflow_cast-node : goal.overflow_cast-node
overflow_cast-node c =
    let few = c.requires _ _ c.in_ok-header.was in
    omega arith

pub returns-in_err-header : goal.returns-in_err-header
returns-in_err-header c = let p = err_from_is_err_and c.from_residual.result c.from_residual.ensures.1 in rw (p.1, p.2) (sym (recorded-refused _ _ _ c.in_err-header.was))

pub returns-in_err-check_record : goal.returns-in_err-check_record
returns-in_err-check_record c = let p = err_from_is_err_and c.from_residual-in_err-check_record.result c.from_residual-in_err-check_record.ensures.1 in rw (p.1, p.2) (sym (recorded-stops _ _ _ _ c.in_ok-header.was (sym c.check_record.ensures ∙ c.in_err-check_record.was)))

pub returns : goal.returns
returns c = sym (recorded-passes _ _ _ c.in_ok-header.was (sym c.check_record.ensures ∙ c.in_ok-check_record.was))
