use Rattle.std.proofs.lemmas.Result.{err_from_is_err_and}
use mathlib.Core.Path.{sym, ◌∙◌}
use native.Mathlib.Omega.{arith}
use Rattle.node.specs.NodeSequence.{check-one}
use Rattle.edit_answer.specs.EditLaws.{record-stops, record-follows, record-passes}
use Rattle.edit.proofs.check_record.Goals as goal

pub returns-then-size-replacement : goal.returns-then-size-replacement
returns-then-size-replacement c = sym (record-follows _ _ _ _ (sym (c.check_nodes.ensures ∙ check-one _ _ _) ∙ c.in_ok-size.was) (omega arith))

pub returns-in_err-size : goal.returns-in_err-size
returns-in_err-size c = let p = err_from_is_err_and c.from_residual.result c.from_residual.ensures.1 in rw (p.1, p.2) (sym (record-stops _ _ _ _ (sym (c.check_nodes.ensures ∙ check-one _ _ _) ∙ c.in_err-size.was)))

pub returns : goal.returns
returns c = sym (record-passes _ _ _ _ (sym (c.check_nodes.ensures ∙ check-one _ _ _) ∙ c.in_ok-size.was) (omega arith))
