use Rattle.std.proofs.lemmas.Result.{err_from_is_err_and}
use mathlib.Core.Path.{sym, ◌∙◌}
use Rattle.admission.specs.AdmissionLaws.{asked-refused, asked-stops, asked-passes}
use Rattle.admission.proofs.ask.Goals as goal

pub returns-then-header-node : goal.returns-then-header-node
returns-then-header-node c = sym (asked-stops _ _ (sym c.accept.ensures ∙ c.in_ok-header.was) c.if-header-node.true)

pub returns-in_err-header : goal.returns-in_err-header
returns-in_err-header c = let p = err_from_is_err_and c.from_residual.result c.from_residual.ensures.1 in rw (p.1, p.2) (sym (asked-refused _ _ (sym c.accept.ensures ∙ c.in_err-header.was)))

pub returns : goal.returns
returns c = sym (asked-passes _ _ (sym c.accept.ensures ∙ c.in_ok-header.was) c.if-header-node.false)
