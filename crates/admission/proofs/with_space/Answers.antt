use Rattle.std.proofs.lemmas.Result.{err_from_is_err_and}
use mathlib.Core.Path.{sym}
use Rattle.admission.specs.AdmissionLaws.{spaced-refused, spaced-stops, spaced-passes}
use Rattle.admission.proofs.with_space.Goals as goal

pub returns-then-space-header : goal.returns-then-space-header
returns-then-space-header c = sym (spaced-stops _ _ c.in_ok-header.was c.if-space-header.true)

pub returns-in_err-header : goal.returns-in_err-header
returns-in_err-header c = let p = err_from_is_err_and c.from_residual.result c.from_residual.ensures.1 in rw (p.1, p.2) (sym (spaced-refused _ _ c.in_err-header.was))

pub returns : goal.returns
returns c = sym (spaced-passes _ _ c.in_ok-header.was c.if-space-header.false)
