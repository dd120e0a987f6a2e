use Rattle.std.proofs.lemmas.Result.{err_from_is_err_and}
use mathlib.Core.Path.{sym}
use Rattle.admission.specs.AdmissionLaws.{sliced-refused, sliced-stops, sliced-passes}
use Rattle.admission.proofs.with_slice.Goals as goal

pub returns-then-size-least : goal.returns-then-size-least
returns-then-size-least c = sym (sliced-stops _ _ _ c.in_ok-header.was c.if-size-least.true)

pub returns-in_err-header : goal.returns-in_err-header
returns-in_err-header c = let p = err_from_is_err_and c.from_residual.result c.from_residual.ensures.1 in rw (p.1, p.2) (sym (sliced-refused _ _ _ c.in_err-header.was))

pub returns : goal.returns
returns c = sym (sliced-passes _ _ _ c.in_ok-header.was c.if-size-least.false)
