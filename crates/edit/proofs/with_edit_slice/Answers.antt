use Rattle.std.proofs.lemmas.Result.{err_from_is_err_and}
use mathlib.Core.Path.{sym}
use native.Mathlib.Omega.{arith}
use Rattle.edit_answer.specs.EditLaws.{slice-refused, slice-stops, slice_passes}
use Rattle.edit.proofs.with_edit_slice.Goals as goal

pub returns-then-size-lt322 : goal.returns-then-size-lt322
returns-then-size-lt322 c = sym (slice-stops _ _ c.in_ok-header.was (omega arith))

pub returns-in_err-header : goal.returns-in_err-header
returns-in_err-header c = let p = err_from_is_err_and c.from_residual.result c.from_residual.ensures.1 in rw (p.1, p.2) (sym (slice-refused _ _ c.in_err-header.was))

pub returns : goal.returns
returns c = sym (slice_passes _ _ c.in_ok-header.was (omega arith))
