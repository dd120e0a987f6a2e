use Rattle.std.proofs.lemmas.Result.{err_from_is_err_and}
use mathlib.Core.Path.{sym, ap, ◌∙◌}
use native.Mathlib.Omega.{arith}
use Rattle.text.specs.Put.{wrote-front}
use Rattle.admission.specs.AdmissionLaws.{asked-passes}
use Rattle.record.specs.RecordLaws.{seek-first}
use Rattle.edit_answer.specs.EditLaws.{slice-known, slice-few, tests-are, edit-passed, edit-stops, edit-passes, exchanges-most}
use Rattle.edit.proofs.edit.Goals as goal
use Rattle.std.specs.Prelude.{Ok}

pub with_record-requires : goal.with_record-requires
with_record-requires c =
    λ m n passes. slice-few _ _ c.args.replacement.now c.args.res.now (sym (slice-known _ _ _ _ c.with_edit_slice.ensures c.ask-found.ensures) ∙ passes)

pub write_exchanged-requires : goal.write_exchanged-requires
write_exchanged-requires c =
    let tests = tests-are _ _ _ c.args.res.now _ _ _ c.with_record.ensures c.with_edit_slice.ensures c.ask-found.ensures in
    let passed = edit-passed _ _ _ c.args.res.now (sym tests ∙ c.in_ok-with_record.was) in
    let exchanges = passed.0 in
    let most = exchanges-most exchanges in
    let room = passed.1 in
    record {
      seeking = seek-first _ _ _ _ (asked-passes _ _ exchanges.accepted exchanges.node);
      replacement_in_bounds = omega arith;
    }

pub returns-in_err-with_record : goal.returns-in_err-with_record
returns-in_err-with_record c =
    let tests = tests-are _ _ _ c.args.res.now _ _ _ c.with_record.ensures c.with_edit_slice.ensures c.ask-found.ensures in
    let both = edit-stops _ _ _ c.args.res.now _ (sym tests ∙ c.in_err-with_record.was) in
    let p = err_from_is_err_and c.from_residual.result c.from_residual.ensures.1 in
    rw (p.1, p.2) (record { value = both.0; res_after = both.1 })

pub returns : goal.returns
returns c =
    let tests = tests-are _ _ _ c.args.res.now _ _ _ c.with_record.ensures c.with_edit_slice.ensures c.ask-found.ensures in
    let passes = edit-passes _ _ _ c.args.res.now (sym tests ∙ c.in_ok-with_record.was) in
    let wrote = wrote-front c.write_exchanged.ensures in
    record {
      value = ap Ok wrote.1 ∙ passes.0;
      res_after = wrote.0 ∙ passes.1;
    }
