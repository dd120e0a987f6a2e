use Rattle.std.proofs.lemmas.Result.{err_from_is_err_and}
use mathlib.Core.Path.{sym, ap, ◌∙◌}
use native.Mathlib.Omega.{arith}
use Rattle.expression_file.specs.Accepted.{accepted-file}
use Rattle.admission.specs.AdmissionLaws.{admitted-passed, admits-few}
use Rattle.verdict_answer.specs.Formed.{formula-formed}
use Rattle.verdict_answer.specs.Typability.{without_witness}
use Rattle.verdict_answer.proofs.VerdictLaws.{formula-outcome}
use Rattle.preview_answer.specs.PreviewLaws.{tests-are, preview-passed, preview-stops, preview-goes, last-formed}
use Rattle.preview.proofs.preview.Goals as goal

pub with_record-requires : goal.with_record-requires
with_record-requires c = λ m n passes. (admits-few (admitted-passed _ _ _ (sym c.admit.ensures ∙ passes))).1

pub fill_exchanged-requires : goal.fill_exchanged-requires
fill_exchanged-requires c =
    let tests = tests-are _ _ _ c.args.work.now _ _ c.with_record.ensures c.admit.ensures in
    let both = preview-passed _ _ _ c.args.work.now (sym tests ∙ c.in_ok-header.was) in
    record {
      exchanges = both.0;
      formula_size_in_bounds = both.1;
    }

pub overflow_sub-header : goal.overflow_sub-header
overflow_sub-header c =
    let tests = tests-are _ _ _ c.args.work.now _ _ c.with_record.ensures c.admit.ensures in
    (accepted-file _ _ _ (preview-passed _ _ _ c.args.work.now (sym tests ∙ c.in_ok-header.was)).0.accepted).counts.nodes.0

pub formula_of-formula-requires : goal.formula_of-formula-requires
formula_of-formula-requires c =
    let tests = tests-are _ _ _ c.args.work.now _ _ c.with_record.ensures c.admit.ensures in
    let passed = preview-passed _ _ _ c.args.work.now (sym tests ∙ c.in_ok-header.was) in
    let some = (accepted-file _ _ _ passed.0.accepted).counts.nodes.0 in
    let space = passed.1 in
    let same = c.fill_exchanged.auto.work in
    omega arith

pub typability-requires : goal.typability-requires
typability-requires c =
    let tests = tests-are _ _ _ c.args.work.now _ _ c.with_record.ensures c.admit.ensures in
    let passes = sym tests ∙ c.in_ok-header.was in
    let counts = (accepted-file _ _ _ (preview-passed _ _ _ c.args.work.now passes).0.accepted).counts in
    (counts.relations.1, formula-formed _ _ _ _ c.formula_of-formula.ensures (last-formed _ _ _ c.args.work.now passes _ c.fill_exchanged.ensures))

pub returns-in_err-header : goal.returns-in_err-header
returns-in_err-header c =
    let tests = tests-are _ _ _ c.args.work.now _ _ c.with_record.ensures c.admit.ensures in
    let both = preview-stops _ _ _ c.args.work.now _ (sym tests ∙ c.in_err-header.was) in
    let p = err_from_is_err_and c.from_residual.result c.from_residual.ensures.1 in
    rw (p.1, p.2)
    (record {
      value = both.0;
      work_after = both.1;
    })

pub returns : goal.returns
returns c =
    let tests = tests-are _ _ _ c.args.work.now _ _ c.with_record.ensures c.admit.ensures in
    let passes = sym tests ∙ c.in_ok-header.was in
    let few = (accepted-file _ _ _ (preview-passed _ _ _ c.args.work.now passes).0.accepted).counts.relations.1 in
    let same = (formula-outcome _ _ _ _ few c.formula_of-formula.ensures).0 in
    let both = preview-goes _ _ _ c.args.work.now passes _ c.fill_exchanged.ensures _ (c.typability.ensures ∙ ap without_witness same) in
    record {
      value = both.0;
      work_after = both.1;
    }
