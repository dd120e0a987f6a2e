use Rattle.std.proofs.lemmas.Result.{err_from_is_err_and}
use mathlib.Core.Path.{sym, ◌∙◌}
use native.Mathlib.Omega.{arith}
use Rattle.admission.specs.AdmissionLaws.{sliced-after, slice-admits, admits-few}
use Rattle.verdict_answer.specs.VerdictLaws.{filled-formed}
use Rattle.verdict_answer.specs.Formed.{formula-formed}
use Rattle.verdict_answer.proofs.VerdictLaws.{formula-outcome, verdict-stops, verdict-goes}
use Rattle.verdict.proofs.verdict.Goals as goal

pub invariant_of-accepted : goal.invariant_of-accepted
invariant_of-accepted c = record {
  accepted = (slice-admits _ _ _ _ _ (sym (sliced-after _ _ _ _ _ c.with_slice.ensures c.admit.ensures) ∙ c.in_ok-header.was)).0.accepted;
}

pub fill-requires : goal.fill-requires
fill-requires c =
    let admits = (slice-admits _ _ _ _ _ (sym (sliced-after _ _ _ _ _ c.with_slice.ensures c.admit.ensures) ∙ c.in_ok-header.was)).0 in
    record {
      formula_size_in_bounds = admits.work_space;
    }

pub overflow_cast-node : goal.overflow_cast-node
overflow_cast-node c =
    let few = (admits-few (slice-admits _ _ _ _ _ (sym (sliced-after _ _ _ _ _ c.with_slice.ensures c.admit.ensures) ∙ c.in_ok-header.was)).0).1 in
    omega arith

pub formula_of-requires : goal.formula_of-requires
formula_of-requires c =
    let admits = slice-admits _ _ _ _ _ (sym (sliced-after _ _ _ _ _ c.with_slice.ensures c.admit.ensures) ∙ c.in_ok-header.was) in
    let same = c.fill.auto.work in
    let node = admits.0.node in
    let space = admits.0.work_space in
    omega arith

pub stored_verdict-requires : goal.stored_verdict-requires
stored_verdict-requires c =
    let admits = slice-admits _ _ _ _ _ (sym (sliced-after _ _ _ _ _ c.with_slice.ensures c.admit.ensures) ∙ c.in_ok-header.was) in
    record {
      m_bound = ((admits-few admits.0).0, admits.1);
      formed = formula-formed _ _ _ _ c.formula_of.ensures (filled-formed _ _ _ _ _ _ admits.0 c.fill.ensures);
    }

pub returns-in_err-header : goal.returns-in_err-header
returns-in_err-header c =
    let both = verdict-stops _ _ _ _ _ (sym (sliced-after _ _ _ _ _ c.with_slice.ensures c.admit.ensures) ∙ c.in_err-header.was) in
    let p = err_from_is_err_and c.from_residual.result c.from_residual.ensures.1 in
    rw (p.1, p.2)
    (record {
      value = both.0;
      work_after = both.1.0;
      schema_after = both.1.1;
    })

pub returns : goal.returns
returns c =
    let goes = sym (sliced-after _ _ _ _ _ c.with_slice.ensures c.admit.ensures) ∙ c.in_ok-header.was in
    let few = (admits-few (slice-admits _ _ _ _ _ goes).0).0 in
    let same = formula-outcome _ _ _ _ few c.formula_of.ensures in
    let both = verdict-goes _ _ _ _ _ _ _ _ _ goes c.fill.ensures (c.stored_verdict.ensures.value ∙ same.0) (c.stored_verdict.ensures.schema_after ∙ same.1 _) in
    record {
      value = both.0;
      work_after = both.1.0;
      schema_after = both.1.1;
    }
