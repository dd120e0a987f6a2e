use Rattle.std.proofs.lemmas.Result.{err_from_is_err_and}
use mathlib.Core.Path.{sym, ◌∙◌}
use native.Mathlib.Omega.{arith}
use Rattle.admission.specs.AdmissionLaws.{sliced-after, admits-few}
use Rattle.apply_answer.specs.ApplyLaws.{apply-stops, apply-passed, apply-goes}
use Rattle.apply.proofs.apply.Goals as goal

pub overflow_cast-node : goal.overflow_cast-node
overflow_cast-node c =
    let passed = sym (sliced-after _ _ _ _ _ c.with_slice.ensures
    (sliced-after _ _ _ _ _ c.with_slice-admitted.ensures c.admit.ensures))
    ∙ c.in_ok-header.was in
    let few = (admits-few (apply-passed _ _ _ _ _ passed).0).1 in
    omega arith

pub invariant_of-accepted : goal.invariant_of-accepted
invariant_of-accepted c =
    let passed = sym (sliced-after _ _ _ _ _ c.with_slice.ensures
    (sliced-after _ _ _ _ _ c.with_slice-admitted.ensures c.admit.ensures))
    ∙ c.in_ok-header.was in
    record {
      accepted = (apply-passed _ _ _ _ _ passed).0.accepted;
    }

pub apply_sized-requires : goal.apply_sized-requires
apply_sized-requires c =
    let passed = sym (sliced-after _ _ _ _ _ c.with_slice.ensures
    (sliced-after _ _ _ _ _ c.with_slice-admitted.ensures c.admit.ensures))
    ∙ c.in_ok-header.was in
    let found = apply-passed _ _ _ _ _ passed in
    record {
      node_lt_n = (found.0.node, found.0.work_space);
      schema_size_in_bounds = (found.1, found.2);
    }

pub returns-in_err-header : goal.returns-in_err-header
returns-in_err-header c =
    let stopped = sym (sliced-after _ _ _ _ _ c.with_slice.ensures
    (sliced-after _ _ _ _ _ c.with_slice-admitted.ensures c.admit.ensures))
    ∙ c.in_err-header.was in
    let both = apply-stops _ _ _ _ _ _ _ stopped in
    let p = err_from_is_err_and c.from_residual.result c.from_residual.ensures.1 in
    rw (p.1, p.2)
    (record {
      value = both.0;
      work_after = both.1.0;
      schema_after = both.1.1.0;
      out_after = both.1.1.1;
    })

pub returns : goal.returns
returns c =
    let goes = sym (sliced-after _ _ _ _ _ c.with_slice.ensures
    (sliced-after _ _ _ _ _ c.with_slice-admitted.ensures c.admit.ensures))
    ∙ c.in_ok-header.was in
    let gives = c.apply_sized.ensures in
    let both = apply-goes _ _ _ _ _ _ _ _ goes _ _ _ _ gives.value gives.work_after gives.schema_after gives.out_after in
    record {
      value = both.0;
      work_after = both.1.0;
      schema_after = both.1.1.0;
      out_after = both.1.1.1;
    }
