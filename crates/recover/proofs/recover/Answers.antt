use Rattle.std.proofs.lemmas.Result.{err_from_is_err_and}
use mathlib.Core.Path.{sym, ◌∙◌}
use native.Mathlib.Omega.{arith}
use Rattle.admission.specs.AdmissionLaws.{sliced-after, slice-admits, admits-few}
use Rattle.recover_answer.specs.RecoverLaws.{recover-stops, recover-goes}
use Rattle.recover.proofs.recover.Goals as goal

pub overflow_cast-node : goal.overflow_cast-node
overflow_cast-node c =
    let few = (admits-few (slice-admits _ _ _ _ _ (sym (sliced-after _ _ _ _ _ c.with_slice.ensures
    c.admit.ensures) ∙ c.in_ok-header.was)).0).1 in
    omega arith

pub invariant_of-accepted : goal.invariant_of-accepted
invariant_of-accepted c = record {
  accepted = (slice-admits _ _ _ _ _ (sym (sliced-after _ _ _ _ _ c.with_slice.ensures
      c.admit.ensures) ∙ c.in_ok-header.was)).0.accepted;
}

pub recover_sized-requires : goal.recover_sized-requires
recover_sized-requires c =
    let admits = slice-admits _ _ _ _ _ (sym (sliced-after _ _ _ _ _ c.with_slice.ensures
    c.admit.ensures) ∙ c.in_ok-header.was) in
    record {
      node_lt_n = (admits.0.node, admits.0.work_space);
      instantiation_size_in_bounds = admits.1;
    }

pub returns-in_err-header : goal.returns-in_err-header
returns-in_err-header c =
    let both = recover-stops _ _ _ _ _ _ (sym (sliced-after _ _ _ _ _ c.with_slice.ensures
    c.admit.ensures) ∙ c.in_err-header.was) in
    let p = err_from_is_err_and c.from_residual.result c.from_residual.ensures.1 in
    rw (p.1, p.2)
    (record {
      value = both.0;
      work_after = both.1.0;
      out_after = both.1.1;
    })

pub returns : goal.returns
returns c =
    let goes = sym (sliced-after _ _ _ _ _ c.with_slice.ensures c.admit.ensures) ∙ c.in_ok-header.was in
    let gives = c.recover_sized.ensures in
    let both = recover-goes _ _ _ _ _ _ _ goes _ _ _ gives.value gives.work_after gives.out_after in
    record {
      value = both.0;
      work_after = both.1.0;
      out_after = both.1.1;
    }
