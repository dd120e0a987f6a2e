use Rattle.std.proofs.lemmas.Result.{err_from_is_err_and}
use mathlib.Core.Path.{sym, ◌∙◌}
use native.Mathlib.Omega.{arith}
use Rattle.expression_file.specs.Accepted.{accepted-file}
use Rattle.admission.specs.AdmissionLaws.{sliced-after, sliced-passed, asked-passed}
use Rattle.typing_answer.proofs.TypingLaws.{typing-stops, typing-goes}
use Rattle.typing.proofs.typing.Goals as goal

pub overflow_cast-node : goal.overflow_cast-node
overflow_cast-node c =
    let found = asked-passed _ _ (sliced-passed _ _ _ (sym (sliced-after _ _ _ _ _ c.with_slice.ensures
    c.ask.ensures) ∙ c.in_ok-header.was)).0 in
    let most = (accepted-file _ _ _ found.0).counts.nodes.1 in
    let node = found.1 in
    omega arith

pub invariant_of-accepted : goal.invariant_of-accepted
invariant_of-accepted c = record {
  accepted = (asked-passed _ _ (sliced-passed _ _ _ (sym (sliced-after _ _ _ _ _ c.with_slice.ensures
      c.ask.ensures) ∙ c.in_ok-header.was)).0).0;
}

pub type_sized-requires : goal.type_sized-requires
type_sized-requires c =
    let passes = sliced-passed _ _ _ (sym (sliced-after _ _ _ _ _ c.with_slice.ensures
    c.ask.ensures) ∙ c.in_ok-header.was) in
    let found = asked-passed _ _ passes.0 in
    record {
      node_lt_n = (found.1, passes.1);
    }

pub returns-in_err-header : goal.returns-in_err-header
returns-in_err-header c =
    let both = typing-stops _ _ _ _ _ (sym (sliced-after _ _ _ _ _ c.with_slice.ensures c.ask.ensures)
    ∙ c.in_err-header.was) in
    let p = err_from_is_err_and c.from_residual.result c.from_residual.ensures.1 in
    rw (p.1, p.2)
    (record {
      value = both.0;
      out_after = both.1;
    })

pub returns : goal.returns
returns c =
    let goes = sym (sliced-after _ _ _ _ _ c.with_slice.ensures c.ask.ensures) ∙ c.in_ok-header.was in
    let both = typing-goes _ _ _ _ _ _ _ _ goes c.type_sized.ensures.value c.type_sized.ensures.out_after in
    record {
      value = both.0;
      out_after = both.1;
    }
