use mathlib.Core.Path.{sym, ◌∙◌}
use native.Mathlib.Omega.{arith}
use Rattle.std.proofs.lemmas.Result.{err_from_is_err_and}
use Rattle.bits.specs.Part.{part-from}
use Rattle.expression_file.proofs.CheckedNodes.{outcome-refused, outcome-followed, outcome-end, outcome_fits}
use Rattle.expression_file.proofs.files.accept_nodes.Goals as goal

pub overflow_add-size : goal.overflow_add-size
overflow_add-size c =
    let check = rw part-from at (sym c.check_nodes.ensures ∙ c.in_ok-size.was) in
    let fits = outcome_fits c.args.file.now _ _ _ check c.requires in
    omega arith

pub returns-then-size-file : goal.returns-then-size-file
returns-then-size-file c =
    let check = rw part-from at (sym c.check_nodes.ensures ∙ c.in_ok-size.was) in
    sym (outcome-followed c.args.file.now _ _ _ check c.if-size-file.true)

pub returns-in_err-size : goal.returns-in_err-size
returns-in_err-size c =
    let check = rw part-from at (sym c.check_nodes.ensures ∙ c.in_err-size.was) in
    let p = err_from_is_err_and c.from_residual.result c.from_residual.ensures.1 in
    rw (p.1, p.2) (sym (outcome-refused c.args.file.now _ _ _ check))

pub returns : goal.returns
returns c =
    let check = rw part-from at (sym c.check_nodes.ensures ∙ c.in_ok-size.was) in
    sym (outcome-end c.args.file.now _ _ _ check c.if-size-file.false)
