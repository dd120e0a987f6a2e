use Rattle.std.proofs.lemmas.Result.{err_from_is_err_and}
use mathlib.Core.Path.{sym, ◌∙◌}
use native.Mathlib.Nat.{sub-zero, add-zero}
use native.Mathlib.Omega.{arith}
use Rattle.bits.specs.Part.{part-from}
use Rattle.node.specs.NodeSequence.{check-next, check-stops, check-end, node-fits}
use borrow.Author.Rules.{rules}
use Rattle.node.proofs.checking.check_nodes.Goals as goal

pub loop-i-init : goal.loop-i-init
loop-i-init c = (search rules, search rules, simp (sub-zero, add-zero))

pub overflow_add-at : goal.overflow_add-at
overflow_add-at c =
    let args = c.args in
    let check = rw part-from at (sym c.check_node.ensures ∙ c.in_ok-at.was) in
    let fits = node-fits _ _ _ _ _ c.loop-i.invariant.1 check in
    omega arith

pub loop-i-preserved : goal.loop-i-preserved
loop-i-preserved c =
    let loop = c.loop-i in
    let args = c.args in
    let check = rw part-from at (sym c.check_node.ensures ∙ c.in_ok-at.was) in
    let fits = node-fits _ _ _ _ _ loop.invariant.1 check in
    let next = check-next _ _ _ _ _ _ _ c.loop-i-test.true check in
    (search rules, fits, sym next ∙ loop.invariant.2)

pub returns-in_err-at : goal.returns-in_err-at
returns-in_err-at c =
    let check = rw part-from at (sym c.check_node.ensures ∙ c.in_err-at.was) in
    let p = err_from_is_err_and c.from_residual.result c.from_residual.ensures.1 in
    rw (p.1, p.2) (sym (check-stops _ _ _ _ _ _ _ c.loop-i-test.true check) ∙ c.loop-i.invariant.2)

pub returns : goal.returns
returns c =
    let args = c.args in
    sym (check-end _ _ _ _ _ _ c.loop-i-test.false) ∙ c.loop-i.invariant.2
