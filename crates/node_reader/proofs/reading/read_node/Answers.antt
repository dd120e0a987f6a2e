use mathlib.Core.Path.{sym, ap₂, ◌∙◌}
use Rattle.std.proofs.lemmas.Result.{err_from_is_err_and}
use Rattle.node.specs.NodeSequence.{check-one}
use Rattle.node.specs.ReadNode.{Read}
use Rattle.node.specs.Reading.{checked-read, checked_refused, read-checked}
use Rattle.node_reader.proofs.reading.read_node.Goals as goal

pub decode-requires : goal.decode-requires
decode-requires c =
    let check = sym (check-one _ _ _) ∙ sym c.check_nodes.ensures ∙ c.in_ok-check_nodes.was in
    record { m = c.args.m; k = c.args.k; size = _; passed = check }

pub returns-in_err-check_nodes : goal.returns-in_err-check_nodes
returns-in_err-check_nodes c =
    let p = err_from_is_err_and c.from_residual.result c.from_residual.ensures.1 in
    let check = sym (check-one _ _ _) ∙ sym c.check_nodes.ensures ∙ c.in_err-check_nodes.was in
    rw (p.1, p.2) (sym (checked_refused _ _ _ _ check))

pub returns : goal.returns
returns c =
    let check = sym (check-one _ _ _) ∙ sym c.check_nodes.ensures ∙ c.in_ok-check_nodes.was in
    let read = checked-read _ _ _ _ check in
    let size = (read-checked _ _ _ _ _ read).2 in
    ap₂ Read c.decode.ensures.node_value (c.decode.ensures.size_value ∙ sym size) ∙ sym read
