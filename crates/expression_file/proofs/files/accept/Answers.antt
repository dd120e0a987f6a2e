use mathlib.Core.Path.{sym, ap, ◌∙◌}
use Rattle.std.specs.Prelude.{Result}
use Rattle.std.proofs.lemmas.Result.{err_from_is_err_and}
use Rattle.refusal.specs.declared.Refusal.{Refusal}
use Rattle.expression_file.specs.declared.files.Header.{Header}
use Rattle.expression_file.specs.ReadFile.{acceptance, parse, answer, after_header}
use Rattle.expression_file.specs.Accepted.{header-counts}
use Rattle.expression_file.proofs.files.accept.Goals as goal

pub accept_nodes-requires : goal.accept_nodes-requires
accept_nodes-requires c = (header-counts _ _ _ (sym c.read_header.ensures ∙ c.in_ok-header.was)).header

pub returns-in_err-header : goal.returns-in_err-header
unfolding acceptance parse
returns-in_err-header c =
    let p = err_from_is_err_and c.from_residual.result c.from_residual.ensures.1 in
    rw (p.1, p.2) (ap (λ (h : Result Header Refusal). answer (after_header h c.args.file.now)) (sym c.in_err-header.was ∙ c.read_header.ensures))

pub returns : goal.returns
unfolding acceptance parse
returns c =
    c.accept_nodes.ensures ∙ ap (λ (h : Result Header Refusal). answer (after_header h c.args.file.now))
    (sym c.in_ok-header.was ∙ c.read_header.ensures)
