use mathlib.Core.Path.{sym, ◌∙◌}
use Rattle.query_language.specs.Steps.{set-none, set_there}
use Rattle.query_prefixes.specs.AnswerLaws.{list-missing, prefix-none, set_found}
use Rattle.query_prefixes.proofs.prefixes.set_at.Goals as goal

pub returns-in_err-list : goal.returns-in_err-list
returns-in_err-list c =
    c.from_residual.ensures ∙ prefix-none (set-none _ _ _ (list-missing _ (sym c.in_err-list.was ∙ c.list_at.ensures)))

pub returns : goal.returns
returns c = set_found _ (λ ns e. set_there _ _ _ e) (sym c.in_ok-list.was ∙ c.list_at.ensures)
