use mathlib.Core.Path.{sym, ◌∙◌}
use Rattle.query_language.specs.Steps.{out_none, out-there}
use Rattle.query_prefixes.specs.AnswerLaws.{number_is, number-missing, prefix-none, out-found}
use Rattle.query_prefixes.proofs.prefixes.projecting_out_at.Goals as goal

pub returns-in_err-old : goal.returns-in_err-old
returns-in_err-old c =
    c.from_residual.ensures ∙ prefix-none (out_none _ _ (number-missing _ (sym c.in_err-old.was ∙ c.ended_number.ensures)))

pub returns : goal.returns
returns c =
    rw c.is_special.ensures (out-found (out-there _ _ (number_is _ (sym c.in_ok-old.was ∙ c.ended_number.ensures))))
