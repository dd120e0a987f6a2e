use mathlib.Core.Path.{sym, ◌∙◌}
use native.Mathlib.Omega.{arith}
use Rattle.query_language.specs.Steps.{ended-none, ended-there, ended-not}
use Rattle.query_prefixes.specs.AnswerLaws.{number_is, number-missing, number-found, number-none, number_read}
use Rattle.query_prefixes.proofs.numbers.ended_number.Goals as goal

pub returns-in_err-number : goal.returns-in_err-number
returns-in_err-number c =
    c.from_residual.ensures ∙ number-none (ended-none _ _ _ (number-missing _ (sym c.in_err-number.was ∙ c.number_at.ensures)))

pub returns-then-byte_at-b : goal.returns-then-byte_at-b
returns-then-byte_at-b c =
    number-none (ended-not _ _ _ (number_is _ (sym c.in_ok-number.was ∙ c.number_at.ensures)) (λ e. c.if-byte_at-b.true (c.byte_at.ensures ∙ e)))

pub overflow_add-result : goal.overflow_add-result
overflow_add-result c =
    let within = (number_read _ _ (sym c.in_ok-number.was ∙ c.number_at.ensures)).within in
    let short = c.requires.short in
    omega arith

pub returns : goal.returns
returns c =
    number-found (ended-there _ _ _ (number_is _ (sym c.in_ok-number.was ∙ c.number_at.ensures)) (sym c.byte_at.ensures ∙ c.if-byte_at-b.false))
