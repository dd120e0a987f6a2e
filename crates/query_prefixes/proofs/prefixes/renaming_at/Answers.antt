use mathlib.Core.Path.{sym, ◌∙◌}
use lib.Dec.{lit≤}
use Rattle.query_language.specs.Steps.{renaming-none, renaming-half, renaming-there}
use Rattle.query_prefixes.specs.AnswerLaws.{number_is, number-missing, ended-placed, prefix-none, renaming-found}
use Rattle.query_prefixes.proofs.prefixes.renaming_at.Goals as goal

pub ended_number-requires-2 : goal.ended_number-requires-2
ended_number-requires-2 c =
    ended-placed _ 62 _ (lit≤ tt) c.requires (sym c.in_ok-old.was ∙ c.ended_number.ensures)

pub returns-in_err-old : goal.returns-in_err-old
returns-in_err-old c =
    c.from_residual.ensures ∙ prefix-none (renaming-none _ _ (number-missing _ (sym c.in_err-old.was ∙ c.ended_number.ensures)))

pub returns-in_err-new : goal.returns-in_err-new
returns-in_err-new c =
    c.from_residual-in_err-new.ensures
    ∙ prefix-none (renaming-half _ _ (number_is _ (sym c.in_ok-old.was ∙ c.ended_number.ensures)) (number-missing _ (sym c.in_err-new.was ∙ c.ended_number-2.ensures)))

pub returns-then-is_special : goal.returns-then-is_special
returns-then-is_special c =
    let reads = renaming-found (renaming-there _ _ (number_is _ (sym c.in_ok-old.was ∙ c.ended_number.ensures)) (number_is _ (sym c.in_ok-new.was ∙ c.ended_number-2.ensures))) in
    rw c.is_special-then-is_special.ensures (rw (sym c.is_special.ensures ∙ c.if-is_special.true) at reads)

pub returns-else-is_special : goal.returns-else-is_special
returns-else-is_special c =
    let reads = renaming-found (renaming-there _ _ (number_is _ (sym c.in_ok-old.was ∙ c.ended_number.ensures)) (number_is _ (sym c.in_ok-new.was ∙ c.ended_number-2.ensures))) in
    rw c.if-is_special.false (rw (sym c.is_special.ensures ∙ c.if-is_special.false) at reads)
