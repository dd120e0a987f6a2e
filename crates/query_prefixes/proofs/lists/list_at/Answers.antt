use mathlib.Core.Path.{sym, ap, ◌∙◌}
use mathlib.Core.Bool.{true}
use Rattle.attribute_set.specs.AttrSet.{empty_set}
use Rattle.query_language.specs.Steps.{list-empty, list-items}
use Rattle.query_prefixes.specs.Answers.{list_answer}
use Rattle.query_prefixes.specs.AnswerLaws.{list-end}
use Rattle.query_prefixes.proofs.lists.list_at.Goals as goal

pub returns-then-byte_at-eq93 : goal.returns-then-byte_at-eq93
returns-then-byte_at-eq93 c = rw c.empty.ensures (list-end _ _ (list-empty _ _ (sym c.byte_at.ensures ∙ c.if-byte_at-eq93.true)))

pub returns : goal.returns
returns c = c.items_at.ensures ∙ sym (ap (list_answer empty_set true) (list-items _ _ (λ e. c.if-byte_at-eq93.false (c.byte_at.ensures ∙ e))))
