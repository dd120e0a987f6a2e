use mathlib.Core.Path.{sym, ap, ◌∙◌}
use native.Mathlib.Omega.{arith}
use Rattle.query_language.specs.Steps.{letter-none, letter-selection, letter-projection, letter-renaming, letter-out, letter-other}
use Rattle.query_prefixes.specs.Answers.{prefix_answer}
use Rattle.query_prefixes.specs.AnswerLaws.{prefix-none}
use Rattle.query_prefixes.proofs.prefixes.prefix_at.Goals as goal

pub returns-then-byte_at-ne91 : goal.returns-then-byte_at-ne91
returns-then-byte_at-ne91 c = prefix-none (letter-none _ _ (λ e. c.if-byte_at-ne91.true (c.byte_at.ensures ∙ e)))

pub returns-in-83 : goal.returns-in-83
returns-in-83 c =
    c.set_at.ensures ∙ sym (ap prefix_answer (letter-selection _ _ (sym c.byte_at.ensures ∙ c.if-byte_at-ne91.false) (sym c.byte_at-2.ensures ∙ c.in-83.is)))

pub returns-in-80 : goal.returns-in-80
returns-in-80 c =
    c.set_at-in-80.ensures ∙ sym (ap prefix_answer (letter-projection _ _ (sym c.byte_at.ensures ∙ c.if-byte_at-ne91.false) (sym c.byte_at-2.ensures ∙ c.in-80.is)))

pub returns-in-78 : goal.returns-in-78
returns-in-78 c =
    c.renaming_at.ensures ∙ sym (ap prefix_answer (letter-renaming _ _ (sym c.byte_at.ensures ∙ c.if-byte_at-ne91.false) (sym c.byte_at-2.ensures ∙ c.in-78.is)))

pub returns-in-68 : goal.returns-in-68
returns-in-68 c =
    c.projecting_out_at.ensures ∙ sym (ap prefix_answer (letter-out _ _ (sym c.byte_at.ensures ∙ c.if-byte_at-ne91.false) (sym c.byte_at-2.ensures ∙ c.in-68.is)))

pub returns-in_default : goal.returns-in_default
returns-in_default c =
    let letter = c.byte_at-2.ensures in
    prefix-none (letter-other _ _ (sym c.byte_at.ensures ∙ c.if-byte_at-ne91.false) (λ e. omega arith) (λ e. omega arith) (λ e. omega arith) (λ e. omega arith))
