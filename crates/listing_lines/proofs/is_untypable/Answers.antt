use mathlib.Core.Path.{sym, ap, ◌∙◌}
use Rattle.verdict_answer.specs.Typability.{says_untypable}
use Rattle.verdict_answer.proofs.WithoutWitness.{says-untypable}
use Rattle.listing_lines.proofs.is_untypable.Goals as goal

pub returns-in-Untypable : goal.returns-in-Untypable
returns-in-Untypable c = ap says_untypable (sym c.in-Untypable.is ∙ c.typability.ensures) ∙ says-untypable _ _

pub returns-in_default : goal.returns-in_default
returns-in_default c = ap says_untypable (sym c.in_default.is ∙ c.typability.ensures) ∙ says-untypable _ _
