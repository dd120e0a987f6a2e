use mathlib.Core.Path.{ap, ◌∙◌}
use Rattle.admission.specs.Admission.{spaced, admitted}
use Rattle.admission.proofs.admit.Goals as goal
use Rattle.std.specs.Prelude.{Result}
use Rattle.refusal.specs.declared.Refusal.{Refusal}
use Rattle.expression_file.specs.declared.files.Header.{Header}

pub returns : goal.returns
unfolding admitted
returns c = c.with_space.ensures ∙ ap (λ (a : Result Header Refusal). spaced a c.args.space) c.ask.ensures
