use mathlib.Core.Path.{sym, ◌∙◌}
use Rattle.first_subsets.specs.SubsetList.{empty-first}
use Rattle.first_subsets.proofs.list.fewest_allowed.Goals as goal

pub returns-then-allowed_in : goal.returns-then-allowed_in
returns-then-allowed_in c = empty-first _ (sym c.allowed_in.ensures ∙ c.if-allowed_in.true)
