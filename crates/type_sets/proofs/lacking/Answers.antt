use mathlib.Core.Path.{refl}
use Rattle.type_sets.specs.Sets.{lacking}
use Rattle.type_sets.proofs.lacking.Goals as goal

pub returns : goal.returns
unfolding lacking
returns c = refl
