use mathlib.Core.Path.{refl}
use Rattle.type_sets.specs.Sets.{without}
use Rattle.type_sets.proofs.without.Goals as goal

pub returns : goal.returns
unfolding without
returns c = refl
