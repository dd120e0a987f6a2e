use mathlib.Core.Path.{refl}
use Rattle.bits.specs.Bit.{bit}
use Rattle.bits.specs.Total.{total}
use Rattle.types.specs.Memberships.{members}
use Rattle.first_subsets.specs.SubsetList.{fewest_first, starts_in}
use Rattle.first_subsets.proofs.first_subsets.Goals as goal

-- the tables pass their tests: antt computes them
pub first_in_columns-requires : goal.first_in_columns-requires
unfolding fewest_first starts_in members total bit
first_in_columns-requires c = (refl, refl)
