use Rattle.type_sets.specs.Sets.{breaking}
use Rattle.type_sets.proofs.breaking.Goals as goal

pub returns-in-Union : goal.returns-in-Union
unfolding breaking
returns-in-Union c = rw c.in-Union.is

pub returns-in-Difference : goal.returns-in-Difference
unfolding breaking
returns-in-Difference c = rw c.in-Difference.is

pub returns-in-Join : goal.returns-in-Join
unfolding breaking
returns-in-Join c = rw c.in-Join.is

pub returns-in-Product : goal.returns-in-Product
unfolding breaking
returns-in-Product c = rw c.in-Product.is
