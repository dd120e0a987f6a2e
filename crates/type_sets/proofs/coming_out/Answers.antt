use Rattle.type_sets.specs.Sets.{coming_out}
use Rattle.type_sets.proofs.coming_out.Goals as goal

pub returns-in-Union : goal.returns-in-Union
unfolding coming_out
returns-in-Union c = rw c.in-Union.is

pub returns-in-Difference : goal.returns-in-Difference
unfolding coming_out
returns-in-Difference c = rw c.in-Difference.is

pub returns-in-Join : goal.returns-in-Join
unfolding coming_out
returns-in-Join c = rw c.in-Join.is

pub returns-in-Product : goal.returns-in-Product
unfolding coming_out
returns-in-Product c = rw c.in-Product.is
