use Rattle.first_subsets.specs.ByteMembers.{fewest_in_byte}
use Rattle.first_subsets.proofs.members.fewest_in_byte.Goals as goal

pub returns : goal.returns
unfolding fewest_in_byte
returns c = simp (c.min.ensures, c.min-2.ensures, c.min-3.ensures)
