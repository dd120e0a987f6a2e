use Rattle.first_subsets.proofs.ByteMembers.{fewest-first-byte}
use Rattle.first_subsets.proofs.members.fewest_members.Goals as goal

pub returns-then-first-lt2 : goal.returns-then-first-lt2
returns-then-first-lt2 c = fewest-first-byte _ _ c.fewest_in_byte-first.ensures (c.type_inv.column 0).fits c.if-first-lt2.true
