use Rattle.attribute_set.specs.AttrSet.{special}
use Rattle.attribute_set.proofs.is_special.Goals as goal

pub returns : goal.returns
unfolding special
returns c = c.in_range.ensures
