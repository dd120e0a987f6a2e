use Rattle.filled_schema.proofs.RelationsTested.{passed-all, passed-not}
use Rattle.filled_schema.proofs.is_filled.Goals as goal

pub returns-then-not-has_attribute : goal.returns-then-not-has_attribute
returns-then-not-has_attribute c =
    passed-not c.loop-r.invariant c.requires.0 c.loop-r-test.true _ c.holders-held.ensures
    _ c.has_attribute.ensures c.if-not-has_attribute.true

pub returns : goal.returns
returns c = passed-all c.loop-r.invariant c.loop-r-test.false
