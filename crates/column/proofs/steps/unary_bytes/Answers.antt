use Rattle.bits.specs.Bitwise.{packed, own_bits, no_bits, and-bits, not-bits}
use Rattle.column.proofs.steps.unary_bytes.Goals as goal

pub returns-in-Kept : goal.returns-in-Kept
returns-in-Kept c = rw c.in-Kept.is (record {
  allowed_value = packed (own_bits _ c.ranges.allowed.fits);
  output_value = packed (own_bits _ c.ranges.output.fits);
})

pub returns-in-Required : goal.returns-in-Required
returns-in-Required c = rw c.in-Required.is (record {
  allowed_value = packed (and-bits (own_bits _ c.ranges.allowed.fits)
      (own_bits _ c.ranges.output.fits));
  output_value = packed (and-bits (own_bits _ c.ranges.allowed.fits) (own_bits _ c.ranges.output.fits));
})

pub returns-in-Removed : goal.returns-in-Removed
returns-in-Removed c = rw c.in-Removed.is (record {
  allowed_value = packed (and-bits (own_bits _ c.ranges.allowed.fits) (own_bits _ c.ranges.output.fits));
  output_value = packed no_bits;
})

pub returns-in-Introduced : goal.returns-in-Introduced
returns-in-Introduced c = rw c.in-Introduced.is (record {
  allowed_value = packed (and-bits (own_bits _ c.ranges.allowed.fits)
      (not-bits (own_bits _ c.ranges.output.fits)));
  output_value = packed (and-bits (own_bits _ c.ranges.allowed.fits) (not-bits (own_bits _ c.ranges.output.fits)));
})

pub returns-in-Dropped : goal.returns-in-Dropped
returns-in-Dropped c = rw c.in-Dropped.is (record {
  allowed_value = packed (own_bits _ c.ranges.allowed.fits);
  output_value = packed no_bits;
})

pub returns-in-Contradicted : goal.returns-in-Contradicted
returns-in-Contradicted c = rw c.in-Contradicted.is (record {
  allowed_value = packed no_bits;
  output_value = packed no_bits;
})
