use mathlib.Core.Path.{◌∙◌}
use borrow.Author.Tests.{lt-ltb, le-ltb}
use Rattle.bits.specs.Bit.{bit_test}
use Rattle.bits.specs.Booleans.{clash}
use Rattle.listing_entries.proofs.entries.is_listed.Goals as goal
use Rattle.listing_entries.proofs.entries.is_listed.Goals.{then-s-gt0, else-s-gt0}

pub returns-then-allowed_in : goal.returns-then-allowed_in
returns-then-allowed_in c =
    elim c.if-s-gt0.branch [
      | then-s-gt0 w ↦ rw (c.in-Variables.is, lt-ltb 0 c.args.s w.if-s-gt0.true, ← w.allowed_in.ensures, ← w.value-is, c.if-allowed_in.true) (bit_test _ _)
      | else-s-gt0 w ↦ absurd (clash c.if-allowed_in.true (w.value-is ∙ le-ltb 0 c.args.s w.if-s-gt0.false))
    ]
