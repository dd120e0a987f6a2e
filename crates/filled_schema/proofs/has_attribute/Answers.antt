use Rattle.std.proofs.Common.{Bool, not, ◌||◌, sym, ap, ◌∙◌}
use borrow.Author.Tests.{eq-eqb}
use Rattle.bits.specs.Bit.{bit, bit_test}
use Rattle.filled_schema.proofs.has_attribute.Goals as goal

pub returns-else-map-ne0 : goal.returns-else-map-ne0
returns-else-map-ne0 c =
    let args = c.args in
    bit_test args.held args.r ∙ ap (λ (b : Bool). not b || bit args.held args.r) (sym (eq-eqb args.map 0 c.if-map-ne0.false))
