use Rattle.std.proofs.Common.{◌≡◌, ◌+◌, ◌/◌, ◌%◌, ◌^◌, eqb, get_or, ◌∙◌, rules}
use Rattle.node_expression.specs.NodeExpression.{expression_at}
use Rattle.algebra.specs.Cell.{plain, out}
use Rattle.bits.specs.Bit.{bit, bit_test}
use Rattle.table_typing.proofs.output.list_output.Goals as goal

pub returns : goal.returns
returns c =
    let args = c.args in
    let both = c.list_where.ensures (λ x. out plain (expression_at args.file.now args.node) 0 (bit x))
    (λ i b inside h.
    let is : b ≡ eqb (get_or args.sets.now (args.at + i / 64) 0 / 2 ^ (i % 64) % 2) 1 = search rules in
    is ∙ bit_test _ _ ∙ c.requires.output_bits.bits i inside) in
    record {
      value = both.0;
      list_after = both.1;
    }
