use mathlib.Core.Path.{sym, ◌∙◌}
use native.Mathlib.Omega.{arith}
use Rattle.std.proofs.Common.{rules, subst}
use Rattle.query_language.specs.NumberLaws.{digit-range}
use Rattle.text.specs.declared.Writer.{Writer}
use Rattle.text.specs.Written.{Stands, writes-stand}
use Rattle.query_operands.specs.ReadingLaws.{room-stands, relation-none, relation-done}
use Rattle.query_operands.proofs.operands.read_relation.Goals as goal

-- nothing is written: the writer is the one that was lent, which the rules find of what the code left in it
pub returns-then-not-is_digit-clause-stands : goal.returns-then-not-is_digit-clause-stands
returns-then-not-is_digit-clause-stands c = subst (λ (w : Writer). Stands c.args.nodes.now w) (search rules) (room-stands c.requires)

pub returns-then-not-is_digit-clause-reads : goal.returns-then-not-is_digit-clause-reads
returns-then-not-is_digit-clause-reads c = relation-none _ _ c.byte_at-b.ensures (sym c.is_digit.ensures ∙ c.if-not-is_digit.true)

pub overflow_sub-relation : goal.overflow_sub-relation
overflow_sub-relation c = let range = digit-range _ (sym c.is_digit.ensures ∙ c.if-not-is_digit.false) in omega arith

pub returns-clause-stands : goal.returns-clause-stands
returns-clause-stands c = writes-stand c.write_node.ensures

pub returns-clause-reads : goal.returns-clause-reads
returns-clause-reads c =
    relation-done _ _ c.byte_at-b.ensures (sym c.is_digit.ensures ∙ c.if-not-is_digit.false) c.relation_fault.ensures c.write_node.ensures
