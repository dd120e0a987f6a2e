use mathlib.Core.Path.{refl}
use Rattle.stored_formula.specs.WrittenColumns.{columns-next}
use borrow.Author.Rules.{rules}
use Rattle.stored_columns.proofs.relation.fill_relation.Goals as goal

pub loop-c-preserved : goal.loop-c-preserved
loop-c-preserved c =
    columns-next c.loop-c.invariant _ _ c.loop-c-test.true (search rules)
    (λ earlier. refl)
    c.write_column.ensures
