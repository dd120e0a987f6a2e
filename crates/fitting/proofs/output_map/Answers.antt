use Rattle.std.proofs.Common.{rules, get_or}
use Rattle.stored_formula.specs.ColumnPlace.{column_at}
use Rattle.column.specs.Column.{output_in}
use Rattle.fitting.specs.StoredFit.{stored_map}
use Rattle.fitting.proofs.output_map.Goals as goal

pub returns : goal.returns
unfolding stored_map
returns c = c.pack.ensures.value (λ i. output_in (column_at c.args.formula.now 0 i) (get_or c.args.subsets.now i 0)) (λ i b inside h. search rules)
