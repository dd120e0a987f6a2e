use Rattle.stored_formula.specs.WrittenColumns.{ColumnLoop}
use Rattle.stored_columns.proofs.relation.fill_relation.Given as goal

abbrev pub invariant-loop-c : goal.invariant-loop-c
invariant-loop-c l = ColumnLoop (λ c. l.own) l.k l.c l.initial.work l.work
