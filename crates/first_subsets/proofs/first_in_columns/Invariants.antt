use Rattle.verdict_answer.specs.First.{allowed_at, first_in}
use Rattle.verdict_answer.specs.FirstLaws.{Choosing}
use Rattle.first_subsets.proofs.first_in_columns.Given as goal

abbrev pub invariant-loop-i : goal.invariant-loop-i
invariant-loop-i l = Choosing (first_in (allowed_at l.formula 0)) l.i l.chosen
