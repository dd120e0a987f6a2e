use Rattle.verdict_answer.specs.First.{allowed_at}
use Rattle.cover_choice.specs.Specials.{Choosing}
use Rattle.cover_choice.proofs.choose_specials.Given as goal

abbrev pub invariant-loop-i : goal.invariant-loop-i
invariant-loop-i l = Choosing l.count (allowed_at l.formula 0) l.i l.subsets l.need
