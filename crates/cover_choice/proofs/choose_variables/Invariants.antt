use Prim.Native.Nat.{◌-◌}
use Rattle.verdict_answer.specs.First.{allowed_at}
use Rattle.cover_choice.specs.Variables.{Numbering}
use Rattle.cover_choice.proofs.choose_variables.Given as goal

abbrev pub invariant-loop-need : goal.invariant-loop-need
invariant-loop-need l = Numbering l.count (allowed_at l.formula 0) l.all l.n l.items l.need

abbrev pub decreases-loop-need : goal.decreases-loop-need
decreases-loop-need l = l.all - l.n
