use Prim.Native.Nat.{◌-◌}
use mathlib.Core.Path.{◌≡◌}
use mathlib.Core.Bool.{true}
use lib.ListN.{length}
use Rattle.attribute_set.specs.AttrSet.{empty_set}
use Rattle.query_language.specs.Parse.{items_at}
use Rattle.query_prefixes.specs.Answers.{Placed, list_answer}
use Rattle.query_prefixes.proofs.lists.items_at.Given as goal

abbrev pub invariant-loop-number : goal.invariant-loop-number
invariant-loop-number l = Placed l.text l.at × (list_answer l.set l.special (items_at l.text l.low l.at) ≡ list_answer empty_set true (items_at l.text 0 l.start))

abbrev pub decreases-loop-number : goal.decreases-loop-number
decreases-loop-number l = length l.text - l.at
