use Prim.Native.Nat.{◌≤◌}
use mathlib.Core.Path.{◌≡◌}
use lib.ListN.{drop}
use Rattle.set_cover.specs.Choice.{uncovered}
use Rattle.first_subsets.proofs.members.uncovered_relations.Given as goal

abbrev pub invariant-loop-i : goal.invariant-loop-i
invariant-loop-i l = (l.i ≤ 16) × (uncovered l.need (drop l.i l.subsets) ≡ uncovered l.all (drop 1 l.subsets))
