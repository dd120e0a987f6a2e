use Prim.Native.Nat.{◌≤◌}
use mathlib.Core.Path.{◌≡◌}
use lib.ListN.{drop}
use Rattle.column.specs.Column.{allowed_in}
use Rattle.verdict_answer.specs.First.{fewest_in}
use Rattle.first_subsets.specs.SubsetList.{first_listed}
use Rattle.first_subsets.proofs.list.first_listed.Given as goal

abbrev pub invariant-loop-j : goal.invariant-loop-j
invariant-loop-j l = (l.j ≤ 256) × (first_listed (drop l.j l.list) (allowed_in l.column) ≡ fewest_in (allowed_in l.column))
