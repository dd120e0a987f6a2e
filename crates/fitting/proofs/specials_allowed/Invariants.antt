use Prim.Native.Nat.{◌+◌}
use mathlib.Core.Path.{◌≡◌}
use mathlib.Core.Bool.{true}
use lib.ListN.{get_or}
use Rattle.bits.specs.AllBelow.{all_below}
use Rattle.column.specs.Column.{allowed_in}
use Rattle.stored_formula.specs.ColumnPlace.{column_at}
use Rattle.fitting.proofs.specials_allowed.Given as goal

abbrev pub invariant-loop-i : goal.invariant-loop-i
invariant-loop-i l = all_below l.i (λ x. allowed_in (column_at l.formula 0 (x + 1)) (get_or l.subsets (x + 1) 0)) ≡ true
