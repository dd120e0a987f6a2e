use Prim.Native.Nat.{◌≤◌}
use mathlib.Core.Path.{◌≡◌}
use mathlib.Core.Bool.{◌&&◌}
use lib.Dec.{ltb}
use Rattle.bits.specs.Bit.{bit}
use Rattle.bits.specs.Tab.{tab}
use Rattle.column.specs.Tables.{member_byte}
use Rattle.planes.specs.PlaneLaws.{Filling}
use Rattle.column.specs.ColumnLaws.{pair}
use Rattle.column.proofs.columns.relation_column.Given as goal

abbrev pub invariant-loop-j : goal.invariant-loop-j
invariant-loop-j l =
    (l.j ≤ 32) × Filling 2 (pair (λ s. ltb s l.count) (λ s. ltb s l.count && bit s l.r)) l.j 0 l.column × (l.members ≡ tab 32 (member_byte l.r))
