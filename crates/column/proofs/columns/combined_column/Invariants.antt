use Prim.Native.Nat.{◌≤◌}
use Rattle.planes.specs.Planes.{bit_in}
use Rattle.planes.specs.PlaneLaws.{Filling}
use Rattle.column.specs.Steps.{combined_step}
use Rattle.column.proofs.columns.combined_column.Given as goal

abbrev pub invariant-loop-j : goal.invariant-loop-j
invariant-loop-j l = (l.j ≤ 32) × Filling 2 (λ p s. combined_step l.c (bit_in l.left s) (bit_in l.right s) p) l.j 0 l.column
