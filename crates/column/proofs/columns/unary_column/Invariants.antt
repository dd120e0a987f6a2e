use Prim.Native.Nat.{◌≤◌}
use Rattle.planes.specs.Planes.{bit_in}
use Rattle.planes.specs.PlaneLaws.{Filling}
use Rattle.column.specs.Steps.{unary_step}
use Rattle.column.proofs.columns.unary_column.Given as goal

abbrev pub invariant-loop-j : goal.invariant-loop-j
invariant-loop-j l = (l.j ≤ 32) × Filling 2 (λ p s. unary_step l.u (bit_in l.operand s) p) l.j 0 l.column
