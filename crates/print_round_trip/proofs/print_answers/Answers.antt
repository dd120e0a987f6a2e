use native.Mathlib.Omega.{arith}
use Rattle.print_round_trip.proofs.print_answers.Goals as goal

pub overflow_cast-node : goal.overflow_cast-node
overflow_cast-node g c = omega (arith, c.type_inv.input 0)

pub overflow_cast-end : goal.overflow_cast-end
overflow_cast-end g c = omega (arith, c.type_inv.input 1)

pub overflow_add-end : goal.overflow_add-end
overflow_add-end g c = omega (arith, c.type_inv.input 1)

pub overflow_cast-end-2 : goal.overflow_cast-end-2
overflow_cast-end-2 g c = omega (arith, c.type_inv.input 2)

pub overflow_mul-end : goal.overflow_mul-end
overflow_mul-end g c = omega (arith, c.type_inv.input 2)

pub overflow_add-end-2 : goal.overflow_add-end-2
overflow_add-end-2 g c = omega (arith, c.type_inv.input 1, c.type_inv.input 2)
