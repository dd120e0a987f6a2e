use native.Mathlib.Omega.{arith}
use Rattle.types.specs.Memberships.{ones-most}
use Rattle.first_subsets.specs.ByteMembers.{fewest-all}
use Rattle.first_subsets.proofs.ByteMembers.{byte-most, fewest-next}
use Rattle.first_subsets.proofs.members.fewest_in_bytes.Goals as goal

pub overflow_add-i : goal.overflow_add-i
overflow_add-i c =
    let i = c.loop-i.i in
    let below = c.loop-i-test.true in
    let few = ones-most i (omega arith) in
    let byte = byte-most _ (c.type_inv.column i).fits in
    let here = c.fewest_in_byte-here.ensures in
    omega arith

pub loop-i-preserved : goal.loop-i-preserved
loop-i-preserved c =
    let i = c.loop-i.i in
    let below = c.loop-i-test.true in
    rw (c.min-fewest.ensures, c.fewest_in_byte-here.ensures)
    (fewest-next _ i _ c.loop-i.invariant (omega arith) (c.type_inv.column i).fits)

pub returns : goal.returns
returns c = fewest-all _ _ _ c.loop-i.invariant c.loop-i-test.false
