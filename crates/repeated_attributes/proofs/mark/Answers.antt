use Rattle.std.proofs.Common.{refl}
use Prim.Native.Nat.{◌+◌, ◌*◌}
use native.Mathlib.Omega.{arith}
use Rattle.bits.specs.Bit.{bit_test}
use Rattle.bits.specs.Word.{word, word_below}
use Rattle.repeated_attributes.proofs.MarkedList.{marking-first, marking-next, marking-end}
use Rattle.repeated_attributes.proofs.mark.Goals as goal

pub loop-i-init : goal.loop-i-init
loop-i-init c =
    let args = c.args in
    marking-first args.count (λ x. word args.list.now (x * 2 + 1)) args.seen.now

pub loop-i-preserved : goal.loop-i-preserved
loop-i-preserved c =
    let loop = c.loop-i in
    let below = word_below c.args.list.now (loop.i * 2 + 1) (λ x. omega (arith, c.type_inv.list x)) in
    let size = loop.invariant.size in
    let whole = c.requires.count_bound.1 in
    marking-next loop.invariant c.loop-i-test.true (omega arith) c.word_at-a.ensures (rw bit_test refl)

pub returns : goal.returns
returns c =
    let both = marking-end c.loop-i.invariant c.loop-i-test.false in
    record {
      value = both.0;
      marked = both.1;
    }
