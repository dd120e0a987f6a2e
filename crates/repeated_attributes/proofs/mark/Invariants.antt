use Prim.Native.Nat.{◌+◌, ◌*◌}
use Rattle.bits.specs.Word.{word}
use Rattle.repeated_attributes.proofs.MarkedList.{Marking}
use Rattle.repeated_attributes.proofs.mark.Given as goal

abbrev pub invariant-loop-i : goal.invariant-loop-i
invariant-loop-i l = Marking l.count (λ x. word l.list (x * 2 + 1)) l.initial.seen l.seen l.repeated l.i
