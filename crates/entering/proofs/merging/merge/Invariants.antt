use Rattle.entering.specs.Merging.{Merge}
use Rattle.bits.specs.Word.{word}
use Rattle.bits.specs.Tab.{tab}
use lib.ListN.{take}
use Prim.Native.Nat.{◌+◌, ◌*◌}
use Rattle.entering.proofs.merging.merge.Given as goal

abbrev pub invariant-loop-i : goal.invariant-loop-i
invariant-loop-i l = Merge l.subset (tab l.count (λ x. word l.list (x * 2 + 1))) (take l.old l.earlier) l.initial.items l.items l.i l.reached.copied l.reached.entered
