use Rattle.entering.specs.Entering.{Marking}
use Rattle.bits.specs.Tab.{tab}
use Rattle.bits.specs.Word.{word}
use lib.ListN.{length, take}
use mathlib.Core.Path.{◌≡◌}
use Prim.Native.Nat.{◌+◌, ◌*◌, ◌≤◌}
use Rattle.entering.proofs.entering.mark.Given as goal

abbrev pub invariant-loop-i : goal.invariant-loop-i
invariant-loop-i l =
    (l.i ≤ l.count) × (length l.items ≡ length l.initial.items) × Marking l.subset (tab l.count (λ x. word l.list (x * 2 + 1))) (take l.old l.initial.items)
    (take l.old l.items) l.i l.j
