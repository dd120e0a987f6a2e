use Rattle.instantiation_reader.proofs.AppendedEntries.{Adding}
use Rattle.membership.specs.Entries.{entry}
use Rattle.bits.specs.Word.{word}
use Rattle.bits.specs.Tab.{tab}
use mathlib.Core.List.{map}
use Prim.Native.Nat.{◌+◌, ◌*◌}
use Rattle.instantiation_reader.proofs.appending.append.Given as goal

abbrev pub invariant-loop-i : goal.invariant-loop-i
invariant-loop-i l = Adding (map (λ a. entry a l.subset) (tab l.count (λ x. word l.list (x * 2 + 1)))) l.k l.initial.items l.items l.at l.i
