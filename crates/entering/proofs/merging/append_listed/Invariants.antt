use Rattle.membership.specs.Entries.{entry}
use Rattle.entry_runs.specs.Runs.{Copying}
use Rattle.bits.specs.Word.{word}
use Rattle.bits.specs.Tab.{tab}
use Prim.Native.Nat.{◌+◌, ◌*◌, ◌≤◌}
use Rattle.entering.proofs.merging.append_listed.Given as goal

abbrev pub invariant-loop-i : goal.invariant-loop-i
invariant-loop-i l =
    (l.i ≤ l.count) × Copying (tab l.count (λ x. entry (word l.list (x * 2 + 1)) l.subset)) l.from l.at l.initial.items l.items l.i l.k
