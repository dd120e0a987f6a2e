use lib.ListN.{length, take}
use Rattle.entry_columns.specs.EntryColumns.{Gathering}
use Rattle.entry_columns.proofs.gather_subsets.Given as goal

abbrev pub invariant-loop-g : goal.invariant-loop-g
invariant-loop-g l = Gathering (take (length l.entries) l.entries) l.g-counter (length l.initial.groups) l.groups
