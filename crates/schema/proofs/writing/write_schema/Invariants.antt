use Rattle.schema.proofs.RecordsBefore.{Prefix}
use lib.ListN.{length, take}
use mathlib.Core.Path.{◌≡◌}
use Rattle.schema.proofs.writing.write_schema.Given as goal

abbrev pub invariant-loop-r : goal.invariant-loop-r
invariant-loop-r l = Prefix l.m l.special (take (length l.entries) l.entries) l.initial.out l.out l.at l.r × (length l.list ≡ length l.initial.list)
