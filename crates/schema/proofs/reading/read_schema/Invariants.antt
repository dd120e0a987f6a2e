use Rattle.schema.proofs.RecordsResumed.{Resumed}
use lib.ListN.{length}
use mathlib.Core.Path.{◌≡◌}
use Rattle.schema.proofs.reading.read_schema.Given as goal

abbrev pub invariant-loop-r : goal.invariant-loop-r
invariant-loop-r l =
    Resumed l.m l.bytes l.special l.items l.count l.at l.r × (length l.items ≡ length l.initial.items) × (length l.spare ≡ length l.initial.spare)
