use Rattle.std.proofs.Common.{length}
use Rattle.filled_schema.proofs.HoldersResumed.{Gathered}
use Rattle.filled_schema.proofs.holders.Given as goal

abbrev pub invariant-loop-e : goal.invariant-loop-e
invariant-loop-e l = Gathered l.entries (length l.entries) l.s l.e-index
