use Prim.Native.Nat.{◌+◌, ◌*◌, ◌≤◌}
use Rattle.text.specs.Each.{each}
use Rattle.text.specs.Written.{Writes}
use Rattle.listing_entries.specs.Entries.{entry_text}
use Rattle.listing_entries.proofs.entries.write_list.Given as goal

abbrev pub invariant-loop-s : goal.invariant-loop-s
invariant-loop-s l = (l.writer.at ≤ l.initial.writer.at + l.s * 4) × Writes (each l.s (entry_text l.kind l.column)) l.initial.writer l.writer
