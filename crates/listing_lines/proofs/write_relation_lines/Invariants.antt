use Prim.Native.Nat.{◌+◌, ◌*◌, ◌≤◌}
use Rattle.text.specs.Each.{each}
use Rattle.text.specs.Written.{Writes}
use Rattle.listing_lines.specs.Lines.{relation_text}
use Rattle.listing_lines.proofs.write_relation_lines.Given as goal

abbrev pub invariant-loop-r : goal.invariant-loop-r
invariant-loop-r l = (l.writer.at ≤ l.initial.writer.at + l.r * 1029) × Writes (each l.r (relation_text l.column)) l.initial.writer l.writer
