use Prim.Native.Nat.{◌+◌, ◌*◌, ◌≤◌}
use Rattle.text.specs.Each.{each}
use Rattle.text.specs.Written.{Writes}
use Rattle.listing_lines.specs.Lines.{attribute_text}
use Rattle.listing_lines.proofs.write_attribute_lines.Given as goal

abbrev pub invariant-loop-j : goal.invariant-loop-j
invariant-loop-j l =
    (l.writer.at ≤ l.initial.writer.at + l.j * 1029) × Writes (each l.j (λ j. attribute_text l.formula 0 l.named (j + 1))) l.initial.writer l.writer
