use Prim.Native.Nat.{◌+◌, ◌-◌, ◌*◌, ◌≤◌}
use lib.ListN.{length}
use Rattle.bits.specs.Written.{Written}
use Rattle.type_record.specs.WritingLaws.{record_byte}
use Rattle.type_record.proofs.writing.write_record.Given as goal

abbrev pub invariant-loop-i : goal.invariant-loop-i
invariant-loop-i l = (l.i ≤ l.count) × (513 ≤ length l.out) × Written (record_byte l.special l.listed) (l.i * 2 + 3) l.initial.out l.out
