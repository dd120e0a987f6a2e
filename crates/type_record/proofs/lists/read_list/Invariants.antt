use Rattle.type_record.proofs.ListResumed.{Resumed}
use Prim.Native.Nat.{◌-◌}
use Rattle.type_record.proofs.lists.read_list.Given as goal

abbrev pub invariant-loop-i : goal.invariant-loop-i
invariant-loop-i l = Resumed l.bytes l.count l.whole l.rises l.previous l.i
