use Prim.Native.Nat.{◌≤◌}
use mathlib.Core.Path.{◌≡◌}
use lib.Dec.{eqb}
use Rattle.cover_table.specs.Alike.{alike}
use Rattle.cover_table.proofs.alike.same_bytes.Given as goal

abbrev pub invariant-loop-i : goal.invariant-loop-i
invariant-loop-i l = (l.i ≤ l.n) × (l.differences ≤ l.i) × (eqb l.differences 0 ≡ alike l.i l.a l.b)
