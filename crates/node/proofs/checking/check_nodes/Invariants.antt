use Prim.Native.Nat.{◌+◌, ◌-◌, ◌≤◌}
use mathlib.Core.Path.{◌≡◌}
use lib.ListN.{length}
use Rattle.node.specs.ReadNode.{check_nodes}
use Rattle.node.proofs.checking.check_nodes.Given as goal

abbrev pub invariant-loop-i : goal.invariant-loop-i
invariant-loop-i l = (l.i ≤ l.count) × (l.at ≤ length l.bytes) × (check_nodes l.m (l.count - l.i) (l.k + l.i) l.at l.bytes ≡ check_nodes l.m l.count l.k 0 l.bytes)
