use Prim.Native.Nat.{◌*◌, ◌≤◌}
use mathlib.Core.Path.{◌≡◌}
use lib.ListN.{get_or}
use Rattle.bits.specs.Total.{total}
use Rattle.types.specs.Memberships.{members}
use Rattle.first_subsets.proofs.members.count_memberships.Given as goal

abbrev pub invariant-loop-s : goal.invariant-loop-s
invariant-loop-s l = (l.s-index ≤ 16) × ((l.count ≤ l.s-index * 8) × (l.count ≡ total l.s-index (λ j. members (get_or l.subsets j 0))))
