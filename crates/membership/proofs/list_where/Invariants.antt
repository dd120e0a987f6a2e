use Rattle.std.proofs.Common.{◌≡◌, ℕ, ◌≤◌, ◌<◌, Bool, length, get_or}
use Rattle.membership.specs.Keeping.{Keeping}
use Rattle.membership.proofs.list_where.Given as goal

abbrev pub invariant-loop-i : goal.invariant-loop-i
invariant-loop-i g l =
    (l.k ≤ l.i)
    × ((test : ℕ → Bool)
    → ((i : ℕ) (b : Bool) → i < length l.entries → goal.F-post g l.holds i (get_or l.entries i 0) b → b ≡ test (get_or l.entries i 0))
    → Keeping test l.entries l.initial.list l.list l.k l.i)
