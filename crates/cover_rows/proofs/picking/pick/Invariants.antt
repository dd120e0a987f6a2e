use Prim.Native.Nat.{ℕ, ◌-◌, ◌≤◌}
use mathlib.Core.Path.{◌≡◌}
use mathlib.Core.Bool.{Bool}
use mathlib.Core.List.{List}
use lib.Dec.{eqb}
use Rattle.bits.specs.Lowest.{lowest_from}
use Rattle.cover_rows.specs.Rows.{price_in}
use Rattle.cover_rows.proofs.picking.pick.Given as goal

-- subset s costs as much as is said
abbrev pub test : List ℕ → List ℕ → ℕ → ℕ → ℕ → Bool
test column next need target s = eqb (price_in column next need s) target

abbrev pub invariant-loop-s : goal.invariant-loop-s
invariant-loop-s l =
    (l.s ≤ l.count) × (lowest_from (l.count - l.s) l.s (test l.column l.next l.need l.target) ≡ lowest_from (l.count - l.from) l.from (test l.column l.next l.need l.target))
