use Prim.Native.Nat.{ℕ, ◌+◌, ◌/◌, ◌%◌, ◌^◌, ◌≤◌, ◌<◌}
use mathlib.Core.Path.{◌≡◌}
use Rattle.std.specs.Prelude.{List, length, get_or}
use Rattle.entry_columns.specs.EntryColumns.{Stacking}
use Rattle.entry_columns.proofs.stack.Given as goal

abbrev pub invariant-loop-j : goal.invariant-loop-j
invariant-loop-j g l =
    (l.j ≤ l.n) × ((list : List ℕ) (s from : ℕ) → from + l.n ≤ length list
    → ((j b : ℕ) → j < l.n → goal.F-post g l.byte j b → b ≡ get_or list (from + j) 0 / 2 ^ s % 256)
    → Stacking list s from l.n l.j l.x)
