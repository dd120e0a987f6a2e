use Prim.Native.Nat.{◌≤◌}
use Rattle.column.specs.Column.{allowed_in}
use Rattle.set_cover.specs.Shortcuts.{covering}
use Rattle.cover_table.specs.Table.{IsRow}
use Rattle.cover_table.proofs.table.variables_row.Given as goal

abbrev pub invariant-loop-j : goal.invariant-loop-j
invariant-loop-j l = (l.j ≤ 8) × IsRow l.count (covering l.count (allowed_in l.column) l.j) l.row
