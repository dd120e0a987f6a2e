use Prim.Native.Nat.{◌*◌}
use native.Mathlib.Omega.{arith}
use Rattle.cover_rows.specs.LowEntries.{copied_none, dropped-four}
use Rattle.cover_rows.proofs.low.low_entries.Goals as goal

pub returns : goal.returns
returns c =
    let args = c.args in
    let pre = c.requires in
    dropped-four args.row.now args.table.now _ _ _ _ _ args.low (args.blocks * 16) pre.0 (omega arith)
    (copied_none args.row.now args.table.now _ (args.blocks * 16) (omega arith) (omega arith) (omega arith) c.copy_bytes.ensures)
    c.drop_held.ensures c.drop_held-2.ensures c.drop_held-3.ensures c.drop_held-4.ensures
