use mathlib.Core.Path.{refl, ◌∙◌}
use lib.ListN.{replicate}
use Rattle.stored_formula.specs.ColumnPlace.{column-copied}
use Rattle.stored_columns.proofs.storage.read_column.Goals as goal

pub returns : goal.returns
returns c =
    let args = c.args in
    c.copy_bytes.ensures ∙ column-copied (replicate 64 0) args.work.now args.node args.c refl
