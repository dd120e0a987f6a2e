use mathlib.Core.Path.{refl}
use Rattle.entry_columns.specs.EntryColumns.{unlike, exchanged, transposed}
use Rattle.entry_columns.proofs.transpose.Goals as goal

pub returns : goal.returns
unfolding unlike exchanged transposed
returns c = refl
