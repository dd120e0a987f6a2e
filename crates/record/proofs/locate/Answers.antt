use mathlib.Core.Path.{sym, ◌∙◌}
use Rattle.record.specs.RecordLaws.{record-refused, seek-first}
use Rattle.record.proofs.locate.Goals as goal

pub returns-in-Err : goal.returns-in-Err
returns-in-Err c = sym (record-refused _ _ _ (sym c.ask.ensures ∙ c.in-Err.is)).1

pub place_of-requires : goal.place_of-requires
place_of-requires c = seek-first _ _ _ _ (sym c.ask.ensures ∙ c.in-Ok.is)

pub returns-in-Ok : goal.returns-in-Ok
returns-in-Ok c = c.place_of.ensures
