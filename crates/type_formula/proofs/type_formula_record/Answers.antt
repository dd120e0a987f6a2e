use mathlib.Core.Path.{sym, ap, ◌∙◌}
use Rattle.record.specs.declared.Place.{Place}
use Rattle.record.specs.RecordLaws.{record-length}
use Rattle.type_formula.proofs.type_formula_record.Goals as goal

pub returns : goal.returns
returns c =
    record {
      value = ap (λ (p : Place). p.len) c.locate-place.ensures ∙ sym (record-length _ _);
      start_after = ap (λ (p : Place). p.start) c.locate-place.ensures;
    }
