use lib.Seq.{length-take-le}
use mathlib.Core.Path.{sym, ◌∙◌}
use Rattle.round_trip.specs.Composed.{round-trip-fits}
use Rattle.print_round_trip.proofs.print_recovery.Goals as goal
use Rattle.std.proofs.Common.{ap, Ok}

pub slice_bounds-recovered-end : goal.slice_bounds-recovered-end
slice_bounds-recovered-end g c =
    let apply-and-recover = c.apply_and_recover in
    round-trip-fits _ c.args.instantiation.now
    _ _ _ apply-and-recover.ensures.recovered_after (sym apply-and-recover.ensures.value ∙ (c.in-Ok-Some.is ∙ ap Ok c.in-Ok-Some.field-0-is))

pub slice_bounds-write_all-end : goal.slice_bounds-write_all-end
slice_bounds-write_all-end g c =
    let apply-and-recover = c.apply_and_recover in
    sym (length-take-le _ _ (round-trip-fits _
    c.args.instantiation.now _ _ _
    apply-and-recover.ensures.recovered_after (sym apply-and-recover.ensures.value ∙ (c.in-Ok-Some.is ∙ ap Ok c.in-Ok-Some.field-0-is))))
