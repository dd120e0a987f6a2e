use Rattle.std.proofs.lemmas.Result.{err_from_is_err_and}
use mathlib.Core.Path.{sym, ◌∙◌}
use native.Mathlib.Omega.{arith}
use lib.Seq.{length-take-le}
use Rattle.round_trip.specs.Composed.{trip-short, trip-refused, trip-fits, trip-applied}
use Rattle.round_trip.proofs.apply_and_recover.Goals as goal

pub returns-then-recovered-lt-INSTANTIATION_SIZE : goal.returns-then-recovered-lt-INSTANTIATION_SIZE
returns-then-recovered-lt-INSTANTIATION_SIZE c =
    let args = c.args in
    let both = trip-short args.file.now args.node args.instantiation.now args.work.now args.schema.now args.out.now args.recovered.now (omega arith) in
    record {
      value = both.0;
      work_after = both.1.0;
      schema_after = both.1.1.0;
      out_after = both.1.1.1.0;
      recovered_after = both.1.1.1.1;
    }

pub slice_bounds-recover-end : goal.slice_bounds-recover-end
slice_bounds-recover-end c =
    let apply = c.apply in
    let args = c.args in
    let fits = trip-fits args.file.now args.node args.instantiation.now args.work.now args.schema.now args.out.now args.recovered.now
    (λ x. omega (arith, c.type_inv.instantiation x)) _ _
    (sym c.in_ok-applied.was ∙ apply.ensures.value) in
    let same = apply.auto.schema in
    omega arith

pub slice_bounds-recover-end-2 : goal.slice_bounds-recover-end-2
slice_bounds-recover-end-2 c =
    let apply = c.apply in
    let args = c.args in
    let fits = trip-fits args.file.now args.node args.instantiation.now args.work.now args.schema.now args.out.now args.recovered.now
    (λ x. omega (arith, c.type_inv.instantiation x)) _ _
    (sym c.in_ok-applied.was ∙ apply.ensures.value) in
    let same = apply.auto.schema in
    sym (length-take-le _ _ (omega arith))

pub returns : goal.returns
returns c =
    let recover = c.recover in
    let apply = c.apply in
    let args = c.args in
    let both = trip-applied args.file.now args.node args.instantiation.now args.work.now args.schema.now args.out.now args.recovered.now
    (omega arith) (λ x. omega (arith, c.type_inv.instantiation x)) _ _
    (sym c.in_ok-applied.was ∙ apply.ensures.value) _ _ _ apply.auto.work apply.ensures.work_after apply.ensures.schema_after apply.ensures.out_after _ _
    _ recover.ensures.value recover.ensures.work_after recover.ensures.out_after in
    record {
      value = both.0;
      work_after = both.1.0;
      schema_after = both.1.1.0;
      out_after = both.1.1.1.0;
      recovered_after = both.1.1.1.1;
    }

pub returns-in_err-applied : goal.returns-in_err-applied
returns-in_err-applied c =
    let apply = c.apply in
    let args = c.args in
    let both = trip-refused args.file.now args.node args.instantiation.now args.work.now args.schema.now args.out.now args.recovered.now
    (omega arith) _ _ _ _ (sym c.in_err-applied.was ∙ apply.ensures.value) apply.ensures.work_after apply.ensures.schema_after apply.ensures.out_after in
    let p = err_from_is_err_and c.from_residual.result c.from_residual.ensures.1 in
    rw (p.1, p.2)
    (record {
      value = both.0;
      work_after = both.1.0;
      schema_after = both.1.1.0;
      out_after = both.1.1.1.0;
      recovered_after = both.1.1.1.1;
    })
