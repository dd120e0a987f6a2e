use Rattle.std.proofs.lemmas.Result.{err_from_is_err_and}
use Rattle.schema.proofs.RecordsResumed.{resumed-start, refused-so, resumed-refused, record-fits, enters, copy-fits, spare-fits, resumed-next, resumed-followed, resumed-over, resumed-end, resumed-fits}
use native.Mathlib.Omega.{arith}
use mathlib.Core.Path.{refl, sym, ◌∙◌}
use Rattle.schema.proofs.reading.read_schema.Goals as goal

pub loop-r-init : goal.loop-r-init
loop-r-init c = (resumed-start _ _ _, refl, refl)

pub slice_bounds-read_record-count : goal.slice_bounds-read_record-count
slice_bounds-read_record-count c =
    let inside = c.loop-r.invariant.0.inside in
    omega arith

pub slice_bounds-read_record-start : goal.slice_bounds-read_record-start
slice_bounds-read_record-start c =
    let inside = c.loop-r.invariant.0.inside in
    omega arith

pub returns-in_err-head : goal.returns-in_err-head
returns-in_err-head c =
    let loop = c.loop-r in
    let refused = resumed-refused loop.invariant.0 (λ x. omega (arith, c.type_inv.bytes x)) c.requires.m_bound c.loop-r-test.true (sym c.read_record.ensures ∙ c.in_err-head.was) in
    let both = refused-so _ _ loop.items _ refused in
    let p = err_from_is_err_and c.from_residual.result c.from_residual.ensures.1 in
    rw (p.1, p.2) (record { value = both.0; entries_stand = both.1; count_in_bounds = tt })

pub overflow_add-at : goal.overflow_add-at
overflow_add-at c =
    let fits = record-fits c.loop-r.invariant.0 (λ x. omega (arith, c.type_inv.bytes x))
    c.requires.m_bound (sym c.read_record.ensures ∙ c.in_ok-head.was) in
    let inside = fits.1 in
    let end = fits.2 in
    omega arith

pub slice_bounds-enter-count : goal.slice_bounds-enter-count
slice_bounds-enter-count c =
    let fits = record-fits c.loop-r.invariant.0 (λ x. omega (arith, c.type_inv.bytes x))
    c.requires.m_bound (sym c.read_record.ensures ∙ c.in_ok-head.was) in
    let inside = fits.1 in
    let end = fits.2 in
    omega arith

pub slice_bounds-enter-start : goal.slice_bounds-enter-start
slice_bounds-enter-start c =
    let fits = record-fits c.loop-r.invariant.0 (λ x. omega (arith, c.type_inv.bytes x))
    c.requires.m_bound (sym c.read_record.ensures ∙ c.in_ok-head.was) in
    let inside = fits.1 in
    let end = fits.2 in
    omega arith

pub enter-count-requires : goal.enter-count-requires
enter-count-requires c =
    let read-record = c.read_record in
    let loop = c.loop-r in
    let shared-slice-known = c.shared_slice_known-1 in
    let pre = c.requires in
    let inv = loop.invariant in
    let fits = copy-fits loop.invariant.0 (λ x. omega (arith, shared-slice-known.given x)) pre.m_bound (sym read-record.ensures ∙ c.in_ok-head.was)
    c.args.items.now pre.room_for.0 in
    let room = spare-fits loop.invariant.0 (λ x. omega (arith, shared-slice-known.given x)) pre.m_bound (sym read-record.ensures ∙ c.in_ok-head.was)
    c.args.spare.now pre.room_for.1 in
    record {
      enters = enters loop.invariant.0 (λ x. omega (arith, shared-slice-known.given x)) pre.m_bound (sym read-record.ensures ∙ c.in_ok-head.was);
      copy_fits = ((λ k less under. let inside = fits k less under in omega arith), omega arith);
    }

pub record_size-at-requires : goal.record_size-at-requires
record_size-at-requires c =
    (record-fits c.loop-r.invariant.0 (λ x. omega (arith, c.type_inv.bytes x))
    c.requires.m_bound (sym c.read_record.ensures ∙ c.in_ok-head.was)).0

pub overflow_add-at-in-loop-r : goal.overflow_add-at-in-loop-r
overflow_add-at-in-loop-r c =
    let fits = record-fits c.loop-r.invariant.0 (λ x. omega (arith, c.type_inv.bytes x))
    c.requires.m_bound (sym c.read_record.ensures ∙ c.in_ok-head.was) in
    let inside = fits.1 in
    let end = fits.2 in
    let size = c.record_size-at.ensures in
    omega arith

pub loop-r-preserved : goal.loop-r-preserved
loop-r-preserved c =
    let enter = c.enter-count in
    let loop = c.loop-r in (
      resumed-next loop.invariant.0 (λ x. omega (arith, c.type_inv.bytes x))
          c.requires.m_bound (sym c.read_record.ensures ∙ c.in_ok-head.was)
          c.loop-r-test.true enter.ensures c.record_size-at.ensures,
      enter.auto.items ∙ loop.invariant.1,
      enter.auto.spare ∙ loop.invariant.2,
    )

pub returns-then-at-bytes : goal.returns-then-at-bytes
returns-then-at-bytes c =
    let refused = resumed-followed c.loop-r.invariant.0 (λ x. omega (arith, c.type_inv.bytes x)) c.requires.m_bound c.loop-r-test.false c.if-at-bytes.true in
    let both = refused-so _ _ c.loop-r.items _ refused in
    record { value = both.0; entries_stand = both.1; count_in_bounds = tt }

pub returns-then-count-gt255 : goal.returns-then-count-gt255
returns-then-count-gt255 c =
    let refused = resumed-over c.loop-r.invariant.0 (λ x. omega (arith, c.type_inv.bytes x)) c.requires.m_bound c.loop-r-test.false c.if-at-bytes.false c.if-count-gt255.true in
    let both = refused-so _ _ c.loop-r.items _ refused in
    record { value = both.0; entries_stand = both.1; count_in_bounds = tt }

pub returns : goal.returns
returns c =
    let pre = c.requires in
    let end = resumed-end c.loop-r.invariant.0 (λ x. omega (arith, c.type_inv.bytes x)) pre.m_bound
    c.loop-r-test.false c.if-at-bytes.false c.if-count-gt255.false in
    let spare = c.loop-r.invariant.2 in
    let room = resumed-fits c.loop-r.invariant.0 (λ x. omega (arith, c.type_inv.bytes x)) pre.m_bound
    c.if-count-gt255.false c.args.spare.now pre.room_for.1 in
    record {
      value = end.0;
      entries_stand = (λ read. end.1);
      count_in_bounds = omega arith;
    }
