use Rattle.std.proofs.lemmas.Result.{err_from_is_err_and}
use Rattle.instantiation_reader.proofs.EntriesResumed.{resumed-start, resumed-byte, resumed-clear, resumed-refused, resumed-appends, resumed-next, resumed-followed, resumed-end}
use Rattle.instantiation.specs.ListsResumed.{list_inside}
use Rattle.bits.specs.Bit.{bit_test}
use borrow.Author.Tests.{eq-eqb, ne_eqb}
use native.Mathlib.Omega.{arith}
use mathlib.Core.Path.{sym, ◌∙◌}
use Rattle.instantiation_reader.proofs.reading.read_lists.Goals as goal

pub loop-s-init : goal.loop-s-init
loop-s-init c = resumed-start _ _ c.requires.in_bounds

pub bounds-bytes-s : goal.bounds-bytes-s
bounds-bytes-s c = let enough = c.requires.in_bounds in omega arith

pub loop-s-preserved-then-rest-eq0 : goal.loop-s-preserved-then-rest-eq0
loop-s-preserved-then-rest-eq0 c = resumed-byte c.loop-s.invariant c.loop-s-test.true c.if-rest-eq0.true

pub slice_bounds-read_list-count : goal.slice_bounds-read_list-count
slice_bounds-read_list-count c = let inside = c.loop-s.invariant.walk.inside in omega arith

pub slice_bounds-read_list-start : goal.slice_bounds-read_list-start
slice_bounds-read_list-start c = let inside = c.loop-s.invariant.walk.inside in omega arith

pub returns-in_err-count : goal.returns-in_err-count
returns-in_err-count c =
    let both = resumed-refused c.loop-s.invariant c.loop-s-test.true
    (sym (bit_test _ _) ∙ eq-eqb _ _ c.if-rest-eq1.true) (sym c.read_list.ensures ∙ c.in_err-count.was) in
    let p = err_from_is_err_and c.from_residual.result c.from_residual.ensures.1 in
    rw (p.1, p.2) (record { value = both.0; gathered_in = both.1 })

pub slice_bounds-append-count : goal.slice_bounds-append-count
slice_bounds-append-count c = let inside = c.loop-s.invariant.walk.inside in omega arith

pub slice_bounds-append-start : goal.slice_bounds-append-start
slice_bounds-append-start c = let inside = c.loop-s.invariant.walk.inside in omega arith

pub append-k-requires : goal.append-k-requires
append-k-requires c =
    resumed-appends c.loop-s.invariant (λ x. omega (arith, c.shared_slice_known-1.given x))
    (sym c.read_list.ensures ∙ c.in_ok-count.was) c.requires.room_for

pub overflow_mul-at : goal.overflow_mul-at
overflow_mul-at c =
    let few = (list_inside c.loop-s.invariant.walk (λ x. omega (arith, c.shared_slice_known-1.given x))
    (sym c.read_list.ensures ∙ c.in_ok-count.was)).0 in
    omega arith

pub overflow_add-at : goal.overflow_add-at
overflow_add-at c =
    let few = (list_inside c.loop-s.invariant.walk (λ x. omega (arith, c.shared_slice_known-1.given x))
    (sym c.read_list.ensures ∙ c.in_ok-count.was)).0 in
    omega arith

pub overflow_add-at-then-rest-eq1 : goal.overflow_add-at-then-rest-eq1
overflow_add-at-then-rest-eq1 c =
    let fits = list_inside c.loop-s.invariant.walk (λ x. omega (arith, c.shared_slice_known-1.given x))
    (sym c.read_list.ensures ∙ c.in_ok-count.was) in
    let few = fits.0 in
    let end = fits.1 in
    omega arith

pub loop-s-preserved-then-rest-eq1 : goal.loop-s-preserved-then-rest-eq1
loop-s-preserved-then-rest-eq1 c =
    resumed-next c.loop-s.invariant (λ x. omega (arith, c.shared_slice_known-1.given x))
    (sym c.read_list.ensures ∙ c.in_ok-count.was) c.loop-s-test.true
    (sym (bit_test _ _) ∙ eq-eqb _ _ c.if-rest-eq1.true) c.append-k.auto.items c.append-k.ensures

pub loop-s-preserved : goal.loop-s-preserved
loop-s-preserved c = resumed-clear c.loop-s.invariant c.loop-s-test.true (sym (bit_test _ _) ∙ ne_eqb _ _ c.if-rest-eq1.false)

pub returns-then-at-bytes : goal.returns-then-at-bytes
returns-then-at-bytes c =
    let both = resumed-followed c.loop-s.invariant c.loop-s-test.false c.if-at-bytes.true in
    record {
      value = both.0;
      gathered_in = both.1;
    }

pub returns : goal.returns
returns c =
    let both = resumed-end c.loop-s.invariant c.loop-s-test.false c.if-at-bytes.false in
    record {
      value = both.0;
      gathered_in = both.1;
    }
