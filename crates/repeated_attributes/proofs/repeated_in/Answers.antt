use Rattle.repeated_attributes.proofs.MarkedLists.{repeats-start, repeats-clear, repeats-refused, repeats-next, repeats-end}
use Rattle.instantiation.specs.ListsResumed.{list_inside, list-fits}
use native.Mathlib.Omega.{arith}
use mathlib.Core.Path.{refl, sym, ◌∙◌}
use Rattle.repeated_attributes.proofs.repeated_in.Goals as goal
use Rattle.repeated_attributes.proofs.repeated_in.Goals.{then-is_standing+in-Ok, else-is_standing}

pub loop-s-init : goal.loop-s-init
loop-s-init c = repeats-start _ c.requires

pub returns-in-Err : goal.returns-in-Err
returns-in-Err c =
    repeats-refused c.loop-s.invariant c.loop-s-test.true
    (sym c.is_standing.ensures ∙ c.if-is_standing.true) (sym c.read_list.ensures ∙ c.in-Err.is)

pub mark-again-requires : goal.mark-again-requires
mark-again-requires c =
    let read-list = c.read_list in
    let loop = c.loop-s in
    let shared-slice-known = c.shared_slice_known-1 in
    let fits = list_inside loop.invariant.walk (λ x. omega (arith, shared-slice-known.given x)) (sym read-list.ensures ∙ c.in-Ok.is) in
    record {
      count_bound = (fits.0, loop.invariant.size);
      list_fits = list-fits loop.invariant.walk (λ x. omega (arith, shared-slice-known.given x)) (sym read-list.ensures ∙ c.in-Ok.is);
    }

pub overflow_mul-at : goal.overflow_mul-at
overflow_mul-at c =
    let few = (list_inside c.loop-s.invariant.walk (λ x. omega (arith, c.type_inv.bytes x))
    (sym c.read_list.ensures ∙ c.in-Ok.is)).0 in
    omega arith

pub overflow_add-at : goal.overflow_add-at
overflow_add-at c =
    let few = (list_inside c.loop-s.invariant.walk (λ x. omega (arith, c.type_inv.bytes x))
    (sym c.read_list.ensures ∙ c.in-Ok.is)).0 in
    omega arith

pub overflow_add-at-in-Ok : goal.overflow_add-at-in-Ok
overflow_add-at-in-Ok c =
    let fits = list_inside c.loop-s.invariant.walk (λ x. omega (arith, c.type_inv.bytes x))
    (sym c.read_list.ensures ∙ c.in-Ok.is) in
    let few = fits.0 in
    let end = fits.1 in
    omega arith

pub loop-s-preserved : goal.loop-s-preserved
loop-s-preserved c =
    elim c.if-is_standing.branch [
      | then-is_standing+in-Ok w ↦
          rw (w.seen-is, w.repeated-is, w.at-is)
          (repeats-next c.loop-s.invariant (λ x. omega (arith, c.type_inv.bytes x))
          (sym w.read_list.ensures ∙ w.in-Ok.is) c.loop-s-test.true
          (sym c.is_standing.ensures ∙ w.if-is_standing.true) w.mark-again.ensures.value w.mark-again.ensures.marked refl)
      | else-is_standing w ↦
          rw (w.seen-is, w.repeated-is, w.at-is)
          (repeats-clear c.loop-s.invariant c.loop-s-test.true (sym c.is_standing.ensures ∙ w.if-is_standing.false))
    ]

pub returns : goal.returns
returns c = repeats-end c.loop-s.invariant c.loop-s-test.false
