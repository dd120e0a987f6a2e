use Prim.Native.Nat.{ℕ, ◌+◌}
use mathlib.Core.Path.{◌≡◌, sym, ap, ◌∙◌}
use native.Mathlib.Nat.{add-sub_cancel_left}
use native.Mathlib.Omega.{arith}
use lib.ListN.{take, drop}
use Rattle.record.specs.RecordLaws.{place-fits, record-part}
use Rattle.record.proofs.record.Goals as goal

pub overflow_add-end : goal.overflow_add-end
overflow_add-end c =
    let fits = rw (← c.locate-place.ensures) at (place-fits c.args.file.now c.args.node) in
    omega arith

pub slice_bounds-result-end : goal.slice_bounds-result-end
slice_bounds-result-end c =
    let fits = rw (← c.locate-place.ensures) at (place-fits c.args.file.now c.args.node) in
    omega arith

pub returns : goal.returns
returns c =
    let locate = c.locate-place in
    let args = c.args in
    let place = locate.result in
    let part = rw (← locate.ensures) at (record-part args.file.now args.node) in
    record {
      result_value = ap (λ (n : ℕ). take n (drop place.start args.file.now)) (add-sub_cancel_left _ place.len)
          ∙ sym part;
      ref_ptr_value = let far : place.start + args.file.ref_ptr.1 ≡ args.file.ref_ptr.1 + place.start = omega arith in
          rw (← locate.ensures) (ap (λ (offset : ℕ). (args.file.ref_ptr.0, offset)) far);
    }
