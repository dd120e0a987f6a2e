use Rattle.entering.specs.Merging.{bounds, merge-appended, merge-all}
use native.Mathlib.Nat.{le_refl}
use native.Mathlib.Omega.{arith}
use Rattle.entering.proofs.merging.merge_into.Goals as goal

pub append_listed-end-requires : goal.append_listed-end-requires
append_listed-end-requires c =
    let pre = c.requires in
    let b = bounds c.args.subset pre.enters c.merge-merged.ensures.merge in
    let listed = b.0 in
    let up_to = b.1 in
    let fewer = b.2 in
    let size = b.3 in
    record {
      list_fits = (pre.enters.fits, listed);
      count_bound = (pre.enters.few, omega arith);
    }

pub returns : goal.returns
returns c =
    let merge = c.merge-merged in
    let pre = c.requires in
    let appended = merge-appended c.args.subset pre.enters merge.ensures.merge merge.ensures.fact c.append_listed-end.ensures in
    merge-all c.args.subset pre.enters appended (le_refl _) pre.in_bounds c.copy_run.ensures
