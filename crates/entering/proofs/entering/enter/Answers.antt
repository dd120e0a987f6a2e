use Rattle.entering.specs.Entering.{merged-fits}
use Rattle.entering.proofs.entering.enter.Goals as goal

pub copy_entries-requires : goal.copy_entries-requires
copy_entries-requires c =
    let pre = c.requires in
    let marked = c.mark in
    merged-fits c.args.subset pre.enters marked.ensures.unchanged c.merge_into-merged.ensures marked.auto.items pre.copy_fits.0
