use lib.Seq.{length-take-le}
use mathlib.Core.Path.{sym, ◌∙◌}
use Rattle.listing.specs.ListingLaws.{listed-fits}
use Rattle.list_formula.proofs.print_listing.Goals as goal

pub slice_bounds-text-end : goal.slice_bounds-text-end
slice_bounds-text-end g c =
    listed-fits c.args.file.now _ _ _ _
    c.write_listing.ensures.text_after
    (sym c.write_listing.ensures.value ∙ c.in-Ok.is)

pub slice_bounds-write_all-end : goal.slice_bounds-write_all-end
slice_bounds-write_all-end g c =
    let write-listing = c.write_listing in
    sym (length-take-le _ _ (listed-fits c.args.file.now _ _ _ _
    write-listing.ensures.text_after (sym write-listing.ensures.value ∙ c.in-Ok.is)))
