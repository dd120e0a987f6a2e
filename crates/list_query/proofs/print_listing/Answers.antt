use mathlib.Core.Path.{sym, ◌∙◌}
use lib.Seq.{length-take-le}
use Rattle.query_listing.specs.QueryListingLaws.{query-listed-fits}
use Rattle.list_query.proofs.print_listing.Goals as goal

pub slice_bounds-text-end : goal.slice_bounds-text-end
slice_bounds-text-end g c =
    query-listed-fits c.args.m c.args.query.now _ _ _ _ c.write_query_listing.ensures.text_after (sym c.write_query_listing.ensures.value ∙ c.in-Ok.is)

pub slice_bounds-write_all-end : goal.slice_bounds-write_all-end
slice_bounds-write_all-end g c =
    sym (length-take-le _ _ (query-listed-fits c.args.m c.args.query.now _ _ _ _ c.write_query_listing.ensures.text_after (sym c.write_query_listing.ensures.value ∙ c.in-Ok.is)))
