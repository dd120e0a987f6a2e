use native.Mathlib.Omega.{arith}
use mathlib.Core.Path.{refl, sym, ◌∙◌}
use lib.ListN.{replicate}
use lib.Seq.{length-take-le}
use Rattle.query_answer.specs.ParseLaws.{answer-fits}
use Rattle.query_listing.specs.QueryListingLaws.{listed-work, listed-text, listed-refused, listed-file}
use Rattle.query_listing.proofs.write_query_listing.Goals as goal

pub returns-then-work-lt65536 : goal.returns-then-work-lt65536
returns-then-work-lt65536 c =
    let both = listed-work c.args.m c.args.query.now c.args.work.now c.args.text.now (omega arith) in
    record {
      value = both.0;
      text_after = both.1.0;
      work_after = both.1.1;
    }

pub returns-then-text-lt32768 : goal.returns-then-text-lt32768
returns-then-text-lt32768 c =
    let both = listed-text c.args.m c.args.query.now c.args.work.now c.args.text.now (omega arith) (omega arith) in
    record {
      value = both.0;
      text_after = both.1.0;
      work_after = both.1.1;
    }

pub slice_bounds-file-end : goal.slice_bounds-file-end
slice_bounds-file-end c =
    answer-fits _ _ (replicate 322 0) _ _ c.parse_query.ensures.file_after (sym c.parse_query.ensures.value ∙ c.in-Ok.is)

pub slice_bounds-write_listing-end : goal.slice_bounds-write_listing-end
slice_bounds-write_listing-end c =
    sym (length-take-le _ _ (answer-fits _ _ (replicate 322 0) _ _ c.parse_query.ensures.file_after (sym c.parse_query.ensures.value ∙ c.in-Ok.is)))

pub returns-in-Ok : goal.returns-in-Ok
returns-in-Ok c =
    let listing = rw c.parse_query.ensures.file_after at c.write_listing.ensures in
    let both = listed-file _ _ _ _ c.if-work-lt65536.false c.if-text-lt32768.false (replicate 322 0) refl (sym c.parse_query.ensures.value ∙ c.in-Ok.is) listing.value listing.text_after listing.work_after in
    record {
      value = both.0;
      text_after = both.1.0;
      work_after = both.1.1;
    }

pub returns-in-Err : goal.returns-in-Err
returns-in-Err c =
    let both = listed-refused _ _ _ _ c.if-work-lt65536.false c.if-text-lt32768.false (replicate 322 0) refl (sym c.parse_query.ensures.value ∙ c.in-Err.is) c.write_refused.ensures in
    record {
      value = both.0;
      text_after = both.1.0;
      work_after = both.1.1;
    }
