use native.Mathlib.Omega.{arith}
use Rattle.text.specs.Each.{each_none, each_next}
use Rattle.text.specs.Written.{writes-none, writes-as, writes-more}
use Rattle.listing_lines.specs.Lines.{relation_text}
use Rattle.listing_lines.proofs.write_relation_lines.Goals as goal

pub loop-r-init : goal.loop-r-init
loop-r-init c = (omega arith, writes-as (each_none _) (writes-none _ (omega arith)))

pub loop-r-preserved : goal.loop-r-preserved
unfolding relation_text
loop-r-preserved c =
    let most = c.write_list_line.ensures.upper_bound in
    let before = c.loop-r.invariant.0 in
    (omega arith, writes-as (each_next _ _) (writes-more c.loop-r.invariant.1 c.write_list_line.ensures.wrote))
