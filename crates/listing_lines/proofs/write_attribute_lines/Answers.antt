use mathlib.Core.Path.{◌≡◌}
use native.Mathlib.Omega.{arith}
use Rattle.text.specs.Each.{each_none, each_next}
use Rattle.text.specs.Written.{writes-none, writes-as, writes-more}
use Rattle.listing_lines.specs.Lines.{attribute_text, attributes_text}
use Rattle.listing_lines.proofs.write_attribute_lines.Goals as goal

pub loop-j-init : goal.loop-j-init
loop-j-init c = (omega arith, writes-as (each_none (λ j. attribute_text _ _ _ _)) (writes-none _ (omega arith)))

pub loop-j-preserved : goal.loop-j-preserved
loop-j-preserved c =
    let most = c.write_attribute_line.ensures.upper_bound in
    let before = c.loop-j.invariant.0 in
    (omega arith, writes-as (each_next _ (λ j. attribute_text _ _ _ _)) (writes-more c.loop-j.invariant.1 c.write_attribute_line.ensures.wrote))

pub returns-clause-wrote : goal.returns-clause-wrote
unfolding attributes_text
returns-clause-wrote c = let all : c.loop-j.j ≡ 15 = omega arith in rw all at c.loop-j.invariant.1
