use mathlib.Core.Path.{◌≡◌}
use native.Mathlib.Omega.{arith}
use Rattle.text.specs.Each.{each_none, each_next}
use Rattle.text.specs.Written.{writes-none, writes-as, writes-more}
use Rattle.listing_entries.proofs.entries.write_list.Goals as goal

pub loop-s-init : goal.loop-s-init
loop-s-init c = (omega arith, writes-as (each_none _) (writes-none _ (omega arith)))

pub loop-s-preserved : goal.loop-s-preserved
loop-s-preserved c =
    let most = c.write_entry.ensures.upper_bound in
    let before = c.loop-s.invariant.0 in
    (omega arith, writes-as (each_next _ _) (writes-more c.loop-s.invariant.1 c.write_entry.ensures.wrote))

pub returns-clause-wrote : goal.returns-clause-wrote
returns-clause-wrote c =
    let all : c.loop-s.s ≡ 256 = omega arith in
    writes-more (rw all at c.loop-s.invariant.1) c.write_byte.ensures
