use Rattle.std.proofs.Common.{◌≡◌, Bool, true, false, cond, refl, rules}
use mir.Val.{bool_byte}
use Rattle.membership.specs.Keeping.{kept-next, kept-all}
use Rattle.membership.proofs.list_where.Goals as goal

bool_bit : (b t : Bool) → b ≡ t → bool_byte b ≡ cond t 1 0
bool_bit b t same = rw same (elim t as (λ v. bool_byte v ≡ cond v 1 0) [ true ↦ refl | false ↦ refl ])

pub loop-i-preserved : goal.loop-i-preserved
loop-i-preserved g c = (
  search rules,
  λ test is. kept-next (c.loop-i.invariant.1 test is) c.loop-i-test.true c.requires.in_bounds refl (bool_bit _ _ (is c.loop-i.i c.holds.result c.loop-i-test.true c.holds.ensures)),
)

pub returns : goal.returns
returns g c = λ test is. kept-all (c.loop-i.invariant.1 test is) c.loop-i-test.false c.requires.in_bounds
