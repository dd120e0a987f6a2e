use Prim.Native.Nat.{◌+◌}
use mathlib.Core.Path.{◌≡◌, sym, ◌∙◌}
use native.Mathlib.Omega.{arith}
use lib.ListN.{get_or}
use Rattle.bits.specs.AllBelow.{not-all}
use Rattle.column.specs.Column.{allowed_in}
use Rattle.stored_formula.specs.ColumnPlace.{column_at}
use Rattle.fitting.specs.StoredFit.{specials_allowed}
use Rattle.fitting.proofs.specials_allowed.Goals as goal

pub returns-then-not-is_allowed : goal.returns-then-not-is_allowed
unfolding specials_allowed
returns-then-not-is_allowed c =
    let args = c.args in
    sym (not-all 15 (λ x. allowed_in (column_at args.formula.now 0 (x + 1)) (get_or args.subsets.now (x + 1) 0)) _
    c.loop-i-test.true (sym c.is_allowed.ensures ∙ c.if-not-is_allowed.true))

pub returns : goal.returns
unfolding specials_allowed
returns c = let all : c.loop-i.i ≡ 15 = omega arith in sym (rw all at c.loop-i.invariant)
