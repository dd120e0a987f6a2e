use Rattle.std.proofs.Common.{◌≡◌, ℕ, List, refl, ap, sym, ◌∙◌, arith}
use Rattle.column.specs.Column.{allowed_in}
use Rattle.verdict_answer.specs.First.{fewest_in}
use Rattle.verdict_answer.specs.FirstLaws.{choose-first, choose-next, choose-blocked, choose-ended}
use Rattle.first_subsets.proofs.first_in_columns.Goals as goal

pub loop-i-init : goal.loop-i-init
loop-i-init c = choose-first _

pub loop-i-preserved : goal.loop-i-preserved
loop-i-preserved c =
    choose-next _ _ _ c.loop-i.invariant _ c.loop-i-test.true
    (c.in-Some.ensures ∙ ap (λ (l : List ℕ). fewest_in (allowed_in l)) c.column_of.ensures) (λ e. omega arith)

pub returns-in_default : goal.returns-in_default
returns-in_default c =
    let none : fewest_in (allowed_in c.column_of.result) ≡ 256 = c.in_default.ensures in
    let found = sym none ∙ ap (λ (l : List ℕ). fewest_in (allowed_in l)) c.column_of.ensures in
    let is = choose-blocked _ _ _ c.loop-i.invariant _ c.loop-i-test.true found refl in
    (c.loop-i-test.true, is)

pub returns : goal.returns
returns c =
    let all : c.loop-i.i ≡ 16 = omega arith in
    rw all at (choose-ended _ _ _ c.loop-i.invariant c.loop-i-test.false)
