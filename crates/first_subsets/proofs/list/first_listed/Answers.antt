use mathlib.Core.Path.{sym, ◌∙◌}
use native.Mathlib.Omega.{arith}
use Rattle.column.specs.Column.{allowed_in}
use Rattle.first_subsets.specs.SubsetList.{fewest-first, starts-size, search-start, listed_here, listed-later, listed-none}
use Rattle.first_subsets.proofs.list.first_listed.Goals as goal

pub bounds-starts-fewest_members : goal.bounds-starts-fewest_members
bounds-starts-fewest_members c =
    let size = starts-size _ _ c.requires.1 in
    let few = c.fewest_members.ensures.0 in
    omega arith

pub loop-j-init : goal.loop-j-init
loop-j-init c =
    search-start _ _ c.requires.1 (fewest-first _ c.requires.0) (allowed_in c.args.column) _ c.fewest_members.ensures

pub bounds-list-j : goal.bounds-list-j
bounds-list-j c =
    let size = (fewest-first _ c.requires.0).size in
    let below = c.loop-j-test.true in
    omega arith

pub returns-then-allowed_in : goal.returns-then-allowed_in
returns-then-allowed_in c =
    let size = (fewest-first _ c.requires.0).size in
    let below = c.loop-j-test.true in
    sym (listed_here c.args.list.now _ c.loop-j.j (omega arith) (sym c.allowed_in.ensures ∙ c.if-allowed_in.true)) ∙ c.loop-j.invariant.1

pub loop-j-preserved : goal.loop-j-preserved
loop-j-preserved c =
    let size = (fewest-first _ c.requires.0).size in
    let below = c.loop-j-test.true in (
      omega arith,
      sym (listed-later c.args.list.now _ c.loop-j.j (omega arith) (sym c.allowed_in.ensures ∙ c.if-allowed_in.false)) ∙ c.loop-j.invariant.1,
    )

pub returns : goal.returns
returns c =
    let size = (fewest-first _ c.requires.0).size in
    let past = c.loop-j-test.false in
    sym c.loop-j.invariant.1 ∙ listed-none c.args.list.now _ c.loop-j.j (omega arith)
