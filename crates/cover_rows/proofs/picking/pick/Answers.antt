use mathlib.Core.Path.{◌≡◌, sym, ◌∙◌}
use native.Mathlib.Omega.{arith}
use borrow.Author.Tests.{eq-eqb, ne_eqb}
use Rattle.bits.specs.Lowest.{search-found, search-next, search-ended}
use Rattle.cover_rows.proofs.picking.pick.Invariants.{test}
use Rattle.cover_rows.proofs.picking.pick.Goals as goal

pub returns-then-price-target : goal.returns-then-price-target
returns-then-price-target c =
    let args = c.args in
    search-found args.count _ _ (test args.column.now args.next.now args.need args.target) c.loop-s.invariant.1
    c.loop-s-test.true (eq-eqb _ _ (sym c.price.ensures ∙ c.if-price-target.true))

pub loop-s-preserved : goal.loop-s-preserved
loop-s-preserved c =
    let args = c.args in (
      omega arith,
      search-next args.count _ _ (test args.column.now args.next.now args.need args.target) c.loop-s.invariant.1
          c.loop-s-test.true (ne_eqb _ _ (λ e. c.if-price-target.false (c.price.ensures ∙ e))),
    )

pub returns : goal.returns
returns c =
    let args = c.args in
    let past = c.loop-s-test.false in
    let most = c.loop-s.invariant.0 in
    let all : c.loop-s.s ≡ args.count = omega arith in
    sym all ∙ search-ended args.count _ _ (test args.column.now args.next.now args.need args.target) c.loop-s.invariant.1 c.loop-s-test.false
