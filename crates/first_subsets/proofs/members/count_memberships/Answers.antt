use Prim.Native.Nat.{ℕ, ◌+◌, ◌<◌}
use mathlib.Core.Path.{◌≡◌, sym, ap, ap₂, ◌∙◌}
use native.Mathlib.Omega.{arith}
use borrow.Author.Rules.{rules}
use lib.ListN.{get_or}
use Rattle.bits.specs.Total.{total, total-none, total-next}
use Rattle.types.specs.Memberships.{members, members-ones, ones-most}
use Rattle.verdict_answer.specs.FirstChoice.{memberships-of}
use Rattle.first_subsets.proofs.members.count_memberships.Goals as goal

pub loop-s-init : goal.loop-s-init
loop-s-init c = (omega arith, (omega arith, sym (total-none _)))

pub loop-s-preserved : goal.loop-s-preserved
loop-s-preserved c =
    let s = get_or c.args.subsets.now c.loop-s.s-index 0 in
    let byte : s < 256 = search rules in
    let most = ones-most s byte in
    let below = c.loop-s-test.true in
    let small = c.loop-s.invariant.1.0 in (
      omega arith,
      (omega arith, ap₂ (λ (x y : ℕ). x + y) c.loop-s.invariant.1.1 (members-ones s byte) ∙ sym (total-next _ _)),
    )

pub returns : goal.returns
returns c =
    let args = c.args in
    let most = c.loop-s.invariant.0 in
    let past = c.loop-s-test.false in
    let all : c.loop-s.s-index ≡ 16 = omega arith in
    c.loop-s.invariant.1.1 ∙ ap (λ (i : ℕ). total i (λ j. members (get_or args.subsets.now j 0))) all ∙ sym (memberships-of _)
