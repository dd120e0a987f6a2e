use Prim.Native.Nat.{ℕ, ◌+◌, ◌-◌}
use mathlib.Core.Path.{sym, ap₂, ◌∙◌}
use native.Mathlib.Omega.{arith}
use lib.Bits.{bit_and, and_le_l}
use lib.ListN.{get_or}
use Rattle.types.specs.Memberships.{members-ones, ones-most}
use Rattle.set_cover.specs.Remainder.{rest-and}
use Rattle.cover_rows.specs.Rows.{price-allowed, price-forbidden}
use Rattle.cover_rows.proofs.picking.price.Goals as goal

pub overflow_add-result : goal.overflow_add-result
overflow_add-result c =
    let args = c.args in
    let few = ones-most args.s (omega arith) in
    let most = c.requires.1 (bit_and args.need (255 - args.s)) (and_le_l args.need (255 - args.s)) in
    omega arith

pub returns-then-allowed_in : goal.returns-then-allowed_in
returns-then-allowed_in c =
    let args = c.args in
    ap₂ (λ (n x : ℕ). n + get_or args.next.now x 0) (members-ones args.s (omega arith)) (sym (rest-and args.need args.s))
    ∙ sym (price-allowed args.column.now args.next.now args.need args.s (sym c.allowed_in.ensures ∙ c.if-allowed_in.true))

pub returns-else-allowed_in : goal.returns-else-allowed_in
returns-else-allowed_in c = sym (price-forbidden _ _ _ _ (sym c.allowed_in.ensures ∙ c.if-allowed_in.false))
