use mathlib.Core.Path.{◌≡◌, ap, ◌∙◌}
use Prim.Native.Nat.{ℕ, ◌*◌, ◌-◌, ◌^◌, ◌%◌}
use native.Mathlib.Omega.{arith}
use Rattle.bits.specs.Bit.{shifted_one}
use Rattle.column.specs.TableLaws.{none_left, eight-left, some_left}
use Rattle.column.proofs.tables.subset_byte.Goals as goal

pub returns-then-j-whole : goal.returns-then-j-whole
returns-then-j-whole c = eight-left _ _ (let below = c.if-j-whole.true in omega arith)

pub returns-then-j-whole-2 : goal.returns-then-j-whole-2
returns-then-j-whole-2 c =
    let args = c.args in
    let here = c.if-j-whole-2.true in
    let left : args.count % 8 ≡ args.count - args.j * 8 = omega arith in
    ap (λ (p : ℕ). p - 1) (shifted_one 8 _ (omega arith) ∙ ap (λ (n : ℕ). 2 ^ n) left)
    ∙ some_left _ _ (omega arith)

pub returns : goal.returns
returns c =
    let other = c.if-j-whole-2.false in
    let above = c.if-j-whole.false in
    none_left _ _ (omega arith)
