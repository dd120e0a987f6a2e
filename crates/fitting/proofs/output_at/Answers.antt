use Rattle.std.specs.Prelude.{ℕ, ◌≡◌, ◌+◌, ◌*◌, ◌-◌, Bool, true, false, cond, eqb, length, take, drop}
use Rattle.std.proofs.Common.{ap, ◌∙◌, arith}
use Rattle.admission.specs.Admission.{formula_size}
use Rattle.column.specs.Column.{output_in}
use Rattle.fitting.specs.StoredFit.{output-lent}
use Rattle.fitting.proofs.output_at.Goals as goal

is_one : (b : Bool) (r : ℕ) → r ≡ cond b 1 0 → eqb r 1 ≡ b
is_one true r is = rw is
is_one false r is = rw is

pub returns : goal.returns
returns c =
    let args = c.args in
    let formula = args.formula.now in
    let size : 1024 ≡ length formula = omega arith in
    let first : args.c * 64 ≡ 0 * formula_size + args.c * 64 = omega arith in
    is_one _ _ c.output_digit.ensures
    ∙ ap (λ (n : ℕ). output_in (take (1024 - n) (drop n formula)) args.s) first
    ∙ ap (λ (n : ℕ). output_in (take (n - (0 * formula_size + args.c * 64)) (drop (0 * formula_size + args.c * 64) formula)) args.s) size
    ∙ output-lent formula 0 args.c args.s (let h = c.ranges.s in omega arith)
