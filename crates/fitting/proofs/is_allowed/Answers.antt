use Rattle.std.specs.Prelude.{ℕ, ◌≡◌, ◌+◌, ◌*◌, ◌-◌, length, take, drop}
use Rattle.std.proofs.Common.{ap, ◌∙◌, arith}
use Rattle.admission.specs.Admission.{formula_size}
use Rattle.column.specs.Column.{allowed_in}
use Rattle.fitting.specs.StoredFit.{allowed-lent}
use Rattle.fitting.proofs.is_allowed.Goals as goal

pub returns : goal.returns
returns c =
    let args = c.args in
    let formula = args.formula.now in
    let size : 1024 ≡ length formula = omega arith in
    let first : args.c * 64 ≡ 0 * formula_size + args.c * 64 = omega arith in
    c.allowed_in.ensures
    ∙ ap (λ (n : ℕ). allowed_in (take (1024 - n) (drop n formula)) args.s) first
    ∙ ap (λ (n : ℕ). allowed_in (take (n - (0 * formula_size + args.c * 64)) (drop (0 * formula_size + args.c * 64) formula)) args.s) size
    ∙ allowed-lent formula 0 args.c args.s (let h = c.ranges.s in omega arith)
