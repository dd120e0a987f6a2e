use mathlib.Core.Path.{◌≡◌, ap, ◌∙◌}
use native.Mathlib.Omega.{arith}
use Rattle.std.specs.Prelude.{ℕ, ◌+◌, ◌%◌, [], ◌∷◌}
use Rattle.text.specs.Written.{writes-as, writes-more, writes-from}
use Rattle.text.specs.CharacterLaws.{decimal-low, decimal-high}
use Rattle.text.proofs.Writer.write_decimal.Goals as goal
use Rattle.text.proofs.Writer.write_decimal.Goals.{then-n-ge10, else-n-ge10}

pub returns-clause-wrote : goal.returns-clause-wrote
returns-clause-wrote c =
    let n = c.args.n in
    elim c.if-n-ge10.branch [
      | then-n-ge10 w ↦ writes-as (decimal-high n w.if-n-ge10.true) (writes-more w.write_byte.ensures (writes-from w.self-is c.write_byte-2.ensures))
      | else-n-ge10 w ↦
          let digit : n % 10 ≡ n = omega arith in
          writes-as (ap (λ (d : ℕ). (48 + d) ∷ []) digit ∙ decimal-low n w.if-n-ge10.false) (writes-from w.self-is c.write_byte-2.ensures)
    ]
