use Rattle.std.proofs.Common.{◌≡◌, ℕ, Bool, true, false, sym, arith}
use Rattle.std.specs.Prelude.{MatchBool}
use Rattle.std.specs.Char.{IsAsciiDigit, IsNotAsciiDigit}
use Rattle.bits.specs.Booleans.{is_false}
use Rattle.query_language.specs.Parse.{is_digit}
use Rattle.query_language.specs.NumberLaws.{digit-range, range-digit}
use Rattle.query_prefixes.proofs.numbers.is_digit.Goals as goal

told : (b : ℕ) (t : Bool) → MatchBool t (IsAsciiDigit b) (IsNotAsciiDigit b) → t ≡ is_digit b
told b true h = sym (range-digit b (omega arith) (omega arith))
told b false h = sym (is_false (is_digit b) (λ e. let range = digit-range b e in omega arith))

pub returns : goal.returns
returns c = told _ c.is_ascii_digit.result c.is_ascii_digit.ensures.cases
