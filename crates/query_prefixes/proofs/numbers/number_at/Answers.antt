use mathlib.Core.Path.{sym, ◌∙◌}
use native.Mathlib.Omega.{arith}
use Rattle.query_language.specs.NumberLaws.{digit-range}
use Rattle.query_language.specs.Steps.{digit-none, digit-zero, digits-two, digits-one}
use Rattle.query_prefixes.specs.AnswerLaws.{number-found, number-none}
use Rattle.query_prefixes.proofs.numbers.number_at.Goals as goal

pub returns-then-not-is_digit : goal.returns-then-not-is_digit
returns-then-not-is_digit c = number-none (digit-none _ _ _ c.byte_at-b.ensures (sym c.is_digit.ensures ∙ c.if-not-is_digit.true))

pub overflow_sub-value : goal.overflow_sub-value
overflow_sub-value c =
    let range = digit-range _ (sym c.is_digit.ensures ∙ c.if-not-is_digit.false) in
    omega arith

pub returns-then-b-eq48 : goal.returns-then-b-eq48
returns-then-b-eq48 c =
    rw c.if-b-eq48.true (number-found (digit-zero _ _ _ c.byte_at-b.ensures c.if-b-eq48.true))

pub overflow_mul-result : goal.overflow_mul-result
overflow_mul-result c =
    let range = digit-range _ (sym c.is_digit.ensures ∙ c.if-not-is_digit.false) in
    omega arith

pub overflow_sub-result : goal.overflow_sub-result
overflow_sub-result c =
    let other = digit-range _ (sym c.is_digit-2.ensures ∙ c.if-is_digit.true) in
    omega arith

pub overflow_add-result-then-is_digit : goal.overflow_add-result-then-is_digit
overflow_add-result-then-is_digit c =
    let range = digit-range _ (sym c.is_digit.ensures ∙ c.if-not-is_digit.false) in
    let other = digit-range _ (sym c.is_digit-2.ensures ∙ c.if-is_digit.true) in
    omega arith

pub returns-then-is_digit : goal.returns-then-is_digit
returns-then-is_digit c =
    number-found (digits-two _ _ _ c.byte_at-b.ensures _ c.byte_at-c.ensures (sym c.is_digit.ensures ∙ c.if-not-is_digit.false) c.if-b-eq48.false (sym c.is_digit-2.ensures ∙ c.if-is_digit.true))

pub returns : goal.returns
returns c =
    number-found (digits-one _ _ _ c.byte_at-b.ensures _ c.byte_at-c.ensures (sym c.is_digit.ensures ∙ c.if-not-is_digit.false) c.if-b-eq48.false (sym c.is_digit-2.ensures ∙ c.if-is_digit.false))
