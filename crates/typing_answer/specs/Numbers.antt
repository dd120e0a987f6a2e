-- What Typing's answer is in numbers, for callers in C (FORMAT 7.18).
use Rattle.std.specs.Prelude.{ℕ, Result, Option, Err}
use Rattle.refusal.specs.Number.{number_of}
use Rattle.refusal.specs.declared.Refusal.{Refusal}
use Rattle.typing_answer.specs.Typing.{Typed, Untyped}

-- FORMAT 7.18: 0 for typed, 255 for untyped, or the refusal's number
abbrev pub answer_number : Result (Option ℕ) Refusal → ℕ
answer_number (Typed size) = 0
answer_number Untyped = 255
answer_number (Err r) = number_of r

-- FORMAT 7.18: the output record's length; else what stood there
abbrev pub answer_value : Result (Option ℕ) Refusal → ℕ → ℕ
answer_value (Typed size) old = size
answer_value Untyped old = old
answer_value (Err r) old = old
