-- What the answer of Recover is in numbers, for callers in C (FORMAT 7.18).
use Rattle.std.specs.Prelude.{ℕ, Result, Option, Err}
use Rattle.refusal.specs.Number.{number_of}
use Rattle.refusal.specs.declared.Refusal.{Refusal}
use Rattle.recover_answer.specs.Recover.{Recovered, Untyped}

-- FORMAT 7.18: 0, 255 for untyped, or the refusal's number
abbrev pub recovery_number : Result (Option ℕ) Refusal → ℕ
recovery_number (Recovered size) = 0
recovery_number Untyped = 255
recovery_number (Err r) = number_of r

-- FORMAT 7.18: the instantiation's length; else what stood there
abbrev pub recovery_value : Result (Option ℕ) Refusal → ℕ → ℕ
recovery_value (Recovered size) old = size
recovery_value Untyped old = old
recovery_value (Err r) old = old
