-- What the answer of Edit is in numbers, for callers in C (FORMAT 7.18).
use Rattle.std.specs.Prelude.{ℕ, Result, Ok, Err}
use Rattle.refusal.specs.Number.{number_of}
use Rattle.refusal.specs.declared.Refusal.{Refusal}

-- FORMAT 7.18: 0, or the refusal's number
abbrev pub editing_number : Result ℕ Refusal → ℕ
editing_number (Ok size) = 0
editing_number (Err r) = number_of r

-- FORMAT 7.18: the edited file's length; else what stood there
abbrev pub editing_size : Result ℕ Refusal → ℕ → ℕ
editing_size (Ok size) old = size
editing_size (Err r) old = old
