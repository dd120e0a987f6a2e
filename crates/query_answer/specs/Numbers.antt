-- What the answer of parsing a query is in numbers, for callers in C (FORMAT 7.18).
use Rattle.std.specs.Prelude.{ℕ, Result, Ok, Err}
use Rattle.refusal.specs.Number.{number_of}
use Rattle.refusal.specs.declared.Refusal.{Refusal}

-- FORMAT 7.18: 0, or the refusal's number
abbrev pub parsing_number : Result ℕ Refusal → ℕ
parsing_number (Ok size) = 0
parsing_number (Err r) = number_of r

-- FORMAT 7.18: the file's length; else what stood there
abbrev pub parsing_size : Result ℕ Refusal → ℕ → ℕ
parsing_size (Ok size) old = size
parsing_size (Err r) old = old
