-- What the answer of Apply is in numbers, for callers in C (FORMAT 7.18).
use Rattle.std.specs.Prelude.{ℕ, Result, Err, Ok}
use Rattle.refusal.specs.Number.{number_of}
use Rattle.refusal.specs.declared.Refusal.{Refusal}
use Rattle.apply_answer.specs.declared.Application.{Application}
use Rattle.apply_answer.specs.Apply.{Applied}

-- FORMAT 7.18: 0, or the refusal's number
abbrev pub application_number : Result Application Refusal → ℕ
application_number (Ok a) = 0
application_number (Err r) = number_of r

-- FORMAT 7.18: the schema's length; after a refusal what stood there
abbrev pub application_schema : Result Application Refusal → ℕ → ℕ
application_schema (Ok a) old = a.schema
application_schema (Err r) old = old

-- FORMAT 7.18: the output record's length; after a refusal what stood there
abbrev pub application_output : Result Application Refusal → ℕ → ℕ
application_output (Ok a) old = a.output
application_output (Err r) old = old
