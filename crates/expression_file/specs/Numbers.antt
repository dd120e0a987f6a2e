-- What an acceptance is in numbers, for callers in C (FORMAT 7.18).
use Rattle.std.specs.Prelude.{ℕ, Result, Err, Ok}
use Rattle.refusal.specs.Number.{number_of}
use Rattle.refusal.specs.declared.Refusal.{Refusal}
use Rattle.expression_file.specs.declared.files.Header.{Header}
use Rattle.expression_file.specs.ReadFile.{Accepted}

-- FORMAT 7.18: 0, or the refusal's number
abbrev pub acceptance_number : Result Header Refusal → ℕ
acceptance_number (Ok h) = 0
acceptance_number (Err r) = number_of r

-- FORMAT 7.18: m of an accepted file; else what stood there
abbrev pub relations_or : Result Header Refusal → ℕ → ℕ
relations_or (Ok h) old = h.relations
relations_or (Err r) old = old

-- FORMAT 7.18: n of an accepted file; else what stood there
abbrev pub nodes_or : Result Header Refusal → ℕ → ℕ
nodes_or (Ok h) old = h.nodes
nodes_or (Err r) old = old
