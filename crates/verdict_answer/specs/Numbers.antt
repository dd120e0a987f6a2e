-- What the answers of Verdict and Preview are in numbers, for callers in C (FORMAT 7.18).
use Rattle.std.specs.Prelude.{ℕ, Result, Ok, Err}
use Rattle.refusal.specs.declared.Refusal.{Refusal}
use Rattle.refusal.specs.Number.{number_of}
use Rattle.verdict_answer.specs.declared.Outcome.{Outcome}
use Rattle.verdict_answer.specs.declared.Outcome.TheVariants.{Typable, Untypable}
use Rattle.verdict_answer.specs.declared.Typability.{Typability}
use Rattle.verdict_answer.specs.declared.Typability.TheVariants.{Typable as TypableWith, Untypable as UntypableBy}

-- FORMAT 7.18: 0 for typable, 255 for untypable, or the refusal's number
abbrev pub outcome_number : Result Outcome Refusal → ℕ
outcome_number (Ok (Typable size count)) = 0
outcome_number (Ok (Untypable a)) = 255
outcome_number (Err r) = number_of r

-- FORMAT 7.18: the witness's length, or the attribute; after a refusal what stood there
abbrev pub outcome_value : Result Outcome Refusal → ℕ → ℕ
outcome_value (Ok (Typable size count)) old = size
outcome_value (Ok (Untypable a)) old = a
outcome_value (Err r) old = old

-- FORMAT 7.18: the number of memberships; without a witness what stood there
abbrev pub outcome_memberships : Result Outcome Refusal → ℕ → ℕ
outcome_memberships (Ok (Typable size count)) old = count
outcome_memberships (Ok (Untypable a)) old = old
outcome_memberships (Err r) old = old

-- ---- without a witness

-- FORMAT 7.18: 0 for typable, 255 for untypable, or the refusal's number
abbrev pub typability_number : Result Typability Refusal → ℕ
typability_number (Ok (TypableWith count)) = 0
typability_number (Ok (UntypableBy a)) = 255
typability_number (Err r) = number_of r

-- FORMAT 7.18: the attribute; otherwise what stood there
abbrev pub typability_attribute : Result Typability Refusal → ℕ → ℕ
typability_attribute (Ok (TypableWith count)) old = old
typability_attribute (Ok (UntypableBy a)) old = a
typability_attribute (Err r) old = old

-- FORMAT 7.18: the number of memberships; otherwise what stood there
abbrev pub typability_memberships : Result Typability Refusal → ℕ → ℕ
typability_memberships (Ok (TypableWith count)) old = count
typability_memberships (Ok (UntypableBy a)) old = old
typability_memberships (Err r) old = old
