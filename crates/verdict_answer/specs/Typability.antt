-- The verdict without its witness (FORMAT 7.28), and how code finds it.
use Rattle.std.specs.Prelude.{Bool, true, false, Result, Ok, Err}
use Rattle.verdict_answer.specs.declared.Outcome.{Outcome}
use Rattle.verdict_answer.specs.declared.Outcome.TheVariants.{Typable as TypableBy, Untypable as UntypableBy}
use Rattle.verdict_answer.specs.declared.Typability.{Typability}
use Rattle.verdict_answer.specs.declared.Typability.TheVariants.{Typable, Untypable}
use Rattle.refusal.specs.declared.Refusal.{Refusal}

-- FORMAT 7.28: what is left of Verdict's answer
abbrev pub without_witness : Outcome → Typability
without_witness (TypableBy size count) = Typable count
without_witness (UntypableBy a) = Untypable a

-- the same of the answer
abbrev pub answer_without_witness : Result Outcome Refusal → Result Typability Refusal
answer_without_witness (Ok o) = Ok (without_witness o)
answer_without_witness (Err r) = Err r

-- whether untypable is said
abbrev pub says_untypable : Typability → Bool
says_untypable (Typable count) = false
says_untypable (Untypable a) = true
