-- Whether a schema or an instantiation is read (FORMAT 8.4).
use Rattle.refusal.specs.declared.Refusal.{Refusal}

-- read, or the first refusal
pub data Judgement : Type 0 where
  Read : Judgement
  Refused : Refusal → Judgement
