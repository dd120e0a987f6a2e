use native.Mathlib.Omega.{arith}
use Rattle.query_language.specs.Steps.{sign-union, sign-difference, sign-join, sign-product, sign-none}
use Rattle.query_prefixes.specs.AnswerLaws.{sign-found, sign-none as no_sign}
use Rattle.query_prefixes.proofs.signs.sign_at.Goals as goal

pub returns-in-43 : goal.returns-in-43
returns-in-43 c = sign-found (sign-union _ _ _ c.byte_at.ensures c.in-43.is)

pub returns-in-45 : goal.returns-in-45
returns-in-45 c = sign-found (sign-difference _ _ _ c.byte_at.ensures c.in-45.is)

pub returns-in-42 : goal.returns-in-42
returns-in-42 c = sign-found (sign-join _ _ _ c.byte_at.ensures c.in-42.is)

pub returns-in-35 : goal.returns-in-35
returns-in-35 c = sign-found (sign-product _ _ _ c.byte_at.ensures c.in-35.is)

pub returns-in_default : goal.returns-in_default
returns-in_default c =
    no_sign (sign-none _ _ _ c.byte_at.ensures (λ e. omega arith) (λ e. omega arith) (λ e. omega arith) (λ e. omega arith))
