-- For any coded kinds: the instantiations of a formula by states are the assignments that fit it, each once; and with
-- the cells of an expression, those in which no attribute breaks a rule.
use Rattle.std.specs.Prelude.{ℕ, ◌<◌, ◌^◌, ◌≡◌, true, cond}
use Rattle.types.specs.Types.{column}
use Rattle.algebra.specs.Expression.{Expression}
use Rattle.algebra.specs.Cell.{Kinds, out, ok}
use Rattle.states.specs.Coded.{Coded, value_at}
use Rattle.states.specs.Formula.{TypeOver, AssignmentOver, Formula}
use Rattle.states.specs.Instantiation.{Instantiation, HasImage, HasOutput}

-- F is the formula of e: at each column and each state of its relations it allows what breaks no rule in e, and its
-- output is what the result has
pub record FormulaOf {K : Kinds} (C : Coded K) (e : Expression) (F : Formula K) : Type 0 where
  pub allowed : (c s : ℕ) → c < 16 → s < C.base ^ F.relations → F.allowed c s ≡ ok K e c (value_at C s)
  pub output : (c s : ℕ) → c < 16 → s < C.base ^ F.relations → F.output c s ≡ cond (ok K e c (value_at C s)) (out K e c (value_at C s)) K.none

-- attribute a breaks no rule in e, and its result is as in t
pub record CellOf (K : Kinds) (A : AssignmentOver K) (e : Expression) (t : TypeOver K) (a : ℕ) : Type 0 where
  pub allowed : ok K e (column a) (λ r. A r a) ≡ true
  pub output : out K e (column a) (λ r. A r a) ≡ t a

-- just one instantiation has A as image and t as output
pub record JustOne {K : Kinds} (C : Coded K) (F : Formula K) (A : AssignmentOver K) (t : TypeOver K) : Type 0 where
  pub instantiation : Instantiation C F
  pub image : HasImage instantiation A
  pub output : HasOutput instantiation t
  pub only : (J : Instantiation C F) → HasImage J A → HasOutput J t → J ≡ instantiation
