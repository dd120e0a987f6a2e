-- Types, assignments and formulas over any coded kinds: a formula says which states of the relations are allowed in
-- each column, and what the output then has.
use Rattle.std.specs.Prelude.{ℕ, ◌^◌, ◌≤◌, ◌<◌, ◌≡◌, Bool, true, ◌&&◌, T, ltb}
use Rattle.types.specs.Types.{column}
use Rattle.algebra.specs.Cell.{Kinds}
use Rattle.states.specs.Coded.{Coded, state_of}

-- what a relation or a result has of each attribute
abbrev pub TypeOver : Kinds → Type 0
TypeOver K = ℕ → K.Value

-- from some attribute on it lacks all
unfoldable pub Finite : (K : Kinds) → TypeOver K → Type 0
Finite K t = ∥ ((bound : ℕ) × ((a : ℕ) → bound ≤ a → t a ≡ K.none)) ∥₁

-- a type: from some attribute on it lacks all, and it lacks 0
pub record IsType (K : Kinds) (t : TypeOver K) : Type 0 where
  pub positive : t 0 ≡ K.none
  pub finite : Finite K t

-- what each relation has of each attribute
abbrev pub AssignmentOver : Kinds → Type 0
AssignmentOver K = ℕ → TypeOver K

-- each of the m relations has a type
abbrev pub IsAssignment : (K : Kinds) → ℕ → AssignmentOver K → Type 0
IsAssignment K m A = (r : ℕ) → r < m → IsType K (A r)

-- every relation has an attribute (request 4)
abbrev pub Filled : (K : Kinds) → ℕ → AssignmentOver K → Type 0
Filled K m A = (r : ℕ) → r < m → ∥ ((a : ℕ) × T (K.has (A r a))) ∥₁

-- which states of the relations each column allows, and what the result then has
pub record Formula (K : Kinds) : Type 0 where
  -- m
  pub relations : ℕ
  -- column, then state
  pub allowed : ℕ → ℕ → Bool
  pub output : ℕ → ℕ → K.Value

-- the state of an attribute under an assignment
abbrev pub holders : {K : Kinds} → Coded K → ℕ → AssignmentOver K → ℕ → ℕ
holders C m A a = state_of C m (λ r. A r a)

-- FORMAT 3.9: a number above 0 that column 0 allows
abbrev pub type_variable : (ℕ → Bool) → ℕ → Bool
type_variable allowed s = ltb 0 s && allowed s

-- a type variable of a formula is a state of its relations
abbrev pub is_variable : {K : Kinds} → Coded K → Formula K → ℕ → Bool
is_variable C F s = ltb s (C.base ^ F.relations) && type_variable (F.allowed 0) s

-- the formula allows each attribute as the assignment has it, and its output is t
pub record Fits {K : Kinds} (C : Coded K) (F : Formula K) (A : AssignmentOver K) (t : TypeOver K) (a : ℕ) : Type 0 where
  pub allowed : F.allowed (column a) (holders C F.relations A a) ≡ true
  pub output : F.output (column a) (holders C F.relations A a) ≡ t a

-- an attribute that no relation has is allowed and not in the output
pub record Grounded {K : Kinds} (F : Formula K) : Type 0 where
  pub allowed : F.allowed 0 0 ≡ true
  pub output : F.output 0 0 ≡ K.none
