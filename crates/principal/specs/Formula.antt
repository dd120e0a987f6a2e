-- A formula: which subsets of the relations are allowed in each column, and which put the attribute in the
-- output (FORMAT 3.6, 3.7).
use Rattle.std.specs.Prelude.{ℕ, ◌^◌, ◌≡◌, Bool, true, false, ◌&&◌, ltb}
use Rattle.types.specs.Types.{Attrs, Assignment, column, holders}
use Rattle.states.specs.Formula.{type_variable}

-- FORMAT 3.4, 3.5: the allowed and the output bits, by column and subset
pub record Formula : Type 0 where
  -- FORMAT 3.1: m; subsets are numbers below 2^m
  pub relations : ℕ
  -- column, then subset
  pub allowed : ℕ → ℕ → Bool
  pub output : ℕ → ℕ → Bool

-- FORMAT 3.9: a type variable of a formula is a subset of its relations
abbrev pub is_variable : Formula → ℕ → Bool
is_variable F s = ltb s (2 ^ F.relations) && type_variable (F.allowed 0) s

-- the formula allows each attribute as the assignment has it, and its output is t
pub record Fits (F : Formula) (A : Assignment) (t : Attrs) (a : ℕ) : Type 0 where
  pub allowed : F.allowed (column a) (holders F.relations A a) ≡ true
  pub output : F.output (column a) (holders F.relations A a) ≡ t a

-- an attribute that no relation has is allowed and not in the output
pub record Grounded (F : Formula) : Type 0 where
  pub allowed : F.allowed 0 0 ≡ true
  pub output : F.output 0 0 ≡ false
