-- Plain formulas and instantiations as those of base 2: a subset is the state in which its relations have an attribute.
use Rattle.std.specs.Prelude.{ℕ, ◌<◌, ◌^◌, ◌≡◌, Bool, true, false, ◌↔◌, T}
use Rattle.std.proofs.Common.{sym, ◌∙◌}
use mathlib.Core.Logic.Iff
use Rattle.bits.specs.Bit.{bit}
use Rattle.bits.specs.Truth.{is_true, by-true}
use Rattle.types.specs.Types.{Attrs, Assignment, IsAssignment, column, holders}
use Rattle.types.specs.Laws.{finite-bound, holders-packed}
use Rattle.algebra.specs.Cell.{plain}
use Rattle.states.specs.Coded.{plain_code, plain_value, plain-state}
use Rattle.states.specs.Formula.{Formula as StateFormula, IsAssignment as IsStateAssignment, Fits as StateFits, holders as state_holders}
use Rattle.states.specs.Instantiation.{Instantiation as StateInstantiation}
use Rattle.states.specs.States.{Variable, bound-finite, holders-is as state-holders-is, holders-none as state-holders-none, variable as state-variable, fits-at as state-fits-at}
use Rattle.principal.specs.Formula.{Formula, Fits, is_variable}
use Rattle.principal.specs.Instantiation.{Instantiation}

-- a plain formula as one of base 2
abbrev pub states_formula : Formula → StateFormula plain
states_formula F = record { relations = F.relations; allowed = F.allowed; output = F.output }

-- ---- assignments, and what fits

pub types_are : (m : ℕ) (A : Assignment) → IsAssignment m A → IsStateAssignment plain m A
types_are m A types r below = record { positive = (types r below).positive; finite = bound-finite plain (finite-bound (types r below).finite) }

holders-are : (m : ℕ) (A : Assignment) (a : ℕ) → state_holders plain_code m A a ≡ holders m A a
holders-are m A a = plain-state m (λ r. A r a) ∙ sym (holders-packed m A a)

pub holders-is : (m : ℕ) (A : Assignment) (a s : ℕ) → s < 2 ^ m → ((r : ℕ) → r < m → A r a ≡ bit s r) → holders m A a ≡ s
holders-is m A a s h e = sym (holders-are m A a) ∙ state-holders-is plain_code m A a s h (λ r below. e r below ∙ sym (plain_value s r))

pub holders-none : (m : ℕ) (A : Assignment) (a : ℕ) → ((r : ℕ) → r < m → A r a ≡ false) → holders m A a ≡ 0
holders-none m A a e = sym (holders-are m A a) ∙ state-holders-none plain_code m A a e

pub fits-is : (F : Formula) (A : Assignment) (t : Attrs) (a : ℕ) → StateFits plain_code (states_formula F) A t a ↔ Fits F A t a
fits-is F A t a = (
  (λ fits. record { allowed = rw (holders-are F.relations A a) at fits.allowed; output = rw (holders-are F.relations A a) at fits.output }),
  (λ fits. record { allowed = rw (holders-are F.relations A a) fits.allowed; output = rw (holders-are F.relations A a) fits.output }),
)

-- what fitting says of an attribute, with its column and its holders
pub fits-at : (F : Formula) (A : Assignment) (t : Attrs) (a c s : ℕ) → column a ≡ c → holders F.relations A a ≡ s → Fits F A t a ↔ (F.allowed c s ≡ true) × (F.output c s ≡ t a)
fits-at F A t a c s ec es = Iff.trans (Iff.symm (fits-is F A t a)) (state-fits-at plain_code (states_formula F) A t a c s ec (holders-are F.relations A a ∙ es))

-- a type variable: not empty, a subset of the relations, allowed in column 0
pub variable : (F : Formula) (s : ℕ) → T (is_variable F s) ↔ Variable plain_code (states_formula F) s
variable F s = state-variable plain_code (states_formula F) s

-- ---- instantiations are the same

-- an instantiation as one of base 2
abbrev pub to_states : {F : Formula} → Instantiation F → StateInstantiation plain_code (states_formula F)
to_states I = record { state = I.subset; below = I.below; allowed = I.allowed; list = I.list; ordinaries = I.ordinaries; finite = I.finite; disjoint = I.disjoint }

-- and back
abbrev pub from_states : {F : Formula} → StateInstantiation plain_code (states_formula F) → Instantiation F
from_states I = record { subset = I.state; below = I.below; allowed = I.allowed; list = I.list; ordinaries = I.ordinaries; finite = I.finite; disjoint = I.disjoint }

-- ---- images and outputs

pub test-true : (b : Bool) → T b ↔ (b ≡ true)
test-true b = (is_true b, by-true)
