-- Attributes, types and assignments (FORMAT 2.1 to 2.3).
use Rattle.std.specs.Prelude.{ℕ, ◌≤◌, ◌<◌, ◌≡◌, Bool, true, false, cond, not, ◌&&◌, ◌||◌, T, eqb, leb}
use Rattle.bits.specs.Pack.{pack}
use Rattle.attribute_set.specs.AttrSet.{special}

infixl 60 ◌∪◌
infix 50 ◌⊆◌
-- a set of attributes, by its members
abbrev pub Attrs : Type 0
Attrs = ℕ → Bool

-- FORMAT 2.1: the attributes from 16 up
abbrev pub ordinary : ℕ → Bool
ordinary a = leb 16 a

-- no member from some number on
unfoldable pub Finite : Attrs → Type 0
Finite t = ∥ ((bound : ℕ) × ((a : ℕ) → bound ≤ a → t a ≡ false)) ∥₁

-- FORMAT 2.2: a finite set of attributes; 0 is none
pub record IsType (t : Attrs) : Type 0 where
  pub positive : t 0 ≡ false
  pub finite : Finite t

-- FORMAT 2.3: a set for each relation, by its number
abbrev pub Assignment : Type 0
Assignment = ℕ → Attrs

-- FORMAT 2.3: each of the m relations has a type
abbrev pub IsAssignment : ℕ → Assignment → Type 0
IsAssignment m A = (r : ℕ) → r < m → IsType (A r)

-- FORMAT 2.17: every relation has an attribute
abbrev pub Filled : ℕ → Assignment → Type 0
Filled m A = (r : ℕ) → r < m → ∥ ((a : ℕ) × T (A r a)) ∥₁

-- ---- sets

-- all attributes of either
abbrev pub ◌∪◌ : Attrs → Attrs → Attrs
◌∪◌ t u = λ a. t a || u a

-- each attribute of t is in u
abbrev pub ◌⊆◌ : Attrs → Attrs → Type 0
◌⊆◌ t u = (a : ℕ) → t a ≡ true → u a ≡ true

-- no attribute is in both
abbrev pub Disjoint : Attrs → Attrs → Type 0
Disjoint t u = (a : ℕ) → t a ≡ true → u a ≡ true → ⊥

-- t without attribute x
abbrev pub without : Attrs → ℕ → Attrs
without t x = λ a. t a && not (eqb a x)

-- t with attribute x
abbrev pub with : Attrs → ℕ → Attrs
with t x = λ a. t a || eqb a x

-- ---- columns and states

-- FORMAT 3.4: the column of an attribute: its number if it is special, else 0
unfoldable pub column : ℕ → ℕ
column a = cond (special a) a 0

-- FORMAT 3.1: the subset of the m relations that have attribute a
unfoldable pub holders : ℕ → Assignment → ℕ → ℕ
holders m A a = pack m (λ r. A r a)
