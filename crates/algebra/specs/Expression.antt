-- Expressions of the relational algebra (FORMAT 1.6; document 000, section 2.1).
use Rattle.std.specs.Prelude.{ℕ, ◌<◌, ◌≡◌, true}
use Rattle.attribute_set.specs.AttrSet.{special}
use Rattle.types.specs.Types.{Attrs, ◌⊆◌}

-- operators of two operands
pub data Operator : Type 0 where
  union difference join product : Operator

-- operators of one operand and an attribute set
pub data SetOperator : Type 0 where
  selection projection : SetOperator

-- an expression: an operator over the expressions of its operands
pub data Expression : Type 0 where
  -- a relation, by its number
  relation : ℕ → Expression
  binary : Operator → Expression → Expression → Expression
  with_set : SetOperator → Attrs → Expression → Expression
  -- old, then new
  renaming : ℕ → ℕ → Expression → Expression
  projecting_out : ℕ → Expression → Expression

-- FORMAT 1.3: relations are below m, and attributes that are named are special
abbrev pub Legal : ℕ → Expression → Type 0
Legal m (relation r) = r < m
Legal m (binary op e f) = Legal m e × Legal m f
Legal m (with_set op s e) = (s ⊆ special) × Legal m e
Legal m (renaming old new e) = (special old ≡ true) × (special new ≡ true) × Legal m e
Legal m (projecting_out old e) = (special old ≡ true) × Legal m e
