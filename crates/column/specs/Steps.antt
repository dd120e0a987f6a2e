-- Each operator on one attribute: on the allowed and output bits of its operands (FORMAT 3.11).
use Rattle.std.specs.Prelude.{ℕ, zero, suc, Bool, false, cond, not, ◌&&◌, ◌||◌}
use Rattle.bits.specs.Bit.{differs}
use Rattle.node.specs.declared.nodes.BinaryOp.{BinaryOp}
use Rattle.node.specs.declared.nodes.BinaryOp.TheVariants.{Union, Difference, Join, Product}
use Rattle.node.specs.declared.nodes.SetOp.{SetOp}
use Rattle.node.specs.declared.nodes.SetOp.TheVariants.{Selection, Projection}
use Rattle.column.specs.declared.steps.Unary.{Unary}
use Rattle.column.specs.declared.steps.Unary.TheVariants.{Kept, Required, Removed, Introduced, Dropped, Contradicted}
use Rattle.column.specs.declared.steps.Combination.{Combination}
use Rattle.column.specs.declared.steps.Combination.TheVariants.{Agreeing, Merging, Disjoint}

-- ---- operators of one operand

-- FORMAT 3.11: the allowed bit, from the operand's allowed and output bits
abbrev pub unary_allowed : Unary → Bool → Bool → Bool
unary_allowed Kept a o = a
unary_allowed Required a o = a && o
unary_allowed Removed a o = a && o
unary_allowed Introduced a o = a && not o
unary_allowed Dropped a o = a
unary_allowed Contradicted a o = false

-- FORMAT 3.11: the output bit, from the same
abbrev pub unary_output : Unary → Bool → Bool → Bool
unary_output Kept a o = o
unary_output Required a o = a && o
unary_output Removed a o = false
unary_output Introduced a o = a && not o
unary_output Dropped a o = false
unary_output Contradicted a o = false

-- what a set operator does to an attribute that its set does not have
abbrev pub unnamed_step : SetOp → Unary
unnamed_step Selection = Kept
unnamed_step Projection = Dropped

-- FORMAT 3.11, selection and projection: `named` says that the set has the attribute
abbrev pub set_step : SetOp → Bool → Unary
set_step op named = cond named Required (unnamed_step op)

-- FORMAT 3.11, projecting out: `is_old` says that the attribute is the old one
abbrev pub projecting_out_step : Bool → Unary
projecting_out_step is_old = cond is_old Removed Kept

-- a renaming's step on the new attribute, which may be the old one too
abbrev pub introducing_step : Bool → Unary
introducing_step is_old = cond is_old Contradicted Introduced

-- FORMAT 3.11, renaming: `is_old`, `is_new` say that the attribute is the old one, the new one
abbrev pub renaming_step : Bool → Bool → Unary
renaming_step is_old is_new = cond is_new (introducing_step is_old) (projecting_out_step is_old)

-- ---- operators of two operands

-- FORMAT 3.11: the step of each operator of two operands
abbrev pub combination_of : BinaryOp → Combination
combination_of Union = Agreeing
combination_of Difference = Agreeing
combination_of Join = Merging
combination_of Product = Disjoint

-- FORMAT 3.11: the allowed bit, from the left operand's allowed and output bits and then the right one's
abbrev pub combined_allowed : Combination → Bool → Bool → Bool → Bool → Bool
combined_allowed Agreeing la lo ra ro = la && ra && not (differs lo ro)
combined_allowed Merging la lo ra ro = la && ra
combined_allowed Disjoint la lo ra ro = la && ra && not (lo && ro)

-- FORMAT 3.11: the output bit, from the same
abbrev pub combined_output : Combination → Bool → Bool → Bool → Bool → Bool
combined_output Agreeing la lo ra ro = combined_allowed Agreeing la lo ra ro && lo
combined_output Merging la lo ra ro = combined_allowed Merging la lo ra ro && (lo || ro)
combined_output Disjoint la lo ra ro = combined_allowed Disjoint la lo ra ro && (lo || ro)

-- ---- as steps on planes: plane 0 is allowed, plane 1 output

-- a step on the bits of two planes: plane 0 allowed, plane 1 output
abbrev pub unary_step : Unary → (ℕ → Bool) → ℕ → Bool
unary_step u x zero = unary_allowed u (x 0) (x 1)
unary_step u x (suc p) = unary_output u (x 0) (x 1)

-- the same of two operands
abbrev pub combined_step : Combination → (ℕ → Bool) → (ℕ → Bool) → ℕ → Bool
combined_step c x y zero = combined_allowed c (x 0) (x 1) (y 0) (y 1)
combined_step c x y (suc p) = combined_output c (x 0) (x 1) (y 0) (y 1)
