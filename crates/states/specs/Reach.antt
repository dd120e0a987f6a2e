-- Whether the relations can all be filled: a search over sets of relations, special attribute by special attribute.
use Prim.Native.Nat.{ℕ, zero, suc, ◌-◌, ◌^◌}
use Rattle.std.specs.Prelude.{Bool}
use Rattle.std.proofs.Math.Bool.{◌&&◌}
use Rattle.std.proofs.Math.Dec.{eqb}
use Rattle.std.specs.Int.Bits.{bit_or}
use Rattle.bits.specs.Pack.{pack}
use Rattle.algebra.specs.Cell.{Kinds}
use Rattle.bits.specs.AnyBelow.{any_below}
use Rattle.states.specs.Coded.{Coded, value_at}
use Rattle.states.specs.Formula.{TypeOver, AssignmentOver, IsAssignment, Filled, Formula, Fits}
use Rattle.states.specs.Choice.{by_list}

-- the relations that have the attribute in state s
unfoldable pub mask_of : {K : Kinds} → Coded K → ℕ → ℕ → ℕ
mask_of {K} C m s = pack m (λ r. K.has (value_at C s r))

-- the relations that are in some variable
unfoldable pub listed : {K : Kinds} → Coded K → Formula K → ℕ
listed C F = pack F.relations (λ r. any_below (C.base ^ F.relations) (by_list C F r))

-- allowed states of attributes 1 to n can fill exactly the relations of u, besides those of the variables
unfoldable pub reach : {K : Kinds} → Coded K → Formula K → ℕ → ℕ → Bool
reach C F zero u = eqb u (listed C F)
reach C F (suc n) u = any_below (C.base ^ F.relations) (λ s. F.allowed (suc n) s && any_below (2 ^ F.relations) (λ w. reach C F n w && eqb (bit_or w (mask_of C F.relations s)) u))

-- allowed states and variables can fill every relation
unfoldable pub fillable : {K : Kinds} → Coded K → Formula K → Bool
fillable C F = reach C F 15 (2 ^ F.relations - 1)

-- a filled assignment that fits
pub record FilledFitting {K : Kinds} (C : Coded K) (F : Formula K) : Type 0 where
  pub assignment : AssignmentOver K
  pub types : IsAssignment K F.relations assignment
  pub filled : Filled K F.relations assignment
  pub type : TypeOver K
  pub fits : (a : ℕ) → Fits C F assignment type a
