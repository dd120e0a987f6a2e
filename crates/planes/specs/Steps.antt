-- Stored bits of a cell, and steps on them, for any kinds: a step that does to coded values what the cell does, and
-- clears where an operand is clear, keeps stored bits those of the cell.
use Rattle.std.specs.Prelude.{ℕ, zero, suc, ◌^◌, ◌<◌, ◌≡◌, Bool, true, false, not, ◌&&◌, List, eqb, ltb}
use Rattle.algebra.specs.Expression.{Expression, Operator}
use Rattle.algebra.specs.Cell.{Kinds, same_bool, out, ok, breaks, yields}
use Rattle.bits.specs.AllBelow.{all_below, all_in}
use Rattle.states.specs.Coded.{Coded, value_at, bit-only}
use Rattle.planes.specs.Planes.{planes_of}

-- the bits of a value at a state that is allowed: plane 0 always, and the plane of its digit
abbrev pub plane_bit : {K : Kinds} → Coded K → K.Value → ℕ → Bool
plane_bit C v zero = true
plane_bit C v (suc p) = eqb (C.digit_of v) (suc p)

-- the stored bits of a cell: t that s is a state, k that no rule is broken, v what comes out; all clear unless t and k
abbrev pub stored_bits : {K : Kinds} → Coded K → Bool → Bool → K.Value → ℕ → Bool
stored_bits C t k v p = t && k && plane_bit C v p

-- a step on bits that is an operator of two operands: on the bits of values it gives the bits of the operator's value,
-- clear where its rule is broken; and clear bits stay clear
pub record BinaryStep {K : Kinds} (C : Coded K) (op : Operator) (step : (ℕ → Bool) → (ℕ → Bool) → ℕ → Bool) : Type 0 where
  pub coded : (l r : K.Value) (p : ℕ) → p < C.base → step (plane_bit C l) (plane_bit C r) p ≡ not (breaks K op l r) && plane_bit C (yields K op l r) p
  pub left_clear : (y : ℕ → Bool) (p : ℕ) → step (λ q. false) y p ≡ false
  pub right_clear : (x : ℕ → Bool) (p : ℕ) → step x (λ q. false) p ≡ false
  -- it looks at the planes that there are
  pub local : (x x' y y' : ℕ → Bool) → ((q : ℕ) → q < C.base → x q ≡ x' q) → ((q : ℕ) → q < C.base → y q ≡ y' q) → (p : ℕ) → step x y p ≡ step x' y' p

-- the same for an operator of one operand, whose rule is `broken` and whose result is `given`
pub record UnaryStep {K : Kinds} (C : Coded K) (broken : K.Value → Bool) (given : K.Value → K.Value) (step : (ℕ → Bool) → ℕ → Bool) : Type 0 where
  pub coded : (v : K.Value) (p : ℕ) → p < C.base → step (plane_bit C v) p ≡ not (broken v) && plane_bit C (given v) p
  pub clear : (p : ℕ) → step (λ q. false) p ≡ false
  pub local : (x x' : ℕ → Bool) → ((q : ℕ) → q < C.base → x q ≡ x' q) → (p : ℕ) → step x p ≡ step x' p

pub unary-bits :
    {K : Kinds} {C : Coded K} {broken : K.Value → Bool} {given : K.Value → K.Value} {step : (ℕ → Bool) → ℕ → Bool}
    → UnaryStep C broken given step
    → (t k : Bool) (v : K.Value) (p : ℕ)
    → p < C.base
    → step (stored_bits C t k v) p ≡ stored_bits C t (k && not (broken v)) (given v) p
unary-bits s false k v p h = s.clear p
unary-bits s true false v p h = s.clear p
unary-bits s true true v p h = s.coded v p h

pub binary-bits : {K : Kinds} {C : Coded K} {op : Operator} {step : (ℕ → Bool) → (ℕ → Bool) → ℕ → Bool} → BinaryStep C op step → (t k : Bool) (v : K.Value) (k' : Bool) (v' : K.Value) (p : ℕ) → p < C.base
    → step (stored_bits C t k v) (stored_bits C t k' v') p ≡ stored_bits C t (k && k' && not (breaks K op v v')) (yields K op v v') p
binary-bits {C} s false k v k' v' p h = s.left_clear _ p
binary-bits {C} s true false v k' v' p h = s.left_clear _ p
binary-bits {C} s true true v false v' p h = s.right_clear _ p
binary-bits {C} s true true v true v' p h = s.coded v v' p h

-- ---- the column of an expression's cells, and the node of two operands

-- the bits of an expression's cells in column c: plane, then state
unfoldable pub cell_bits : {K : Kinds} → Coded K → ℕ → Expression → ℕ → ℕ → ℕ → Bool
cell_bits {K} C m e c p s = stored_bits C (ltb s (C.base ^ m)) (ok K e c (value_at C s)) (out K e c (value_at C s)) p

-- the column of an expression's cells
unfoldable pub cell_column : {K : Kinds} → Coded K → ℕ → Expression → ℕ → List ℕ
cell_column C m e c = planes_of C.base (cell_bits C m e c)

-- ---- an operator's step on coded values, by one computed test

-- the computed test: the step gives what the operator gives, at all digits of both operands and in all planes
abbrev pub binary_test : {K : Kinds} (C : Coded K) → Operator → ((ℕ → Bool) → (ℕ → Bool) → ℕ → Bool) → Bool
binary_test {K} C op step =
    all_below C.base
    (λ d. all_below C.base
    (λ d'. all_below C.base
    (λ p. same_bool (step (plane_bit C (C.value d)) (plane_bit C (C.value d')) p)
    (not (breaks K op (C.value d) (C.value d')) && plane_bit C (yields K op (C.value d) (C.value d')) p))))

-- the same of one operand
abbrev pub unary_test : {K : Kinds} (C : Coded K) → (K.Value → Bool) → (K.Value → K.Value) → ((ℕ → Bool) → ℕ → Bool) → Bool
unary_test {K} C broken given step = all_below C.base (λ d. all_below C.base (λ p. same_bool (step (plane_bit C (C.value d)) p) (not (broken (C.value d)) && plane_bit C (given (C.value d)) p)))

pub binary-tested :
    {K : Kinds} (C : Coded K) (op : Operator) (step : (ℕ → Bool) → (ℕ → Bool) → ℕ → Bool)
    → binary_test C op step ≡ true
    → (l r : K.Value) (p : ℕ)
    → p < C.base
    → step (plane_bit C l) (plane_bit C r) p ≡ not (breaks K op l r) && plane_bit C (yields K op l r) p
binary-tested {K} C op step test l r p h =
    let outer = all_in C.base _ test (C.digit_of l) (C.below l) in
    let inner = all_in C.base _ outer (C.digit_of r) (C.below r) in
    let here = all_in C.base _ inner p h in
    bit-only _ _ (rw (C.value-digit l, C.value-digit r) at here)

pub unary-tested :
    {K : Kinds} (C : Coded K) (broken : K.Value → Bool) (given : K.Value → K.Value) (step : (ℕ → Bool) → ℕ → Bool)
    → unary_test C broken given step ≡ true
    → (v : K.Value) (p : ℕ)
    → p < C.base
    → step (plane_bit C v) p ≡ not (broken v) && plane_bit C (given v) p
unary-tested {K} C broken given step test v p h =
    let outer = all_in C.base _ test (C.digit_of v) (C.below v) in
    let here = all_in C.base _ outer p h in
    bit-only _ _ (rw (C.value-digit v) at here)
