-- The standing bits of an instantiation's map are the subsets of its entries, where subset 0 has no list.
use Rattle.std.specs.Prelude.{ℕ, ◌≤◌, ◌<◌, ◌≡◌, true, not, List, eqb, length}
use Rattle.std.proofs.Common.{ap, arith}
use Rattle.std.proofs.Math.Decide.{dec_lt}
use Rattle.bits.specs.Booleans.{clash}
use Rattle.instantiation.specs.ListsLaws.{some}

-- a list that is not empty, by the test
pub long-enough : (l : List ℕ) → some l ≡ true → 1 ≤ length l
long-enough l h = go (dec_lt 0 (length l))
  where
    go : Dec (0 < length l) → 1 ≤ length l
    go (yes more) = more
    go (no none) =
        let empty : length l ≡ 0 = omega arith in
        absurd (clash h (ap (λ (n : ℕ). not (eqb n 0)) empty))
