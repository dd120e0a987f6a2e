-- Laws of the first subsets: their search, and that a work space says the same as the expression whose columns it
-- holds.
use Prim.Native.Nat.{ℕ, ◌<◌}
use Rattle.std.specs.Prelude.{◌≡◌, Bool}
use Rattle.verdict_answer.specs.First.{first_in, blocked_in}
use Rattle.verdict_answer.specs.FewestLaws.{first-same}
use Rattle.verdict_answer.specs.FirstLaws.{blocked-same}

-- ---- columns that allow the same

module _ (f g : ℕ → ℕ → Bool) (same : (i s : ℕ) → i < 16 → s < 256 → f i s ≡ g i s) where
  pub firsts_same : (i : ℕ) → i < 16 → first_in f i ≡ first_in g i
  firsts_same i h = first-same (f i) (g i) (λ s below. same i s h below)

  pub blocked-in-same : blocked_in f ≡ blocked_in g
  blocked-in-same = blocked-same (first_in f) (first_in g) firsts_same
