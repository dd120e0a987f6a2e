-- An array that `from_fn` made by a closure that changes nothing it holds, element by element.
use Rattle.std.proofs.Common.{◌≡◌, ℕ, zero, suc, ◌+◌, ◌≤◌, ◌<◌, List, get_or, ◌∙◌, arith}
use Rattle.std.proofs.Math.Decide.{dec_lt}
use denote.Param.Members.{Mut, Called}
use Rattle.std.specs.Array.{IsFromFnResultFrom, IsFromFnResult}
use Rattle.bits.specs.Tab.{tab, tab-is}

module _ {F : Type 0} {g : Mut F (ℕ × Unit {0}) ℕ} (value : ℕ → ℕ) where
  made_from :
      (n i : ℕ) (f : F) (ys : List ℕ)
      → ((j y : ℕ) (q : F) → j < i + n → Called g f (j, tt) y q → (q ≡ f) × (y ≡ value j))
      → IsFromFnResultFrom g f ys i n
      → (k : ℕ) → i ≤ k → k < i + n → get_or ys k 0 ≡ value k
  made_from zero i f ys is calls k least below = absurd (omega arith)
  made_from (suc n) i f ys is (q, y, at, call, rest) k least below = go (dec_lt i k) (is i y q (omega arith) call) (made_from n (i + 1) f ys (λ j y' q' h c. is j y' q' (omega arith) c))
    where
      go : Dec (i < k) → (q ≡ f) × (y ≡ value i) → (IsFromFnResultFrom g f ys (i + 1) n → (k : ℕ) → i + 1 ≤ k → k < i + 1 + n → get_or ys k 0 ≡ value k) → get_or ys k 0 ≡ value k
      go (yes more) both others = others (rw both.0 at rest) k (omega arith) (omega arith)
      go (no less) both others = let here : k ≡ i = omega arith in rw here (at.1 0 ∙ both.1)

  pub made_by :
      (n : ℕ) (f : F) (ys : List ℕ)
      → ((j y : ℕ) (q : F) → j < n → Called g f (j, tt) y q → (q ≡ f) × (y ≡ value j))
      → IsFromFnResult g f ys n
      → ys ≡ tab n value
  made_by n f ys is calls = tab-is n value 0 ys calls.long (λ i below. made_from n 0 f ys (λ j y q h c. is j y q (omega arith) c) calls.each i (omega arith) (omega arith))
