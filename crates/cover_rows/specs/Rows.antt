-- A row of costs, as code has it: an array of 256 bytes, one for each set of relations that need an attribute.
use Rattle.std.specs.Prelude.{ℕ, ◌+◌, ◌≤◌, ◌<◌, ◌≡◌, Bool, List, ltb, length}
use Rattle.std.proofs.Math.Bool.{true, false, cond}
use Rattle.std.proofs.Math.Decide.{dec_lt}
use native.Mathlib.Omega.{arith}
use Rattle.std.proofs.Math.ListN.{get_or, get_or-eq_default}
use Rattle.bits.specs.Tab.{tab, length-tab, get_or-tab}
use Rattle.types.specs.Memberships.{members}
use Rattle.column.specs.Column.{allowed_in}
use Rattle.set_cover.specs.Remainder.{rest}
use Rattle.set_cover.specs.Least.{infinity, least, least-most}
use Rattle.set_cover.specs.Cost.{price}
use Rattle.set_cover.specs.Cheapest.{price-ok, price-not}

-- no entry is above infinity
abbrev pub Costs : List ℕ → Type 0
Costs row = (x : ℕ) → get_or row x 0 ≤ infinity

-- none up to this one is
abbrev pub CostsUpTo : ℕ → List ℕ → Type 0
CostsUpTo need row = (x : ℕ) → x ≤ need → get_or row x 0 ≤ infinity

-- what subset s of a column costs where the relations of `need` lack an attribute; `next` has what the others then cost
unfoldable pub price_in : List ℕ → List ℕ → ℕ → ℕ → ℕ
price_in column next need s = price (allowed_in column) (λ x. get_or next x 0) need s

-- the row of a column: for each need below the limit the least price of the subsets below the count
unfoldable pub cost_row : List ℕ → List ℕ → ℕ → ℕ → List ℕ
cost_row column next limit count = tab 256 (λ need. cond (ltb need limit) (least count (price_in column next need)) infinity)

-- ---- prices

module _ (column next : List ℕ) (need s : ℕ) where
  pub price-allowed : allowed_in column s ≡ true → price_in column next need s ≡ members s + get_or next (rest need s) 0
  unfolding price_in
  price-allowed = price-ok (allowed_in column) (λ x. get_or next x 0) need s

  pub price-forbidden : allowed_in column s ≡ false → price_in column next need s ≡ infinity
  unfolding price_in
  price-forbidden = price-not (allowed_in column) (λ x. get_or next x 0) need s

-- ---- the row

module _ (column next : List ℕ) (limit count : ℕ) where
  pub row-length : length (cost_row column next limit count) ≡ 256
  unfolding cost_row
  row-length = length-tab 256 _

  pub row-costs : Costs (cost_row column next limit count)
  unfolding cost_row
  row-costs x = go (dec_lt x 256)
    where
      entry : (b : Bool) → cond b (least count (price_in column next x)) infinity ≤ infinity
      entry true = least-most count (price_in column next x)
      entry false = omega arith

      go : Dec (x < 256) → get_or (tab 256 (λ need. cond (ltb need limit) (least count (price_in column next need)) infinity)) x 0 ≤ infinity
      go (yes h) = rw (get_or-tab 256 (λ need. cond (ltb need limit) (least count (price_in column next need)) infinity) x 0 h) (entry (ltb x limit))
      go (no h) =
          let size = length-tab 256 (λ need. cond (ltb need limit) (least count (price_in column next need)) infinity) in
          rw (get_or-eq_default (tab 256 (λ need. cond (ltb need limit) (least count (price_in column next need)) infinity)) 0 {n = x} (omega arith)) (omega arith)
