-- A row for which some of the subsets were tried, in whatever order: by their first four relations, and then by the
-- others.
use Prim.Native.Nat.{ℕ, ◌+◌, ◌/◌, ◌%◌, ◌≤◌, ◌<◌, min}
use Rattle.std.specs.Prelude.{◌≡◌, Bool, true, false, cond, List, ◌⊎◌, ltb, length, replicate}
use Rattle.std.proofs.Common.{sym, ◌∙◌, inl, inr, le_antisymm, lt-ltb, le-ltb}
use Rattle.std.proofs.Math.Path.{ap}
use Rattle.std.proofs.Math.Logic.{⊎_elim}
use Rattle.std.proofs.Math.Decide.{dec_le}
use native.Mathlib.Omega.{arith}
use Rattle.std.proofs.Math.ListN.{get_or}
use Rattle.std.proofs.lemmas.List.{length-replicate, get_or-replicate}
use Rattle.bits.specs.Tab.{tab-is}
use Rattle.bits.specs.Written.{Written}
use Rattle.types.specs.Memberships.{members}
use Rattle.column.specs.Column.{allowed_in}
use Rattle.set_cover.specs.Remainder.{rest}
use Rattle.set_cover.specs.Least.{infinity, least, least-most, least-of, least-over}
use Rattle.cover_rows.specs.Rows.{price_in, cost_row, price-allowed, price-forbidden}
use Rattle.cover_rows.specs.Blocks.{without_high, high-least, both-parts, lowered_row}
use Rattle.cover_rows.specs.LowEntries.{low_entry}

-- each entry below the limit is at least the least price, at most infinity, and at most the price of each subset tried;
-- the others are infinity
pub record Reached (column next : List ℕ) (limit count : ℕ) (tried : ℕ → Type 0) (row : List ℕ) : Type 0 where
  pub size : length row ≡ 256
  pub over : (need : ℕ) → need < limit → least count (price_in column next need) ≤ get_or row need 0
  pub up_to : (need s : ℕ) → need < limit → s < count → tried s → get_or row need 0 ≤ price_in column next need s
  pub most : (need : ℕ) → need < limit → get_or row need 0 ≤ infinity
  pub outside : (need : ℕ) → limit ≤ need → need < 256 → get_or row need 0 ≡ infinity

-- the subsets whose first four relations are a number below `low`
abbrev pub Before : ℕ → ℕ → Type 0
Before low s = s % 16 < low

-- these, and those below `at` whose first four relations are `low`
abbrev pub Through : ℕ → ℕ → ℕ → Type 0
Through low at s = (s % 16 < low) ⊎ ((s % 16 ≡ low) × (s < at))

-- of the subsets below `at` whose first four relations are `low` the column allows none
abbrev pub NoneAllowed : List ℕ → ℕ → ℕ → ℕ → Type 0
NoneAllowed column low count at = (s : ℕ) → s < at → s < count → s % 16 ≡ low → allowed_in column s ≡ false

pub none_first : (column : List ℕ) (low count : ℕ) → NoneAllowed column low count low
none_first column low count s h below e = absurd (omega arith)

pub none-next : (column : List ℕ) (low count at : ℕ) → at % 16 ≡ low → NoneAllowed column low count at → allowed_in column at ≡ false → NoneAllowed column low count (at + 16)
none-next column low count at is none here s h below e = go (dec_le at s)
  where
    go : Dec (at ≤ s) → allowed_in column s ≡ false
    go (yes from) =
        let same : s ≡ at = omega arith in
        rw same here
    go (no before) = none s (omega arith) below e

-- of the subsets through the next one, that one is new
new : (low at s : ℕ) → at % 16 ≡ low → Through low (at + 16) s → Through low at s ⊎ (s ≡ at)
new low at s e (inl b) = inl (inl b)
new low at s e (inr w) = go (dec_le at s) w.0 w.1
  where
    go : Dec (at ≤ s) → s % 16 ≡ low → s < at + 16 → Through low at s ⊎ (s ≡ at)
    go (yes h) m l = inr (omega arith)
    go (no h) m l = inl (inr (m, omega arith))

module _ {column next : List ℕ} {limit count : ℕ} (short : limit ≤ 256) (few : count ≤ 256) where
  -- what was tried, said otherwise
  retried : (p q : ℕ → Type 0) (row : List ℕ) → ((s : ℕ) → s < count → q s → p s) → Reached column next limit count p row → Reached column next limit count q row
  retried p q row f r =
      record { size = r.size; over = r.over; up_to = λ need s h l t. r.up_to need s h l (f s l t); most = r.most; outside = r.outside }

  pub reached-none : Reached column next limit count (Before 0) (replicate 256 infinity)
  reached-none =
      record {
        size = length-replicate 256 infinity;
        over = λ need h. (let e = all need (omega arith) in let m = least-most count (price_in column next need) in omega arith);
        up_to = λ need s h l t. absurd (omega arith);
        most = λ need h. (let e = all need (omega arith) in omega arith);
        outside = λ need h l. all need l;
      }
    where
      all : (need : ℕ) → need < 256 → get_or (replicate 256 infinity) need 0 ≡ infinity
      all need l = get_or-replicate 256 need infinity 0 l

  -- ---- the subsets with the same first four relations

  pub reached-start : (low : ℕ) {row : List ℕ} → Reached column next limit count (Before low) row → Reached column next limit count (Through low low) row
  reached-start low {row} r = retried (Before low) (Through low low) row (λ s l t. ⊎_elim (λ b. b) (λ w. absurd (go s w.0 w.1)) t) r
    where
      go : (s : ℕ) → s % 16 ≡ low → s < low → ⊥
      go s e l = omega arith

  pub reached-end : (low s : ℕ) {row : List ℕ} → count ≤ s → Reached column next limit count (Through low s) row → Reached column next limit count (Before (low + 1)) row
  reached-end low at {row} h r = retried (Through low at) (Before (low + 1)) row (λ s l t. go s l t (dec_le low (s % 16))) r
    where
      go : (s : ℕ) → s < count → s % 16 < low + 1 → Dec (low ≤ s % 16) → Through low at s
      go s l t (yes above) = inr (omega arith, omega arith)
      go s l t (no below) = inl (omega arith)

  -- a subset that the column allows
  pub reached-more :
      (low s : ℕ) (table : List ℕ) {row after : List ℕ}
      → s % 16 ≡ low
      → s < count
      → allowed_in column s ≡ true
      → ((x : ℕ) → x < limit → get_or table x 0 ≡ low_entry next low x)
      → Reached column next limit count (Through low s) row
      → Written (lowered_row row table (s / 16) (members s)) limit row after
      → Reached column next limit count (Through low (s + 16)) after
  unfolding lowered_row low_entry
  reached-more low s table {row} {after} e below ok entries r w =
      record {
        size = w.size ∙ r.size;
        over = λ need h. (let is = value need h in let old = r.over need h in let this = least-of count (price_in column next need) s below in omega arith);
        up_to = λ need x h l t. ⊎_elim (λ before. (let is = value need h in let old = r.up_to need x h l before in omega arith)) (λ same. (let is = value need h in let p = ap (price_in column next need) same in omega arith)) (new low s x e t);
        most = λ need h. (let is = value need h in let old = r.most need h in omega arith);
        outside = λ need h l. w.back need h ∙ r.outside need h l;
      }
    where
      value : (need : ℕ) → need < limit → get_or after need 0 ≡ min (get_or row need 0) (price_in column next need s)
      value need h =
          let lower = high-least need (s / 16) in
          let at = entries (without_high need (s / 16)) (omega arith) in
          let both : get_or next (rest (without_high need (s / 16)) low) 0 ≡ get_or next (rest need s) 0 = ap (λ (x : ℕ). get_or next x 0) (ap (rest (without_high need (s / 16))) (sym e) ∙ both-parts need s (omega arith) (omega arith)) in
          let is = w.front need h in
          let p = price-allowed column next need s ok in
          omega arith

  -- one that it does not allow
  pub reached-skip : (low s : ℕ) {row : List ℕ} → s % 16 ≡ low → allowed_in column s ≡ false → Reached column next limit count (Through low s) row → Reached column next limit count (Through low (s + 16)) row
  reached-skip low s {row} e forbidden r =
      record {
        size = r.size;
        over = r.over;
        up_to = λ need x h l t. ⊎_elim (λ before. r.up_to need x h l before) (λ same. (let p = ap (price_in column next need) same in let f = price-forbidden column next need s forbidden in let m = r.most need h in omega arith)) (new low s x e t);
        most = r.most;
        outside = r.outside;
      }

  -- none of them is allowed
  pub reached-past : (low : ℕ) {row : List ℕ} → NoneAllowed column low count count → Reached column next limit count (Before low) row → Reached column next limit count (Before (low + 1)) row
  reached-past low {row} none r =
      record { size = r.size; over = r.over; up_to = λ need s h l t. go need s h l t (dec_le low (s % 16)); most = r.most; outside = r.outside }
    where
      go : (need s : ℕ) → need < limit → s < count → s % 16 < low + 1 → Dec (low ≤ s % 16) → get_or row need 0 ≤ price_in column next need s
      go need s h l t (yes last) =
          let f = price-forbidden column next need s (none s l l (omega arith)) in
          let m = r.most need h in
          omega arith
      go need s h l t (no before) = r.up_to need s h l (omega arith)

  -- ---- all subsets

  pub reached-all : (low : ℕ) {row : List ℕ} → min 16 count ≤ low → Reached column next limit count (Before low) row → row ≡ cost_row column next limit count
  unfolding cost_row
  reached-all low {row} every r = tab-is 256 _ 0 row r.size (λ need l. go need l (dec_le limit need))
    where
      tried : (s : ℕ) → s < count → s % 16 < low
      tried s h = omega arith

      go : (need : ℕ) → need < 256 → Dec (limit ≤ need) → get_or row need 0 ≡ cond (ltb need limit) (least count (price_in column next need)) infinity
      go need l (yes h) = r.outside need h l ∙ sym (ap (λ (b : Bool). cond b (least count (price_in column next need)) infinity) (le-ltb need limit h))
      go need l (no h) =
          let inside : need < limit = omega arith in
          le_antisymm (least-over count (price_in column next need) (get_or row need 0) (r.most need inside) (λ s below. r.up_to need s inside below (tried s below))) (r.over need inside)
          ∙ sym (ap (λ (b : Bool). cond b (least count (price_in column next need)) infinity) (lt-ltb need limit inside))
