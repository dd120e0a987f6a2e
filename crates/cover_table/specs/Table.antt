-- The table of costs in memory: sixteen rows, row k for variables and the last k special attributes. A row has as many
-- bytes as there are subsets, rounded up to blocks of sixteen.
use Rattle.std.specs.Prelude.{ℕ, suc, ◌+◌, ◌-◌, ◌*◌, ◌/◌, ◌^◌, ◌≤◌, ◌<◌, ◌≡◌, refl, Bool, true, false, cond, List, ◌⊎◌, length, get_or, take, drop, set, replicate}
use Rattle.std.proofs.Common.{sym, ap, ◌∙◌, inl, inr, eq-or-lt_of_le, add-mul, one-mul, zero-add, zero-mul, mul-le-mul_right, add-one, arith, length-set, length-drop, pow_mono, pow_pos, get_or-drop}
use Rattle.std.proofs.Math.Arith.{digits_lt}
use Rattle.std.proofs.lemmas.List.{length-replicate}
use Rattle.std.proofs.Math.Pow.{ones_lt}
use Rattle.std.proofs.Math.Seq.{paste}
use Rattle.std.proofs.lemmas.List.Edits.{length-paste}
use Rattle.bits.specs.Part.{part-from}
use Rattle.copying.specs.Copied.{paste-inside, paste-outside}
use Rattle.set_cover.specs.Least.{infinity}
use Rattle.set_cover.specs.Cost.{cost}
use Rattle.set_cover.specs.Shortcuts.{cost-most, covering}
use Rattle.set_cover.proofs.Shortcuts.{covering-settled, skip-cost}
use Rattle.cover_rows.specs.Rows.{Costs, CostsUpTo, cost_row, row-length, row-costs}
use Rattle.cover_rows.specs.Holding.{Holds, Allows, rows-hold, start-row as start_is, start-costs, covering-start, covering-row, covering-all}
use Rattle.verdict_answer.specs.Witness.{cost_in}
use Rattle.cover_table.specs.Alike.{alike, alike_at, alike-allowed}

-- the blocks of a row for m relations, and its bytes
abbrev pub row_blocks : ℕ → ℕ
row_blocks m = (2 ^ m + 15) / 16

abbrev pub row_width : ℕ → ℕ
row_width m = row_blocks m * 16

-- up to four relations have one block
pub width_few : (m : ℕ) → m ≤ 4 → row_width m ≤ 16
width_few m few = let most = pow_mono {j = 4} few in omega arith

pub width-most : (m : ℕ) → m ≤ 8 → row_width m ≤ 256
width-most m few = let most = pow_mono {j = 8} few in omega arith

-- an array of 256 costs, those below N of f
pub record IsRow (N : ℕ) (f : ℕ → ℕ) (row : List ℕ) : Type 0 where
  pub size : length row ≡ 256
  pub holds : Holds N f row
  pub costs : Costs row

-- the first c rows of the table are right, of w bytes each
pub record TableHolds (N : ℕ) (allowed : ℕ → ℕ → Bool) (w c : ℕ) (table : List ℕ) : Type 0 where
  pub size : 16 * w ≤ length table
  pub wide : N ≤ w
  pub rows : (k need : ℕ) → k < c → need < N → get_or table (k * w + need) 0 ≡ cost N allowed k need

-- the rows lie one after the other
row_next : (k w : ℕ) → (k + 1) * w ≡ k * w + w
row_next k w = rw (add-mul k 1 w, one-mul w)

row_fits : (k w : ℕ) → k < 16 → k * w + w ≤ 16 * w
row_fits k w h =
    let up_to : k + 1 ≤ 16 = omega arith in
    let most = mul-le-mul_right w up_to in
    let next = row_next k w in
    omega arith

-- ---- one row more

module _ (N : ℕ) (allowed : ℕ → ℕ → Bool) (w : ℕ) (wide : N ≤ w) where
  pub table_none : (table : List ℕ) → 16 * w ≤ length table → TableHolds N allowed w 0 table
  table_none table size = record { size = size; wide = wide; rows = λ k need h below. absurd (omega arith) }

  pub table_more : (c : ℕ) (table row : List ℕ) → c < 16 → w ≤ length row → TableHolds N allowed w c table → Holds N (cost N allowed c) row → TableHolds N allowed w (c + 1) (paste table (c * w) row w)
  table_more c table row h enough t holds =
      record {
        size = let same = length-paste table (c * w) row w fits enough in let old = t.size in omega arith;
        wide = wide;
        rows = λ k need less below. each k need (eq-or-lt_of_le (up_to k less)) below;
      }
    where
      fits : c * w + w ≤ length table
      fits = let old = t.size in let most = row_fits c w h in omega arith

      up_to : (k : ℕ) → k < c + 1 → k ≤ c
      up_to k less = omega arith

      each : (k need : ℕ) → (k ≡ c) ⊎ (k < c) → need < N → get_or (paste table (c * w) row w) (k * w + need) 0 ≡ cost N allowed k need
      each k need (inl same) below = rw same (paste-inside table row (c * w) w fits enough need (omega arith) ∙ holds need below)
      each k need (inr less) below =
          let inside : need < w = omega arith in
          paste-outside table row (c * w) w fits enough (k * w + need) (inl (digits_lt less inside)) ∙ t.rows k need less below

-- ---- a row, lent as the part of the table that starts with it

pub record LentRow (N : ℕ) (f : ℕ → ℕ) (row : List ℕ) : Type 0 where
  pub long : N ≤ length row
  pub holds : Holds N f row
  pub costs : (need : ℕ) → need < N → CostsUpTo need row

module _ (N : ℕ) (allowed : ℕ → ℕ → Bool) (w c : ℕ) (table : List ℕ) (t : TableHolds N allowed w c table) where
  -- each of the sixteen lies in the table, also where it is not written yet
  pub row_within : (k : ℕ) → k < 16 → k * w + w ≤ length table
  row_within k h = let size = t.size in let most = row_fits k w h in omega arith

  -- the part begins with row k
  lent : (k : ℕ) (row : List ℕ) → k < c → w ≤ length row → ((x : ℕ) → get_or row x 0 ≡ get_or table (k * w + x) 0) → LentRow N (cost N allowed k) row
  lent k row h enough same =
      record {
        long = let wide = t.wide in omega arith;
        holds = here;
        costs = λ need less x most. (let is = here x (omega arith) in let top = cost-most N allowed k x (omega arith) in omega arith);
      }
    where
      here : Holds N (cost N allowed k) row
      here x less = same x ∙ t.rows k x h less

  pub row-lent : (k : ℕ) → k < c → k < 16 → LentRow N (cost N allowed k) (take (length table - k * w) (drop (k * w) table))
  row-lent k h below =
      rw (part-from table (k * w))
      (lent k (drop (k * w) table) h (let within = row_within k below in let rest = length-drop (k * w) table in omega arith)
      (λ x. get_or-drop (k * w) table x 0))

  pub first-lent : 0 < c → LentRow N (cost N allowed 0) table
  first-lent some = lent 0 table some (let size = t.size in omega arith) (λ x. ap (λ (at : ℕ). get_or table at 0) (sym (ap (λ (n : ℕ). n + x) (zero-mul w) ∙ zero-add x)))

  -- the row after it, by its place
  pub after-within : (k need : ℕ) → k + 1 < 16 → need < N → k * w + w + need < length table
  after-within k need h less = let wide = t.wide in let within = row_within (k + 1) h in let next = row_next k w in omega arith

  pub row-after : (k after need : ℕ) → after ≡ k + 1 → after < c → need < N → get_or table (k * w + w + need) 0 ≡ cost N allowed after need
  row-after k after need is h less = ap (λ (at : ℕ). get_or table (at + need) 0) (sym (ap (λ (n : ℕ). n * w) is ∙ row_next k w)) ∙ t.rows after need h less

-- the last row says what it costs to fill all m relations
pub whole-cost :
    (m count blocks : ℕ) (allowed : ℕ → ℕ → Bool)
    → count ≡ 2 ^ m
    → blocks ≡ row_blocks m
    → (table : List ℕ)
    → TableHolds count allowed (blocks * 16) 16 table
    → (get_or table (15 * (blocks * 16) + count - 1) 0 ≡ cost_in m allowed) × TableHolds (2 ^ m) allowed (row_width m) 16 table
whole-cost m count blocks allowed is has table t =
    let some = pow_pos m in
    let place : 15 * (blocks * 16) + count - 1 ≡ 15 * (blocks * 16) + (2 ^ m - 1) = omega arith in
    let same : TableHolds (2 ^ m) allowed (blocks * 16) 16 table = rw is at t in
    (ap (λ (i : ℕ). get_or table i 0) place ∙ same.rows 15 (2 ^ m - 1) (omega arith) (ones_lt m), rw has at same)

-- ---- the row of the variables

module _ (N : ℕ) (allowed : ℕ → ℕ → Bool) (few : N ≤ 256) (grounded : allowed 0 0 ≡ true) where
  pub variables-row : (row : List ℕ) → IsRow N (covering N (allowed 0) 8) row → IsRow N (cost N allowed 0) row
  variables-row row is = record { size = is.size; holds = covering-all N allowed few grounded row is.holds; costs = is.costs }

  -- ---- the row of one special attribute more: a column that allows what column 0 does leaves it as it is

  pub next_row :
      (k : ℕ) (first column row : List ℕ) (limit : ℕ)
      → N ≤ limit
      → limit ≤ 256
      → Allows N (allowed 0) first
      → Allows N (allowed (15 - k)) column
      → IsRow N (cost N allowed k) row
      → IsRow N (cost N allowed (suc k)) (cond (alike 32 first column) row (cost_row column row limit N))
  next_row k first column row limit enough short zeroth own is = go (alike 32 first column) refl
    where
      go : (t : Bool) → alike 32 first column ≡ t → IsRow N (cost N allowed (suc k)) (cond t row (cost_row column row limit N))
      go true same =
          record {
            size = is.size;
            holds = λ x h. is.holds x h ∙ sym (skip-cost N allowed few grounded k (λ s l. sym (own s l) ∙ sym (alike-allowed first column same s (omega arith)) ∙ zeroth s l) x h);
            costs = is.costs;
          }
      go false other = record { size = row-length column row limit N; holds = rows-hold N allowed k column row own is.holds limit enough short; costs = row-costs column row limit N }

  -- ---- the loop over the rows

  pub table-first :
      (table row new : List ℕ) (w : ℕ)
      → N ≤ w
      → w ≤ 256
      → 16 * w ≤ length table
      → IsRow N (covering N (allowed 0) 8) row
      → new ≡ paste table 0 row w
      → TableHolds N allowed w (0 + 1) new × IsRow N (cost N allowed 0) row
  table-first table row new w wide short size is wrote =
      let own = variables-row row is in
      let long = own.size in
      let start = wrote ∙ ap (λ (at : ℕ). paste table at row w) (sym (zero-mul w)) in
      (rw start (table_more N allowed w wide 0 table row (omega arith) (omega arith) (table_none N allowed w wide table size) own.holds), own)

  pub table-next :
      (k : ℕ) (first column row made table new : List ℕ) (limit : ℕ)
      → N ≤ limit
      → limit ≤ 256
      → k < 15
      → Allows N (allowed 0) first
      → Allows N (allowed (15 - k)) column
      → IsRow N (cost N allowed k) row
      → TableHolds N allowed limit (k + 1) table
      → made ≡ cond (alike 32 first column) row (cost_row column row limit N)
      → new ≡ paste table ((k + 1) * limit) made limit
      → TableHolds N allowed limit (k + 1 + 1) new × IsRow N (cost N allowed (k + 1)) made
  table-next k first column row made table new limit enough short more zeroth column-is is t makes wrote =
      let own : IsRow N (cost N allowed (k + 1)) made = rw (makes, add-one k) (next_row k first column row limit enough short zeroth column-is is) in
      let long = own.size in
      (rw wrote (table_more N allowed limit enough (k + 1) table made (omega arith) (omega arith) t own.holds), own)

-- the two cases in code
module _ (first column row : List ℕ) (limit N : ℕ) where
  pub kept_row : alike 32 first column ≡ true → row ≡ cond (alike 32 first column) row (cost_row column row limit N)
  kept_row same = sym (ap (λ (t : Bool). cond t row (cost_row column row limit N)) same)

  pub made_row : (made : List ℕ) → made ≡ cost_row column row limit N → alike 32 first column ≡ false → made ≡ cond (alike 32 first column) row (cost_row column row limit N)
  made_row made is other = is ∙ sym (ap (λ (t : Bool). cond t row (cost_row column row limit N)) other)

-- ---- the search for the row of the variables stops where one subset more changes nothing

module _ (N : ℕ) (ok : ℕ → Bool) (few : N ≤ 256) where
  -- it begins with none: 0 for the empty set, and else infinity
  pub start-row : IsRow N (covering N ok 0) (set (replicate 256 infinity) 0 0)
  start-row =
      rw (← start_is)
      (record { size = ap length start_is ∙ length-set (replicate 256 infinity) 0 0 ∙ length-replicate 256 infinity; holds = covering-start N ok few; costs = start-costs })

  pub settled-row : (j : ℕ) (column row : List ℕ) (limit : ℕ) → j ≤ 8 → N ≤ limit → limit ≤ 256 → Allows N ok column → IsRow N (covering N ok j) row → alike limit row (cost_row column row limit N) ≡ true → IsRow N (covering N ok 8) row
  settled-row j column row limit most enough short allows is same =
      record {
        size = is.size;
        holds = λ x h. is.holds x h ∙ sym (covering-settled N ok j settled most x h);
        costs = is.costs;
      }
    where
      settled : (need : ℕ) → need < N → covering N ok (suc j) need ≡ covering N ok j need
      settled need h =
          sym (covering-row N ok j column row limit enough short allows is.holds need h)
          ∙ sym (alike_at limit row (cost_row column row limit N) same need (omega arith))
          ∙ is.holds need h

  pub covering-more : (j : ℕ) (column row : List ℕ) (limit : ℕ) → N ≤ limit → limit ≤ 256 → Allows N ok column → IsRow N (covering N ok j) row → IsRow N (covering N ok (j + 1)) (cost_row column row limit N)
  covering-more j column row limit enough short allows is =
      record {
        size = row-length column row limit N;
        holds = λ x h. covering-row N ok j column row limit enough short allows is.holds x h ∙ ap (λ (i : ℕ). covering N ok i x) (let next : suc j ≡ j + 1 = omega arith in next);
        costs = row-costs column row limit N;
      }
