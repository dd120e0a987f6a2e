-- Laws of the first subsets: their search, and that a work space says the same as the expression whose columns it
-- holds.
use Prim.Native.Nat.{ℕ, zero, suc, ◌+◌, ◌-◌, ◌≤◌, ◌<◌}
use Rattle.std.specs.Prelude.{◌≡◌, Bool, ◌&&◌, ltb, length, set, replicate}
use Rattle.std.proofs.Math.Path.{refl, ap, ap₂}
use Rattle.std.proofs.Common.{sym, ◌∙◌, arith, lit<}
use Rattle.std.proofs.Math.Bool.{cond}
use mathlib.Core.List.{List}
use Rattle.std.proofs.Math.Decide.{dec_lt}
use borrow.Author.Tests.{eq-eqb, ne_eqb, lt-ltb, le-ltb, le-leb}
use Rattle.std.proofs.Math.Dec.{eqb, leb}
use Rattle.std.proofs.Math.ListN.{get_or, get_or-replicate}
use Rattle.bits.specs.Lowest.{lowest_from, Lowest, search-found, search-next, search-ended, lowest-is, lowest-same}
use Rattle.bits.specs.Tab.{length-tab, get_or-tab, tab-is}
use Rattle.bits.specs.Written.{Written, written-more}
use Rattle.algebra.specs.Expression.{Expression}
use Rattle.column.specs.Column.{allowed_in}
use Rattle.stored_formula.specs.ColumnPlace.{column_at}
use Rattle.stored_formula.specs.FormulaBytes.{allowed_bit, cell_column}
use Rattle.stored_formula.specs.NodeColumn.{cell-allowed}
use Rattle.verdict_answer.specs.First.{allowed_at, blocked_by, chosen_by, subsets_by}
use Rattle.verdict_answer.specs.declared.Subsets.{Subsets}

-- ---- the subsets chosen

module _ (first : ℕ → ℕ) where
  pub blocked-lowest : Lowest 15 1 (λ i. eqb (first i) 256) (blocked_by first)
  unfolding blocked_by
  blocked-lowest = lowest-is 15 1 (λ i. eqb (first i) 256)

  pub chosen-size : length (chosen_by first) ≡ 16
  unfolding chosen_by
  chosen-size = length-tab 16 (λ i. cond (ltb i (blocked_by first) && leb 1 i) (first i) 0)

  -- no subset for attribute 0
  pub chosen_none : get_or (chosen_by first) 0 0 ≡ 0
  unfolding chosen_by
  chosen_none = let from = blocked-lowest.from in get_or-tab 16 (λ i. cond (ltb i (blocked_by first) && leb 1 i) (first i) 0) 0 0 (lit< tt) ∙ rw (lt-ltb 0 (blocked_by first) (omega arith))

  -- where no column is blocked, each special attribute has its first
  pub chosen-special : (i : ℕ) → 16 ≤ blocked_by first → 1 ≤ i → i < 16 → get_or (chosen_by first) i 0 ≡ first i
  unfolding chosen_by
  chosen-special i none some most =
      get_or-tab 16 (λ i. cond (ltb i (blocked_by first) && leb 1 i) (first i) 0) i 0 most
      ∙ rw (lt-ltb i (blocked_by first) (omega arith), le-leb 1 i some)

-- ---- the search for them, which stands at attribute i: no column below is blocked, and the subsets below are written

-- attributes below i are searched: no column among them allows nothing, and their subsets are written
pub record Choosing (first : ℕ → ℕ) (i : ℕ) (chosen : List ℕ) : Type 0 where
  pub some : 1 ≤ i
  pub most : i ≤ 16
  pub resumed : lowest_from (16 - i) i (λ j. eqb (first j) 256) ≡ blocked_by first
  pub written : Written (λ j. cond (leb 1 j) (first j) 0) i (replicate 16 0) chosen

module _ (first : ℕ → ℕ) where
  pub choose-first : Choosing first 1 (replicate 16 0)
  unfolding blocked_by
  choose-first = record { some = omega arith; most = omega arith; resumed = refl; written = record { size = refl; front = front; back = λ j h. refl } }
    where
      front : (j : ℕ) → j < 1 → get_or (replicate 16 0) j 0 ≡ cond (leb 1 j) (first j) 0
      front zero h = refl
      front (suc j) h = absurd (omega arith)

  module _ (i : ℕ) (chosen : List ℕ) (c : Choosing first i chosen) where
    -- it stops at i
    choose-stops : i ≡ blocked_by first → record { blocked = i; chosen = chosen } ≡ subsets_by first
    unfolding subsets_by chosen_by
    choose-stops blocked =
        ap₂ (λ (b : ℕ) (l : List ℕ). record { blocked = b; chosen = l }) blocked
        (tab-is 16 (λ j. cond (ltb j (blocked_by first) && leb 1 j) (first j) 0) 0 chosen c.written.size (λ j h. rw (← blocked) (each j h (dec_lt j i))))
      where
        each : (j : ℕ) → j < 16 → Dec (j < i) → get_or chosen j 0 ≡ cond (ltb j i && leb 1 j) (first j) 0
        each j h (yes before) = rw (lt-ltb j i before) (c.written.front j before)
        each j h (no past) = rw (le-ltb j i (omega arith)) (c.written.back j (omega arith) ∙ get_or-replicate 16 j 0 0 h)

    pub choose-ended : 16 ≤ i → record { blocked = i; chosen = chosen } ≡ subsets_by first
    choose-ended h = choose-stops (search-ended 16 i (blocked_by first) (λ j. eqb (first j) 256) c.resumed h)

    module _ (s : ℕ) (h : i < 16) (is : s ≡ first i) where
      pub choose-blocked : s ≡ 256 → record { blocked = i; chosen = chosen } ≡ subsets_by first
      choose-blocked nothing = choose-stops (search-found 16 i (blocked_by first) (λ j. eqb (first j) 256) c.resumed h (eq-eqb (first i) 256 (sym is ∙ nothing)))

      pub choose-next : (s ≡ 256 → ⊥) → Choosing first (i + 1) (set chosen i s)
      choose-next other =
          let size = c.written.size in
          record {
            some = omega arith;
            most = omega arith;
            resumed = search-next 16 i (blocked_by first) (λ j. eqb (first j) 256) c.resumed h (ne_eqb (first i) 256 (λ e. other (is ∙ e)));
            written = written-more (λ j. cond (leb 1 j) (first j) 0) i (replicate 16 0) chosen s (omega arith) c.written (is ∙ sym (ap (λ (t : Bool). cond t (first i) 0) (le-leb 1 i c.some)));
          }

-- what it found, by its two fields
module _ (first : ℕ → ℕ) (subsets : Subsets) (are : subsets ≡ subsets_by first) where
  pub subsets-blocked : subsets.blocked ≡ blocked_by first
  unfolding subsets_by
  subsets-blocked = ap (λ (s : Subsets). s.blocked) are

  pub subsets-chosen : subsets.chosen ≡ chosen_by first
  unfolding subsets_by
  subsets-chosen = ap (λ (s : Subsets). s.chosen) are

-- ---- two that agree on the columns choose alike

module _ (f g : ℕ → ℕ) (same : (i : ℕ) → i < 16 → f i ≡ g i) where
  pub blocked-same : blocked_by f ≡ blocked_by g
  unfolding blocked_by
  blocked-same = lowest-same 15 1 (λ i. eqb (f i) 256) (λ i. eqb (g i) 256) (λ i low high. ap (λ (x : ℕ). eqb x 256) (same i high))

-- ---- columns that allow the same

-- a formula by itself, and a work space in which it stands at node k
pub formula-cells :
    (formula work : List ℕ) (k : ℕ)
    → ((c : ℕ) → c < 16 → column_at formula 0 c ≡ column_at work k c)
    → (i s : ℕ)
    → i < 16
    → s < 256
    → allowed_at formula 0 i s ≡ allowed_at work k i s
formula-cells formula work k columns i s h below = ap (λ (column : List ℕ). allowed_in column s) (columns i h)

-- a work space that holds the columns of expression e at node k
pub stored-cells :
    (work : List ℕ) (k m : ℕ) (e : Expression)
    → ((c : ℕ) → c < 16 → column_at work k c ≡ cell_column m e c)
    → (i s : ℕ)
    → i < 16
    → s < 256
    → allowed_at work k i s ≡ allowed_bit m e i s
stored-cells work k m e columns i s h below = ap (λ (column : List ℕ). allowed_in column s) (columns i h) ∙ cell-allowed m e i s below
