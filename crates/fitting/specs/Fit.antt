-- A table that fits a node (FORMAT 6.3). Each standing bit has a list that is not empty, so the subsets of the
-- entries are the standing bits.
use Rattle.std.specs.Prelude.{ℕ, zero, suc, ◌+◌, ◌-◌, ◌≤◌, ◌<◌, ◌≡◌, refl, Bool, true, false, List, length, get_or, take}
use Rattle.std.proofs.Math.Path.{sym, ap, ap₂, fun_ext}
use Rattle.std.proofs.Common.{◌∙◌, lt_of_lt_of_le, mod-lt, lt-ltb, ltb-true, lit<, length-take-le, get_or-take, pow_pos}
use Rattle.std.proofs.Math.Bool.{◌&&◌}
use native.Mathlib.Omega.{arith}
use Rattle.std.proofs.Math.Dec.{ltb}
use Rattle.bits.specs.Booleans.{and_left, and_right}
use Rattle.bits.specs.AllBelow.{all_below, in_all, all_in, all_same}
use Rattle.bits.specs.Bit.{bit, bit-none}
use Rattle.algebra.specs.Expression.{Expression, Legal}
use Rattle.algebra.specs.Cell.{plain, out, ok}
use Rattle.algebra.specs.CellLaws.{cell-depends, cell-none}
use Rattle.states.specs.Formula.{type_variable}
use Rattle.column.specs.Column.{allowed_in, output_in}
use Rattle.stored_formula.specs.ColumnPlace.{column_at}
use Rattle.stored_formula.specs.FormulaBytes.{allowed_bit, cell_column}
use Rattle.stored_formula.specs.FormulaBytesLaws.{allowed-is, allowed-cell, output-allowed}
use Rattle.stored_formula.specs.NodeColumn.{cell-allowed, cell-output}
use Rattle.membership.specs.Entries.{subset_of}
use Rattle.membership.specs.Keeping.{kept_same}
use Rattle.table_types.specs.Output.{special_holders, typed_in, output_map, output_list}
use Rattle.table_types.specs.OutputLaws.{map-by-bits, all_typed}
use Rattle.table_types.specs.OutputRecord.{entry-cell}
use Rattle.special_maps.specs.Special.{maps_from}
use Rattle.special_maps.specs.SpecialLaws.{map-bit}
use Rattle.fitting.specs.StoredFit.{entries_allowed, specials_allowed, stored_map, stored_list}

-- FORMAT 6.3: the subset of each entry is a type variable
unfoldable pub entries_fit : ℕ → Expression → List ℕ → Bool
entries_fit m e entries = all_below (length entries) (λ i. type_variable (allowed_bit m e 0) (subset_of (get_or entries i 0)))

-- FORMAT 6.3: the subset of each special attribute is allowed in its column
unfoldable pub specials_fit : ℕ → Expression → List ℕ → Bool
specials_fit m e subsets = all_below 15 (λ i. allowed_bit m e (i + 1) (get_or subsets (i + 1) 0))

-- ---- what they say about each entry and each attribute

module _ (m : ℕ) (e : Expression) where
  pub entry-fits : (entries : List ℕ) → entries_fit m e entries ≡ true → (i : ℕ) → i < length entries → (1 ≤ subset_of (get_or entries i 0)) × (allowed_bit m e 0 (subset_of (get_or entries i 0)) ≡ true)
  unfolding entries_fit
  entry-fits entries fit i h =
      let s = subset_of (get_or entries i 0) in
      let passes = all_in (length entries) (λ i. type_variable (allowed_bit m e 0) (subset_of (get_or entries i 0))) fit i h in
      (ltb-true 0 s (and_left (ltb 0 s) (allowed_bit m e 0 s) passes), and_right (ltb 0 s) (allowed_bit m e 0 s) passes)

  pub fit-entries : (entries : List ℕ) → ((i : ℕ) → i < length entries → (1 ≤ subset_of (get_or entries i 0)) × (allowed_bit m e 0 (subset_of (get_or entries i 0)) ≡ true)) → entries_fit m e entries ≡ true
  unfolding entries_fit
  fit-entries entries each = in_all (length entries) (λ i. type_variable (allowed_bit m e 0) (subset_of (get_or entries i 0))) (λ i h. ap₂ ◌&&◌ (lt-ltb 0 (subset_of (get_or entries i 0)) (each i h).0) (each i h).1)

  pub special-fits : (subsets : List ℕ) → specials_fit m e subsets ≡ true → (i : ℕ) → 1 ≤ i → i ≤ 15 → allowed_bit m e i (get_or subsets i 0) ≡ true
  unfolding specials_fit
  special-fits subsets fit i some most =
      let same : i - 1 + 1 ≡ i = omega arith in
      sym (ap (λ (j : ℕ). allowed_bit m e j (get_or subsets j 0)) same) ∙ all_in 15 (λ i. allowed_bit m e (i + 1) (get_or subsets (i + 1) 0)) fit (i - 1) (omega arith)

  pub fit-specials : (subsets : List ℕ) → ((i : ℕ) → 1 ≤ i → i ≤ 15 → allowed_bit m e i (get_or subsets i 0) ≡ true) → specials_fit m e subsets ≡ true
  unfolding specials_fit
  fit-specials subsets each = in_all 15 (λ i. allowed_bit m e (i + 1) (get_or subsets (i + 1) 0)) (λ i h. each (i + 1) (omega arith) (omega arith))

-- ---- as the work space says

-- the entries in memory, so many of them
pub entries-counted :
    (work : List ℕ) (k : ℕ) (items : List ℕ) (count : ℕ)
    → count ≤ length items
    → all_below count (λ i. type_variable (allowed_in (column_at work k 0)) (subset_of (get_or items i 0))) ≡ entries_allowed work k (take count items)
unfolding entries_allowed
entries-counted work k items count enough =
    all_same count _ (λ i. type_variable (allowed_in (column_at work k 0)) (subset_of (get_or (take count items) i 0)))
    (λ i h. ap (λ (x : ℕ). type_variable (allowed_in (column_at work k 0)) (subset_of x)) (sym (get_or-take count items i 0 h)))
    ∙ ap (λ (n : ℕ). all_below n (λ i. type_variable (allowed_in (column_at work k 0)) (subset_of (get_or (take count items) i 0)))) (sym (length-take-le count items enough))

-- a work space that holds the columns of e at node k
module _ (work : List ℕ) (k m : ℕ) (e : Expression) (columns : (c : ℕ) → c < 16 → column_at work k c ≡ cell_column m e c) where
  stored : (c s : ℕ) → c < 16 → s < 256 → allowed_in (column_at work k c) s ≡ allowed_bit m e c s
  stored c s hc hs = ap (λ (l : List ℕ). allowed_in l s) (columns c hc) ∙ cell-allowed m e c s hs

  pub entries-stored : (entries : List ℕ) → entries_allowed work k entries ≡ entries_fit m e entries
  unfolding entries_allowed entries_fit
  entries-stored entries = all_same (length entries) _ _ (λ i h. ap (λ (b : Bool). ltb 0 (subset_of (get_or entries i 0)) && b) (stored 0 (subset_of (get_or entries i 0)) (lit< tt) (mod-lt (get_or entries i 0) (lit< tt))))

  pub specials-stored : (subsets : List ℕ) → ((i : ℕ) → get_or subsets i 0 < 256) → specials_allowed work k subsets ≡ specials_fit m e subsets
  unfolding specials_allowed specials_fit
  specials-stored subsets small = all_same 15 _ _ (λ i h. stored (i + 1) (get_or subsets (i + 1) 0) (omega arith) (small (i + 1)))

-- ---- a table that fits is typed

module _ (m : ℕ) (few : m ≤ 8) (e : Expression) (legal : Legal m e) where
  special-cell : (subsets : List ℕ) (i : ℕ) → i < 16 → ok plain e i (special_holders (maps_from subsets) i) ≡ ok plain e i (bit (get_or subsets i 0))
  special-cell subsets i h = (cell-depends plain m e legal i (special_holders (maps_from subsets) i) (bit (get_or subsets i 0)) (λ r below. map-bit subsets r i (lt_of_lt_of_le below few) h)).0

  pub fits-typed : (subsets entries : List ℕ) → get_or subsets 0 0 ≡ 0 → entries_fit m e entries ≡ true → specials_fit m e subsets ≡ true → typed_in e (maps_from subsets) entries ≡ true
  fits-typed subsets entries none fit special = all_typed e (maps_from subsets) entries specials listed
    where
      specials : (i : ℕ) → i < 16 → ok plain e i (special_holders (maps_from subsets) i) ≡ true
      specials zero h =
          let nobody : bit (get_or subsets 0 0) ≡ (λ r. false) = ap bit none ∙ fun_ext bit-none in
          special-cell subsets 0 h ∙ rw nobody (cell-none plain refl refl m e legal).0
      specials (suc i) h = special-cell subsets (suc i) h ∙ allowed-cell m e (suc i) (get_or subsets (suc i) 0) (special-fits m e subsets special (suc i) (omega arith) (omega arith))

      listed : (i : ℕ) → i < length entries → ok plain e 0 (bit (get_or entries i 0)) ≡ true
      listed i h = sym (entry-cell m few e legal (get_or entries i 0)).0 ∙ allowed-cell m e 0 (subset_of (get_or entries i 0)) (entry-fits m e entries fit i h).1

-- ---- the output of a table that fits is what the output bits say

module _ (m : ℕ) (few : m ≤ 8) (e : Expression) (legal : Legal m e) (work : List ℕ) (k : ℕ) (columns : (c : ℕ) → c < 16 → column_at work k c ≡ cell_column m e c) where
  -- the output bit of a subset that is allowed
  output-stored : (c s : ℕ) → c < 16 → s < 256 → allowed_bit m e c s ≡ true → output_in (column_at work k c) s ≡ out plain e c (bit s)
  output-stored c s hc hs allowed = ap (λ (l : List ℕ). output_in l s) (columns c hc) ∙ cell-output m e c s hs ∙ output-allowed m e c s allowed

  pub map-stored : (subsets : List ℕ) → ((i : ℕ) → get_or subsets i 0 < 256) → get_or subsets 0 0 ≡ 0 → specials_fit m e subsets ≡ true → stored_map work k subsets ≡ output_map e (maps_from subsets)
  unfolding stored_map
  map-stored subsets small none special = map-by-bits e (maps_from subsets) (λ i. output_in (column_at work k i) (get_or subsets i 0)) each
    where
      held : (i : ℕ) → i < 16 → out plain e i (special_holders (maps_from subsets) i) ≡ out plain e i (bit (get_or subsets i 0))
      held i h = (cell-depends plain m e legal i (special_holders (maps_from subsets) i) (bit (get_or subsets i 0)) (λ r below. map-bit subsets r i (lt_of_lt_of_le below few) h)).1

      nobody : allowed_bit m e 0 (get_or subsets 0 0) ≡ true
      nobody =
          let nobody : bit 0 ≡ (λ r. false) = fun_ext bit-none in
          rw none (allowed-is m e 0 0 (pow_pos m) ∙ rw nobody (cell-none plain refl refl m e legal).0)

      allowed : (i : ℕ) → i < 16 → allowed_bit m e i (get_or subsets i 0) ≡ true
      allowed zero h = nobody
      allowed (suc i) h = special-fits m e subsets special (suc i) (omega arith) (omega arith)

      each : (i : ℕ) → i < 16 → output_in (column_at work k i) (get_or subsets i 0) ≡ out plain e i (special_holders (maps_from subsets) i)
      each i h = output-stored i (get_or subsets i 0) h (small i) (allowed i h) ∙ sym (held i h)

  pub list-stored : (entries : List ℕ) → entries_fit m e entries ≡ true → stored_list work k entries ≡ output_list e entries
  list-stored entries fit =
      kept_same entries (λ x. output_in (column_at work k 0) (subset_of x)) (λ x. out plain e 0 (bit x))
      (λ i h. output-stored 0 (subset_of (get_or entries i 0)) (lit< tt) (mod-lt (get_or entries i 0) (lit< tt)) (entry-fits m e entries fit i h).1 ∙ (entry-cell m few e legal (get_or entries i 0)).1)
