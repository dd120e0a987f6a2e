-- A membership table against a node's stored formula (FORMAT 6.3, 6.5).
use Rattle.std.specs.Prelude.{ℕ, ◌+◌, ◌-◌, ◌*◌, ◌/◌, ◌%◌, ◌≤◌, ◌<◌, ◌≡◌, Bool, true, false, cond, List, length, get_or, take, drop}
use Rattle.std.proofs.Common.{sym, ap, ◌∙◌, arith, get_or-drop, pow_mono}
use Rattle.bits.specs.AllBelow.{all_below}
use Rattle.bits.specs.Bit.{bit}
use Rattle.bits.specs.Part.{part-from}
use Rattle.bits.specs.Pack.{pack}
use Rattle.bits.specs.PackFrom.{pack_from, from-none, from-lower, from-below, from_all}
use Rattle.states.specs.Formula.{type_variable}
use Rattle.membership.specs.Entries.{subset_of}
use Rattle.membership.specs.Holders.{kept}
use Rattle.column.specs.Column.{allowed_in, output_in}
use Rattle.column.specs.ColumnLaws.{allowed-bit, output-bit}
use Rattle.stored_formula.specs.ColumnPlace.{column_at}
use Rattle.stored_formula.specs.ColumnPlaceLaws.{column-byte}
use Rattle.admission.specs.Admission.{formula_size}

-- the subset of each entry is a type variable of node k
unfoldable pub entries_allowed : List ℕ → ℕ → List ℕ → Bool
entries_allowed work k entries = all_below (length entries) (λ i. type_variable (allowed_in (column_at work k 0)) (subset_of (get_or entries i 0)))

-- the subset of each special attribute is allowed in its column
unfoldable pub specials_allowed : List ℕ → ℕ → List ℕ → Bool
specials_allowed work k subsets = all_below 15 (λ i. allowed_in (column_at work k (i + 1)) (get_or subsets (i + 1) 0))

-- the special attributes that the output has by the bits of their columns
unfoldable pub stored_map : List ℕ → ℕ → List ℕ → ℕ
stored_map work k subsets = pack 16 (λ i. output_in (column_at work k i) (get_or subsets i 0))

-- the ordinary ones, by the bits of column 0
abbrev pub stored_list : List ℕ → ℕ → List ℕ → List ℕ
stored_list work k entries = kept (λ e. output_in (column_at work k 0) (subset_of e)) entries

-- ---- the bits in the work space

allowed_at_lem : (work : List ℕ) (k c s : ℕ) → s < 256 → allowed_in (column_at work k c) s ≡ bit (get_or work (k * formula_size + c * 64 + s / 8) 0) (s % 8)
allowed_at_lem work k c s h = allowed-bit (column_at work k c) s ∙ ap (λ (x : ℕ). bit x (s % 8)) (column-byte work k c (s / 8) (omega arith))

output-at : (work : List ℕ) (k c s : ℕ) → s < 256 → output_in (column_at work k c) s ≡ bit (get_or work (k * formula_size + c * 64 + (32 + s / 8)) 0) (s % 8)
output-at work k c s h = output-bit (column_at work k c) s ∙ ap (λ (x : ℕ). bit x (s % 8)) (column-byte work k c (32 + s / 8) (omega arith))

-- the part of the work space from a column on says the same as the column
module _ (work : List ℕ) (k c s : ℕ) (h : s < 256) where
  -- as it is lent
  abbrev lent : List ℕ
  lent = take (length work - (k * formula_size + c * 64)) (drop (k * formula_size + c * 64) work)

  pub allowed-lent : allowed_in lent s ≡ allowed_in (column_at work k c) s
  allowed-lent =
      ap (λ (l : List ℕ). allowed_in l s) (part-from work (k * formula_size + c * 64))
      ∙ allowed-bit (drop (k * formula_size + c * 64) work) s
      ∙ ap (λ (x : ℕ). bit x (s % 8)) (get_or-drop (k * formula_size + c * 64) work (s / 8) 0)
      ∙ sym (allowed_at_lem work k c s h)

  pub output-lent : output_in lent s ≡ output_in (column_at work k c) s
  output-lent =
      ap (λ (l : List ℕ). output_in l s) (part-from work (k * formula_size + c * 64))
      ∙ output-bit (drop (k * formula_size + c * 64) work) s
      ∙ ap (λ (x : ℕ). bit x (s % 8)) (get_or-drop (k * formula_size + c * 64) work (32 + s / 8) 0)
      ∙ sym (output-at work k c s h)

pub digit-small : {r : ℕ} (b : Bool) → r ≡ cond b 1 0 → r ≤ 1
digit-small true is = rw is (omega arith)
digit-small false is = rw is (omega arith)

-- ---- the map from bit i up

-- the bits from a number on of the map of the output, as a loop from the highest bit has them
abbrev pub map_from : List ℕ → ℕ → List ℕ → ℕ → ℕ
map_from work k subsets = pack_from 16 (λ i. output_in (column_at work k i) (get_or subsets i 0))

module _ (work : List ℕ) (k : ℕ) (subsets : List ℕ) where
  pub map_first : 0 ≡ map_from work k subsets 16
  map_first = sym (from-none 16 (λ i. output_in (column_at work k i) (get_or subsets i 0)))

  pub map-lower : (i : ℕ) → 1 ≤ i → i ≤ 16 → map_from work k subsets (i - 1) ≡ map_from work k subsets i * 2 + cond (output_in (column_at work k (i - 1)) (get_or subsets (i - 1) 0)) 1 0
  map-lower = from-lower 16 (λ i. output_in (column_at work k i) (get_or subsets i 0))

  pub map_below : (i : ℕ) → 1 ≤ i → map_from work k subsets i < 32768
  map_below i some =
      let below = from-below 16 (λ i. output_in (column_at work k i) (get_or subsets i 0)) i in
      let most = pow_mono {i = 16 - i} {j = 15} (omega arith) in
      omega arith

  pub map-all : map_from work k subsets 0 ≡ stored_map work k subsets
  unfolding stored_map
  map-all = from_all 16 (λ i. output_in (column_at work k i) (get_or subsets i 0))
