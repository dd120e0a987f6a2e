-- What a formula by itself says of a table is what the node says at which it stands in a work space.
use Rattle.std.specs.Prelude.{ℕ, ◌+◌, ◌<◌, ◌≡◌, List, length, get_or}
use Rattle.std.proofs.Common.{ap, arith, lit<}
use Rattle.bits.specs.AllBelow.{all_below, all_same}
use Rattle.bits.specs.Pack.{pack-same}
use Rattle.states.specs.Formula.{type_variable}
use Rattle.membership.specs.Entries.{subset_of}
use Rattle.membership.specs.Holders.{kept}
use Rattle.column.specs.Column.{allowed_in, output_in}
use Rattle.stored_formula.specs.ColumnPlace.{column_at}
use Rattle.fitting.specs.StoredFit.{specials_allowed, stored_map, stored_list}

module _ (formula work : List ℕ) (k : ℕ) (columns : (c : ℕ) → c < 16 → column_at formula 0 c ≡ column_at work k c) where
  pub entries-alone : (entries : List ℕ) → all_below (length entries) (λ i. type_variable (allowed_in (column_at formula 0 0)) (subset_of (get_or entries i 0))) ≡ all_below (length entries) (λ i. type_variable (allowed_in (column_at work k 0)) (subset_of (get_or entries i 0)))
  entries-alone entries = ap (λ (l : List ℕ). all_below (length entries) (λ i. type_variable (allowed_in l) (subset_of (get_or entries i 0)))) (columns 0 (lit< tt))

  pub specials-alone : (subsets : List ℕ) → specials_allowed formula 0 subsets ≡ specials_allowed work k subsets
  unfolding specials_allowed
  specials-alone subsets = all_same 15 _ _ (λ i h. ap (λ (l : List ℕ). allowed_in l (get_or subsets (i + 1) 0)) (columns (i + 1) (omega arith)))

  pub map-alone : (subsets : List ℕ) → stored_map formula 0 subsets ≡ stored_map work k subsets
  unfolding stored_map
  map-alone subsets = pack-same 16 _ _ (λ i h. ap (λ (l : List ℕ). output_in l (get_or subsets i 0)) (columns i h))

  pub list-alone : (entries : List ℕ) → stored_list formula 0 entries ≡ stored_list work k entries
  list-alone entries = ap (λ (l : List ℕ). kept (λ e. output_in l (subset_of e)) entries) (columns 0 (lit< tt))
