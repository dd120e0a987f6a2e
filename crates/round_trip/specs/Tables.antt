-- Which tables there are: those of schemas, and those of instantiations that fit. A table fits a node
-- exactly where it types it.
use Rattle.std.specs.Prelude.{ℕ, zero, suc, ◌^◌, ◌≤◌, ◌<◌, ◌≡◌, true, ◌&&◌, List, length, get_or}
use Rattle.std.proofs.Common.{ap₂, ◌∙◌, lt_of_lt_of_le, arith, pow_pos}
use Rattle.bits.specs.Bit.{bit}
use Rattle.algebra.specs.Expression.{Expression, Legal}
use Rattle.algebra.specs.Cell.{plain}
use Rattle.algebra.specs.CellLaws.{cell-depends}
use Rattle.bits.specs.Booleans.{same_test, and_left, and_right}
use Rattle.stored_formula.specs.FormulaBytes.{allowed_bit}
use Rattle.stored_formula.specs.FormulaBytesLaws.{allowed-is, allowed-below}
use Rattle.membership.specs.Entries.{subset_of}
use Rattle.membership.specs.EnterLaws.{RisingEntries}
use Rattle.membership.specs.TableLaws.{Below}
use Rattle.table_types.specs.Output.{special_holders, typed_in}
use Rattle.table_types.specs.OutputLaws.{typed-special, typed-entry}
use Rattle.table_types.specs.OutputRecord.{entry-cell}
use Rattle.special_maps.specs.Special.{maps_from, subsets_from}
use Rattle.special_maps.specs.SpecialLaws.{maps-length, maps-even, maps-small as subset-maps-small, maps-empty as subset-maps-empty, subset-bit, subset-below, subset-zero, maps-back}
use Rattle.schema.specs.Bounds.{held_at}
use Rattle.fitting.specs.Fit.{entries_fit, specials_fit, fit-entries, special-fits, fit-specials, fits-typed}
use Rattle.schema.specs.Image.{IsTable}
use Rattle.recover_answer.specs.Recover.{fits}
use Rattle.round_trip.specs.StandingFit.{fit-held}

-- ---- of instantiations

module _ (m : ℕ) (few : m ≤ 8) (e : Expression) (subsets es : List ℕ) (none : get_or subsets 0 0 ≡ 0) (fit : entries_fit m e es ≡ true) (special : specials_fit m e subsets ≡ true) where
  pub subsets-below : (i : ℕ) → i < 16 → get_or subsets i 0 < 2 ^ m
  subsets-below zero h = rw none (pow_pos m)
  subsets-below (suc i) h = allowed-below m e (suc i) (get_or subsets (suc i) 0) (special-fits m e subsets special (suc i) (omega arith) (omega arith))

  pub fit-table : length es ≤ 255 → RisingEntries 15 es → Below 16777216 es → IsTable m (maps_from subsets) es
  fit-table fits rising below =
      record {
        size = maps-length subsets;
        even = maps-even subsets none;
        small = subset-maps-small subsets;
        empty = subset-maps-empty subsets m subsets-below;
        few = fits;
        rising = rising;
        below = below;
        held = fit-held m e es fit;
      }

-- ---- a table fits a node exactly where it types it

module _ (m : ℕ) (few : m ≤ 8) (e : Expression) (legal : Legal m e) (maps es : List ℕ) (table : IsTable m maps es) where
  typed-fit : typed_in e maps es ≡ true → fits m e maps es ≡ true
  typed-fit typed = ap₂ ◌&&◌ (fit-entries m e es listed) (fit-specials m e (subsets_from maps) specials)
    where
      listed : (i : ℕ) → i < length es → (1 ≤ subset_of (get_or es i 0)) × (allowed_bit m e 0 (subset_of (get_or es i 0)) ≡ true)
      listed i h =
          let bounds = held_at m es table.held i h in
          (bounds.0, allowed-is m e 0 (subset_of (get_or es i 0)) bounds.1 ∙ (entry-cell m few e legal (get_or es i 0)).0 ∙ typed-entry e maps es typed i h)

      specials : (i : ℕ) → 1 ≤ i → i ≤ 15 → allowed_bit m e i (get_or (subsets_from maps) i 0) ≡ true
      specials i some most =
          let below = subset-below maps m i few (omega arith) table.empty in
          let same = (cell-depends plain m e legal i (bit (get_or (subsets_from maps) i 0)) (special_holders maps i) (λ r less. subset-bit maps i r (omega arith) (lt_of_lt_of_le less few))).0 in
          allowed-is m e i (get_or (subsets_from maps) i 0) below ∙ same ∙ typed-special e maps es typed i (omega arith)

  fit-typed : fits m e maps es ≡ true → typed_in e maps es ≡ true
  fit-typed fit =
      let back = maps-back maps table.size table.small in
      rw back at
      (fits-typed m few e legal (subsets_from maps) es (subset-zero maps table.even)
      (and_left (entries_fit m e es) (specials_fit m e (subsets_from maps)) fit)
      (and_right (entries_fit m e es) (specials_fit m e (subsets_from maps)) fit))

  pub fits-same : fits m e maps es ≡ typed_in e maps es
  fits-same = same_test (fits m e maps es) (typed_in e maps es) (fit-typed, typed-fit)
