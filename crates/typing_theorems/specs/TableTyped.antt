-- A table types an expression exactly as the typing rules do, under the assignment that the records of the schema mean.
use Rattle.std.specs.Prelude.{ℕ, zero, suc, ◌≤◌, ◌<◌, ◌≡◌, refl, Bool, true, false, List, length, get_or}
use Rattle.std.proofs.Common.{sym, ap, ◌∙◌, lt_of_lt_of_le, arith}
use Rattle.std.proofs.Math.Path.{fun_ext}
use Rattle.bits.specs.Bit.{bit, bit-first}
use Rattle.attribute_set.specs.AttrSet.{special}
use Rattle.attribute_set.specs.Laws.{special-range, special-in, special-above}
use Rattle.types.specs.Types.{Attrs, column}
use Rattle.types.specs.Laws.{column-of-special, column-of-other}
use Rattle.algebra.specs.Expression.{Expression, Legal}
use Rattle.algebra.specs.Rules.{Typed}
use Rattle.algebra.specs.Cell.{plain, out, ok}
use Rattle.algebra.specs.CellLaws.{cell-depends, cell-none}
use Rattle.algebra.specs.ByAttribute.{CellOf}
use Rattle.algebra.proofs.ByAttribute.{typed-cells, cells-typed, typed-once}
use Rattle.type_record.specs.Record.{TypeRecord, type_of}
use Rattle.type_record.specs.RecordBytes.{IsRecord}
use Rattle.type_record.specs.RecordTypes.{type-of-special, type-of-other}
use Rattle.membership.specs.Entries.{holders_in}
use Rattle.schema.specs.Schema.{no_record, assignment_of, entries_of, maps_of}
use Rattle.schema.specs.RecordsLaws.{AllRecords}
use Rattle.schema.specs.EntriesLaws.{entries-rising, entries-holders, entries_below}
use Rattle.schema.specs.TableLaws.{maps-at, maps-is}
use Rattle.table_types.specs.Output.{special_holders, typed_in}
use Rattle.table_types.specs.OutputLaws.{typed-special, typed-entry, all_typed}
use Rattle.table_types.specs.OutputRecord.{output_record, output-of-special, output-of-other, output-is, output-member, holders-allowed, entries-allowed}

-- a legal expression over m relations, and the records of a schema of m relations with at most 255
-- different ordinary attributes
module _ (m : ℕ) (few : m ≤ 8) (e : Expression) (legal : Legal m e) (ts : List TypeRecord) (all : AllRecords ts) (size : length ts ≡ m) where
  eight : length ts ≤ 8
  eight = omega arith

  -- ---- the cell of each attribute, by the table

  special-held : (a r : ℕ) → special a ≡ true → r < m → assignment_of ts r a ≡ special_holders (maps_of ts) a r
  special-held a r h below = type-of-special (get_or ts r no_record) a h ∙ ap (λ (x : ℕ). bit x a) (sym (maps-is ts r (lt_of_lt_of_le below few)))

  ordinary-held : (a r : ℕ) → special a ≡ false → r < m → assignment_of ts r a ≡ bit (holders_in (entries_of ts) a) r
  ordinary-held a r h below = type-of-other (get_or ts r no_record) a h ∙ sym (entries-holders ts eight all a r (lt_of_lt_of_le below few))

  special-cell :
      (a : ℕ)
      → special a ≡ true
      → (ok plain e (column a) (λ r. assignment_of ts r a) ≡ ok plain e a (special_holders (maps_of ts) a))
      × (out plain e (column a) (λ r. assignment_of ts r a) ≡ out plain e a (special_holders (maps_of ts) a))
  special-cell a h = rw (column-of-special a h) (cell-depends plain m e legal a (λ r. assignment_of ts r a) (special_holders (maps_of ts) a) (λ r below. special-held a r h below))

  ordinary-cell :
      (a : ℕ)
      → special a ≡ false
      → (ok plain e (column a) (λ r. assignment_of ts r a) ≡ ok plain e 0 (bit (holders_in (entries_of ts) a)))
      × (out plain e (column a) (λ r. assignment_of ts r a) ≡ out plain e 0 (bit (holders_in (entries_of ts) a)))
  ordinary-cell a h = rw (column-of-other a h) (cell-depends plain m e legal 0 (λ r. assignment_of ts r a) (bit (holders_in (entries_of ts) a)) (λ r below. ordinary-held a r h below))

  -- ---- typed over the table, then by the rules

  -- the type of the output record
  abbrev pub output : Attrs
  output = type_of (output_record e (maps_of ts) (entries_of ts))

  special-output : (a : ℕ) → special a ≡ true → output a ≡ out plain e a (special_holders (maps_of ts) a)
  special-output = output-of-special e (maps_of ts) (entries_of ts)

  ordinary-output : (a : ℕ) → special a ≡ false → output a ≡ out plain e 0 (bit (holders_in (entries_of ts) a))
  ordinary-output a h = output-of-other e (maps_of ts) (entries_of ts) a h ∙ output-member m few e legal 15 (entries_of ts) (entries-rising ts eight all) a

  pub table-rules : typed_in e (maps_of ts) (entries_of ts) ≡ true → Typed (assignment_of ts) e output
  table-rules typed = cells-typed m e legal (assignment_of ts) output (λ a. cell a (special a) refl)
    where
      cell : (a : ℕ) (t : Bool) → special a ≡ t → CellOf (assignment_of ts) e output a
      cell a true h =
          let range = special-range a h in
          record {
            allowed = (special-cell a h).0 ∙ typed-special e (maps_of ts) (entries_of ts) typed a (omega arith);
            output = (special-cell a h).1 ∙ sym (special-output a h);
          }
      cell a false h =
          record {
            allowed = (ordinary-cell a h).0 ∙ holders-allowed m few e legal (entries_of ts) (typed-entry e (maps_of ts) (entries_of ts) typed) a;
            output = (ordinary-cell a h).1 ∙ sym (ordinary-output a h);
          }

  -- ---- typed by the rules, then over the table

  none-special : ok plain e 0 (special_holders (maps_of ts) 0) ≡ true
  none-special =
      let none : special_holders (maps_of ts) 0 ≡ (λ r. false) = fun_ext (λ r. bit-first (get_or (maps_of ts) r 0) ∙ rw (maps-at ts all r)) in
      rw none (cell-none plain refl refl m e legal).0

  pub rules-table : (t : Attrs) → Typed (assignment_of ts) e t → typed_in e (maps_of ts) (entries_of ts) ≡ true
  rules-table t typed =
      all_typed e (maps_of ts) (entries_of ts) specials
      (entries-allowed m few e legal 15 (entries_of ts) (entries-rising ts eight all)
      (λ a above. sym (ordinary-cell a (special-above a above)).0 ∙ (typed-cells m e legal (assignment_of ts) t typed a).allowed))
    where
      specials : (i : ℕ) → i < 16 → ok plain e i (special_holders (maps_of ts) i) ≡ true
      specials zero h = none-special
      specials (suc i) h = sym (special-cell (suc i) (special-in (suc i) (omega arith) (omega arith))).0 ∙ (typed-cells m e legal (assignment_of ts) t typed (suc i)).allowed

  -- the rules derive the output's type and no other
  pub rules-output : (t : Attrs) → Typed (assignment_of ts) e t → t ≡ output
  rules-output t typed = typed-once m e legal (assignment_of ts) t output typed (table-rules (rules-table t typed))

  pub output-record : length (entries_of ts) ≤ 255 → IsRecord (output_record e (maps_of ts) (entries_of ts))
  output-record fits = output-is m few e legal (maps_of ts) (entries_of ts) (maps-at ts all) fits (entries-rising ts eight all) (entries_below ts eight all)
