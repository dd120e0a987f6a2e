-- A reading as it was handed on, and what it is once 25 is tested.
use Prim.Native.Nat.{ℕ, ◌≤◌}
use mathlib.Core.Path.{◌≡◌, sym, ap, ap₂, ◌∙◌}
use mathlib.Core.Bool.{Bool, true, false}
use mathlib.Core.List.{List}
use native.Mathlib.Omega.{arith}
use lib.ListN.{take}
use Rattle.bits.specs.Word.{Bytes}
use Rattle.refusal.specs.declared.Refusal.{Refusal}
use Rattle.refusal.specs.declared.Refusal.TheVariants.{EmptyRecord}
use Rattle.schema.specs.Schema.{schema_reading, reading_of, EntriesStand, WritesFrom, Schema, refused_schema}
use Rattle.schema.specs.TableLaws.{schema-read, handed-on, refused-reading, read_table, Handed, refused-on, refused-not}
use Rattle.schema.specs.declared.reading.SchemaTable.{SchemaTable}
use Rattle.filled_schema.specs.FilledSchema.{table_filled, filled_reading}
use Rattle.filled_schema.specs.FilledLaws.{read_filled, refused-filled, read-filled, read-empty}
use Rattle.std.specs.Prelude.{Ok, Err}

-- a schema that is refused: the answer, and no entries to stand anywhere
refused-so : (m : ℕ) (bytes items : List ℕ) (x : Refusal) → filled_reading m bytes ≡ refused_schema x →
    (Err x ≡ reading_of (filled_reading m bytes)) × EntriesStand (filled_reading m bytes).judgement (filled_reading m bytes).entries items
refused-so m bytes items x is = (sym (refused-reading x) ∙ ap reading_of (sym is), λ read. absurd (refused-not x (sym (ap (λ (s : Schema). s.judgement) is) ∙ read)))

-- it was refused already
pub tested-refused :
    (m : ℕ) (bytes items : List ℕ) (r : Refusal)
    → Err r ≡ reading_of (schema_reading m bytes)
    → (Err r ≡ reading_of (filled_reading m bytes))
    × EntriesStand (filled_reading m bytes).judgement (filled_reading m bytes).entries items
tested-refused m bytes items r said =
    let judged = refused-on (schema_reading m bytes) r said in
    let same = refused-filled m bytes r judged in (
      said ∙ ap reading_of (sym same),
      (λ read. absurd (let both = sym judged ∙ sym (ap (λ (s : Schema). s.judgement) same) ∙ read in let z : ◌≡◌ {A = ℕ} 0 1 = cc in omega arith)),
    )

module _ (m : ℕ) (bytes items : List ℕ) (x : SchemaTable) (is : Ok x ≡ reading_of (schema_reading m bytes)) where
  handed : Handed (schema_reading m bytes) x
  handed = handed-on (schema_reading m bytes) x is

  module _ (few : m ≤ 8) (below : Bytes bytes) (stands : EntriesStand (schema_reading m bytes).judgement (schema_reading m bytes).entries items) where
    -- its table can be tested
    pub handed-table : WritesFrom x.special items x.count
    handed-table =
        let special = handed.special in
        let number = handed.count in
        let found = schema-read m bytes handed.judgement in
        rw (special, number) (read_table m bytes (schema_reading m bytes) found.0 items few below found.1 (stands handed.judgement))

    test-is : table_filled m x.special (take x.count items) ≡ read_filled m bytes
    test-is = ap₂ (table_filled m) handed.special (ap (λ (n : ℕ). take n items) handed.count ∙ stands handed.judgement)

    -- a relation is empty
    pub tested-empty :
        (t : Bool)
        → t ≡ false
        → t ≡ table_filled m x.special (take x.count items)
        → (Err EmptyRecord ≡ reading_of (filled_reading m bytes))
        × EntriesStand (filled_reading m bytes).judgement (filled_reading m bytes).entries items
    tested-empty t fails t-is = refused-so m bytes items EmptyRecord (read-empty m bytes handed.judgement (sym test-is ∙ sym t-is ∙ fails))

    -- none is
    pub tested-read :
        (t : Bool)
        → t ≡ true
        → t ≡ table_filled m x.special (take x.count items)
        → (Ok x ≡ reading_of (filled_reading m bytes))
        × EntriesStand (filled_reading m bytes).judgement (filled_reading m bytes).entries items
    tested-read t holds t-is =
        let same = read-filled m bytes handed.judgement (sym test-is ∙ sym t-is ∙ holds) in (
          is ∙ ap reading_of (sym same),
          (λ read. rw same (stands handed.judgement)),
        )
