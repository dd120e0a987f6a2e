-- Laws of Typing: what the code finds is what the definitions say, the results after each refusal, and after none.
use Rattle.std.specs.Prelude.{ℕ, ◌+◌, ◌*◌, ◌/◌, ◌%◌, ◌^◌, ◌≤◌, ◌<◌, ◌≡◌, refl, true, false, List, eqb, length, get_or, take, Err, Result, Option, Some, None, Ok}
use Rattle.std.proofs.Common.{sym, ap, ap₂, ◌∙◌, add-zero, arith, eq-eqb, ne_eqb}
use Rattle.bits.specs.Bit.{bit}
use Rattle.bits.specs.Tab.{over}
use Rattle.refusal.specs.declared.Refusal.{Refusal}
use Rattle.refusal.specs.Several.{several_read as records_read}
use Rattle.admission.specs.Admission.{asked, sliced}
use Rattle.algebra.specs.Expression.{Expression, Legal}
use Rattle.node_expression.specs.NodeExpression.{expression_at}
use Rattle.type_record.specs.Record.{TypeRecord, record_size, record_bytes, output_size}
use Rattle.schema.specs.Schema.{Schema, read_records, entries_of, maps_of, WritesFrom}
use Rattle.schema.specs.TableLaws.{read-entries}
use Rattle.filled_schema.specs.FilledSchema.{table_filled, filled_reading}
use Rattle.filled_schema.specs.FilledLaws.{schema-filled}
use Rattle.type_sets.specs.Sets.{width_of, TypeIn, words_at}
use Rattle.type_sets.specs.FilledSets.{Filled}
use Rattle.table_types.specs.Output.{typed_in, output_map, output_list}
use Rattle.table_types.specs.OutputLaws.{map-even, output-map-below}
use Rattle.typing_answer.specs.TypeWords.{OutputBits, typed-words, map_is, entry-output}
use Rattle.typing_answer.specs.Typing.{table_answer, table_out, schema_answer, schema_out, typing_answer, typing_out, Typed, Untyped}
use Rattle.expression_file.specs.ReadFile.{Accepted}
use Rattle.schema.specs.Judgement.{Read, Refused as SchemaRefused}

-- ---- over a table

-- where it is typed, the output record; where it is not, nothing
module _ (e : Expression) (special entries : List ℕ) where
  pub answer_typed : typed_in e special entries ≡ true → table_answer e special entries ≡ Some (record_size (length (output_list e entries)))
  unfolding table_answer
  answer_typed typed = rw typed

  pub answer-untyped : typed_in e special entries ≡ false → table_answer e special entries ≡ None
  unfolding table_answer
  answer-untyped fails = rw fails

  pub out-typed : (out : List ℕ) → typed_in e special entries ≡ true → table_out e special entries out ≡ over (record_bytes (output_map e special) (output_list e entries)) out
  unfolding table_out
  out-typed out typed = rw typed

  pub out-untyped : (out : List ℕ) → typed_in e special entries ≡ false → table_out e special entries out ≡ out
  unfolding table_out
  out-untyped out fails = rw fails

-- the words of node k's type say whether it is typed, and its output
module _ (file : List ℕ) (m k : ℕ) (legal : Legal m (expression_at file k)) (special items : List ℕ) (count : ℕ)
    (small : (r : ℕ) → get_or special r 0 < 65536) (table : WritesFrom special items count) (sets : List ℕ)
    (filled : Filled file special (take count items) (width_of count) (k + 1) sets) (below : (p : ℕ) → get_or sets p 0 < 2 ^ 64) where
  -- the expression of the node
  abbrev e : Expression
  e = expression_at file k

  -- the place of its words
  abbrev start : ℕ
  start = k * width_of count

  t : TypeIn e special (take count items) (width_of count) (words_at sets start)
  t = filled.node k (omega arith)

  first-is : words_at sets start 0 ≡ get_or sets start 0
  first-is = ap (λ (p : ℕ). get_or sets p 0) (add-zero start)

  typed-is : eqb (words_at sets start 0) 0 ≡ typed_in e special (take count items)
  typed-is = typed-words m e legal special items count small table.fit.enough (words_at sets start) (λ v. below (start + v)) t

  pub table-untyped : (out : List ℕ) → (get_or sets start 0 ≡ 0 → ⊥) → (None ≡ table_answer e special (take count items)) × (out ≡ table_out e special (take count items) out)
  table-untyped out broken =
      let fails = sym typed-is ∙ ne_eqb (words_at sets start 0) 0 (λ z. broken (sym first-is ∙ z)) in
      (sym (answer-untyped e special (take count items) fails), sym (out-untyped e special (take count items) out fails))

  module _ (clear : get_or sets start 0 ≡ 0) where
    map_found : get_or sets (start + 1) 0 ≡ output_map e special
    map_found = map_is m e legal special items count small table.fit.enough (words_at sets start) (λ v. below (start + v)) t (first-is ∙ clear)

    pub output-bits : start + width_of count ≤ length sets → OutputBits e items count sets (start + 2)
    output-bits fits =
        record {
          inside = omega arith;
          bits = λ i h. let from : start + 2 + i / 64 ≡ start + (2 + i / 64) = omega arith in
              ap (λ (p : ℕ). bit (get_or sets p 0) (i % 64)) from ∙ entry-output m e legal special items count small table.fit.enough (words_at sets start) (λ v. below (start + v)) t (first-is ∙ clear) i h;
        }

    -- its map is of two bytes, and bit 0 is clear
    pub map-fits : (get_or sets (start + 1) 0 < 65536) × (get_or sets (start + 1) 0 % 2 ≡ 0)
    map-fits = (rw map_found (output-map-below e special), ap (λ (x : ℕ). x % 2) map_found ∙ map-even m e legal special table.even)

    pub table-typed :
        (out written listed : List ℕ) (size : ℕ)
        → listed ≡ output_list e (take count items)
        → size ≡ record_size (length listed)
        → written ≡ over (record_bytes (get_or sets (start + 1) 0) listed) out
        → (Some size ≡ table_answer e special (take count items)) × (written ≡ table_out e special (take count items) out)
    table-typed out written listed size list-is size_is wrote =
        let typed = sym typed-is ∙ eq-eqb (words_at sets start 0) 0 (first-is ∙ clear) in (
          ap Some (size_is ∙ ap (λ (l : List ℕ). record_size (length l)) list-is) ∙ sym (answer_typed e special (take count items) typed),
          wrote ∙ ap₂ (λ (x : ℕ) (l : List ℕ). over (record_bytes x l) out) map_found list-is ∙ sym (out-typed e special (take count items) out typed),
        )

-- ---- over a schema

module _ (e : Expression) (s : Schema) (out : List ℕ) where
  pub schema-stops : (r : Refusal) → s.judgement ≡ SchemaRefused r → (Err r ≡ schema_answer e s) × (out ≡ schema_out e s out)
  unfolding schema_answer schema_out
  schema-stops r is = rw is (refl, refl)

  pub schema-goes :
      s.judgement ≡ Read
      → (t : Option ℕ) (written : List ℕ)
      → t ≡ table_answer e s.special s.entries
      → written ≡ table_out e s.special s.entries out
      → (Ok t ≡ schema_answer e s) × (written ≡ schema_out e s out)
  unfolding schema_answer schema_out
  schema-goes is t written answered wrote = rw is (ap Ok answered, wrote)

-- ---- the answer and the result slice

module _ (file : List ℕ) (k : ℕ) (schema out : List ℕ) where
  pub typing-stops : (r : Refusal) → sliced (asked file k) (length out) output_size ≡ Err r → (Err r ≡ typing_answer file k schema (length out)) × (out ≡ typing_out file k schema out)
  unfolding typing_answer typing_out
  typing-stops r e = rw e (refl, refl)

  pub typing-goes :
      (m n : ℕ) (t : Result (Option ℕ) Refusal) (written : List ℕ)
      → sliced (asked file k) (length out) output_size ≡ Accepted m n
      → t ≡ schema_answer (expression_at file k) (filled_reading m schema)
      → written ≡ schema_out (expression_at file k) (filled_reading m schema) out
      → (t ≡ typing_answer file k schema (length out)) × (written ≡ typing_out file k schema out)
  unfolding typing_answer typing_out
  typing-goes m n t written e answered wrote = rw e (answered, wrote)

  -- in the table of the schema's records
  pub typing-records :
      (m n : ℕ) (ts : List TypeRecord)
      → sliced (asked file k) (length out) output_size ≡ Accepted m n
      → read_records m schema ≡ records_read ts
      → length (entries_of ts) ≤ 255
      → table_filled m (maps_of ts) (entries_of ts) ≡ true
      → (typing_answer file k schema (length out) ≡ Ok (table_answer (expression_at file k) (maps_of ts) (entries_of ts)))
      × (typing_out file k schema out ≡ table_out (expression_at file k) (maps_of ts) (entries_of ts) out)
  typing-records m n ts e read few filled =
      let made = schema-filled m schema ts read few filled in
      let goes = typing-goes m n _ _ e refl refl in
      let table = schema-goes (expression_at file k) (filled_reading m schema) out (ap (λ (s : Schema). s.judgement) made.is) _ _ refl refl in
      let special = ap (λ (s : Schema). s.special) made.is in
      let entries = read-entries m schema (filled_reading m schema) ts made in (
        sym goes.0 ∙ sym table.0 ∙ ap Ok (ap₂ (table_answer (expression_at file k)) special entries),
        sym goes.1 ∙ sym table.1 ∙ ap₂ (λ (x y : List ℕ). table_out (expression_at file k) x y out) special entries,
      )
