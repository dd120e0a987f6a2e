-- What Typing promises about types, over the typing rules (FORMAT 2.6 to 2.14): the first half of demand 2, for every
-- accepted file, every node and every schema that is not refused; and that it agrees with the node's formula. A reader
-- needs, besides this page:
--   Typed                 the typing rules                                  (crate algebra, Rules)
--   expression_at          the expression of a node                          (crate node_expression, NodeExpression)
--   read_records, assignment_of   a schema's records, and the assignment that they mean   (crate schema, Schema)
--   Filled                every relation has an attribute                   (crate types, Types)
--   type_of, record_bytes   the type of a record, and its bytes               (crate type_record, Record)
--   typing_answer, typing_out     what Typing leaves, by its contract         (crate typing_answer, Typing)
use Rattle.std.specs.Prelude.{ℕ, ◌≤◌, ◌<◌, ◌≡◌, refl, ◌↔◌, Bool, true, false, List, length, take, Ok}
use Rattle.std.proofs.Common.{sym, ap, ap₂, subst, ◌∙◌, arith}
use Rattle.std.proofs.Math.Path.{fun_ext}
use Rattle.bits.specs.Tab.{over, take-over}
use Rattle.bits.specs.Word.{Bytes}
use Rattle.types.specs.Types.{Attrs, Filled}
use Rattle.algebra.specs.Expression.{Legal}
use Rattle.algebra.specs.Rules.{Typed}
use Rattle.expression_file.specs.ReadFile.{acceptance, Accepted}
use Rattle.expression_file.specs.Accepted.{accepted-file}
use Rattle.admission.specs.Admission.{asked}
use Rattle.admission.specs.AdmissionLaws.{sliced-passes, asked-passes}
use Rattle.node_expression.specs.NodeExpression.{expression_at, expression-legal}
use Rattle.type_record.specs.Record.{TypeRecord, record_size, record_bytes, type_of, output_size}
use Rattle.type_record.specs.RecordBytes.{IsRecord, record-length}
use Rattle.type_record.specs.RecordRoundTrip.{bytes-once}
use Rattle.type_record.specs.RecordTypes.{type-once}
use Rattle.schema.specs.Schema.{read_records, assignment_of, entries_of, maps_of}
use Rattle.schema.specs.RecordsLaws.{AllRecords, records-read}
use Rattle.filled_schema.specs.FilledRecords.{table_filled_lem}
use Rattle.table_types.specs.Output.{typed_in, output_map, output_list}
use Rattle.table_types.specs.OutputRecord.{output_record, output-parts}
use Rattle.typing_theorems.specs.TableTyped.{table-rules, rules-table, rules-output, output-record}
use Rattle.typing_answer.specs.Typing.{table_answer, table_out, typing_answer, typing_out, Typed as TypedAnswer, Untyped}
use Rattle.typing_answer.proofs.TypingLaws.{answer_typed, answer-untyped, out-typed, typing-records}
use Rattle.refusal.specs.Several.{several_read as records_read}

-- these bytes are the type record of t
pub record RecordOf (t : Attrs) (bytes : List ℕ) : Type 0 where
  pub record_is : TypeRecord
  pub is : IsRecord record_is
  pub bytes-are : bytes ≡ record_bytes record_is.map record_is.ordinary
  pub means : (a : ℕ) → type_of record_is a ≡ t a

-- a type has one record
pub record-once : (t : Attrs) (bytes others : List ℕ) → RecordOf t bytes → RecordOf t others → bytes ≡ others
record-once t bytes others r q =
    let same = type-once r.record_is q.record_is r.is q.is (λ a. r.means a ∙ sym (q.means a)) in
    r.bytes-are ∙ ap (λ (x : TypeRecord). record_bytes x.map x.ordinary) same ∙ sym q.bytes-are

-- a record has one type
type-one : (t u : Attrs) (bytes : List ℕ) → RecordOf t bytes → RecordOf u bytes → t ≡ u
type-one t u bytes r q =
    let same = bytes-once r.record_is q.record_is r.is q.is (sym r.bytes-are ∙ q.bytes-are) in
    fun_ext (λ a. sym (r.means a) ∙ ap (λ (x : TypeRecord). type_of x a) same ∙ q.means a)

-- nothing is refused: node k of an accepted file with m relations, a schema with these records, none of them empty, and
-- a result slice of so many bytes
pub record Unrefused (file : List ℕ) (k : ℕ) (schema : List ℕ) (size m n : ℕ) (records : List TypeRecord) : Type 0 where
  pub accepted : acceptance file ≡ Accepted m n
  pub node : k < n
  pub slice : output_size ≤ size
  pub bytes : Bytes schema
  pub read : read_records m schema ≡ records_read records
  pub few : length (entries_of records) ≤ 255
  pub filled : Filled m (assignment_of records)

module _ (file : List ℕ) (k : ℕ) (schema out : List ℕ) (m n : ℕ) (ts : List TypeRecord) (un : Unrefused file k schema (length out) m n ts) where
  -- ---- Typing in the table of the records

  legal : Legal m (expression_at file k)
  legal = expression-legal file m n un.accepted k un.node

  few : m ≤ 8
  few = (accepted-file file m n un.accepted).counts.relations.1

  read : (length ts ≡ m) × AllRecords ts
  read = records-read m schema ts un.bytes un.read

  results : (typing_answer file k schema (length out) ≡ Ok (table_answer (expression_at file k) (maps_of ts) (entries_of ts))) × (typing_out file k schema out ≡ table_out (expression_at file k) (maps_of ts) (entries_of ts) out)
  results = typing-records file k schema out m n ts (sliced-passes (asked file k) (length out) output_size (asked-passes file k un.accepted un.node) un.slice) un.read un.few ((table_filled_lem m few ts read.0 read.1).1 un.filled)

  -- the output record of the schema's table
  abbrev output_of : TypeRecord
  output_of = output_record (expression_at file k) (maps_of ts) (entries_of ts)

  -- what is answered and written, typed and untyped
  typed-results :
      typed_in (expression_at file k) (maps_of ts) (entries_of ts) ≡ true
      → (typing_answer file k schema (length out) ≡ TypedAnswer (record_size (length (output_list (expression_at file k) (entries_of ts)))))
      × (typing_out file k schema out
      ≡ over (record_bytes (output_map (expression_at file k) (maps_of ts)) (output_list (expression_at file k) (entries_of ts))) out)
  typed-results t = (results.0 ∙ ap Ok (answer_typed (expression_at file k) (maps_of ts) (entries_of ts) t), results.1 ∙ out-typed (expression_at file k) (maps_of ts) (entries_of ts) out t)

  untyped-result : typed_in (expression_at file k) (maps_of ts) (entries_of ts) ≡ false → typing_answer file k schema (length out) ≡ Untyped
  untyped-result t = results.0 ∙ ap Ok (answer-untyped (expression_at file k) (maps_of ts) (entries_of ts) t)

  -- the record that is written, where the rules derive t
  written : (t : Attrs) → Typed (assignment_of ts) (expression_at file k) t → (size : ℕ) × ((typing_answer file k schema (length out) ≡ TypedAnswer size) × RecordOf t (take size (typing_out file k schema out)))
  written t typed =
      let yields = typed-results (rules-table m few (expression_at file k) legal ts read.1 read.0 t typed) in
      let same = rules-output m few (expression_at file k) legal ts read.1 read.0 t typed in
      let bytes = record_bytes (output_map (expression_at file k) (maps_of ts)) (output_list (expression_at file k) (entries_of ts)) in
      let parts = output-parts (expression_at file k) (maps_of ts) (entries_of ts) in
      let size = record-length (output_map (expression_at file k) (maps_of ts)) (output_list (expression_at file k) (entries_of ts)) in (
        record_size (length (output_list (expression_at file k) (entries_of ts))),
        (
          yields.0,
          record {
            record_is = output_of;
            is = output-record m few (expression_at file k) legal ts read.1 read.0 un.few;
            bytes-are = ap₂ take (sym size) yields.1 ∙ take-over bytes out ∙ sym (ap (λ (x : TypeRecord). record_bytes x.map x.ordinary) parts);
            means = λ a. ap (λ (x : Attrs). x a) (sym same);
          },
        ),
      )

  -- typed is said only where the rules derive a type
  typed-only : (size : ℕ) → typing_answer file k schema (length out) ≡ TypedAnswer size → typed_in (expression_at file k) (maps_of ts) (entries_of ts) ≡ true
  typed-only size said = go (typed_in (expression_at file k) (maps_of ts) (entries_of ts)) refl
    where
      go : (t : Bool) → typed_in (expression_at file k) (maps_of ts) (entries_of ts) ≡ t → t ≡ true
      go true e = refl
      go false e = absurd (let both = sym said ∙ untyped-result e in let z : ◌≡◌ {A = ℕ} 0 1 = cc in omega arith)

  -- ---- demand 2, first half

  -- Typing answers typed with the record of t exactly when the rules derive t for the node under the
  -- assignment that the schema means
  pub typing-typed : (t : Attrs) → Typed (assignment_of ts) (expression_at file k) t ↔ ((size : ℕ) × ((typing_answer file k schema (length out) ≡ TypedAnswer size) × RecordOf t (take size (typing_out file k schema out))))
  typing-typed t = (written t, back)
    where
      sized : {a b : ℕ} → TypedAnswer a ≡ TypedAnswer b → a ≡ b
      sized e = cc

      back : (size : ℕ) × ((typing_answer file k schema (length out) ≡ TypedAnswer size) × RecordOf t (take size (typing_out file k schema out))) → Typed (assignment_of ts) (expression_at file k) t
      back (size, (said, record_of_lem)) =
          let rules = table-rules m few (expression_at file k) legal ts read.1 read.0 (typed-only size said) in
          let own = written (type_of output_of) rules in
          let sizes : size ≡ own.0 = sized (sym said ∙ own.1.0) in
          subst (Typed (assignment_of ts) (expression_at file k)) (type-one (type_of output_of) t (take size (typing_out file k schema out)) (rw sizes own.1.1) record_of_lem) rules

  -- untyped exactly when they derive none
  pub typing-untyped : (typing_answer file k schema (length out) ≡ Untyped) ↔ ((t : Attrs) → Typed (assignment_of ts) (expression_at file k) t → ⊥)
  typing-untyped = (said-untyped, none-derived)
    where
      said-untyped : typing_answer file k schema (length out) ≡ Untyped → (t : Attrs) → Typed (assignment_of ts) (expression_at file k) t → ⊥
      said-untyped said t typed = let both = sym said ∙ (written t typed).1.0 in let z : ◌≡◌ {A = ℕ} 0 1 = cc in omega arith

      none-derived : ((t : Attrs) → Typed (assignment_of ts) (expression_at file k) t → ⊥) → typing_answer file k schema (length out) ≡ Untyped
      none-derived none = go (typed_in (expression_at file k) (maps_of ts) (entries_of ts)) refl
        where
          go : (t : Bool) → typed_in (expression_at file k) (maps_of ts) (entries_of ts) ≡ t → typing_answer file k schema (length out) ≡ Untyped
          go true e = absurd (none _ (table-rules m few (expression_at file k) legal ts read.1 read.0 e))
          go false e = untyped-result e
