-- E7 (FORMAT 10.7) and E8 (FORMAT 10.8) for every schema. The rules give E7 no type under a filled assignment, and
-- Typing answers untyped under every schema that is not refused; they give E8 the empty type under every assignment,
-- and Typing answers so.
use Rattle.std.specs.Prelude.{ℕ, ◌≤◌, ◌≡◌, refl, Bool, true, false, not, ◌&&◌, List, [], ◌∷◌, length, Ok}
use Rattle.std.proofs.Common.{sym, ap, ap₂, ◌∙◌, lit<, lit≤}
use Rattle.std.proofs.Math.Path.{fun_ext}
use Rattle.std.proofs.Math.Bool.{and-false}
use Rattle.std.proofs.lemmas.Bool.{false≢true}
use Rattle.std.proofs.Math.Logic.{∥∥₁_elim}
use Rattle.std.proofs.Math.Dec.{T_prop}
use Rattle.bits.specs.AllBelow.{in_all}
use Rattle.bits.specs.Bit.{bit, bit-none}
use Rattle.bits.specs.Pack.{pack}
use Rattle.bits.specs.Range.{in_range}
use Rattle.bits.specs.Tab.{over}
use Rattle.bits.specs.Booleans.{is_false}
use Rattle.bits.specs.Truth.{is_true}
use Rattle.bits.specs.Word.{Bytes}
use Rattle.attribute_set.specs.AttrSet.{special, has_attribute, set_of}
use Rattle.types.specs.Types.{Attrs, Assignment, Filled, column}
use Rattle.refusal.specs.Chain.{refuse}
use Rattle.node.specs.Operators.{binary_of, set_op_of}
use Rattle.node.specs.ReadNode.{size_of, check_fields, check_node, node_of, read_node}
use Rattle.expression_file.specs.ReadFile.{acceptance, parse, header, read_nodes, placed_at, placed_nodes as node_entries, Accepted}
use Rattle.admission.specs.Admission.{asked}
use Rattle.admission.specs.AdmissionLaws.{sliced-passes, asked-passes}
use Rattle.algebra.specs.Expression.{Expression, Legal, relation, binary, product, with_set, projection}
use Rattle.algebra.specs.Rules.{Typed, relations, projections}
use Rattle.algebra.specs.Cell.{plain, ok}
use Rattle.algebra.proofs.ByAttribute.{typed-cells}
use Rattle.node_expression.specs.NodeExpression.{expression_at, expression-legal, earlier, named}
use Rattle.type_record.specs.Record.{record_size, record_bytes, output_size}
use Rattle.schema.specs.Schema.{assignment_of, entries_of, maps_of}
use Rattle.schema.specs.RecordsLaws.{records-read}
use Rattle.filled_schema.specs.FilledSchema.{filled_reading}
use Rattle.filled_schema.specs.FilledRecords.{table_filled_lem}
use Rattle.filled_schema.specs.FilledLaws.{filled-schema}
use Rattle.table_types.specs.Output.{typed_in, output_map, output_list}
use Rattle.typing_answer.specs.Typing.{typing_answer, typing_out, Typed as TypedAnswer, Untyped}
use Rattle.typing_answer.proofs.TypingLaws.{answer_typed, answer-untyped, out-typed, out-untyped, typing-records}
use Rattle.typing_theorems.specs.TableTyped.{table-rules}
use Rattle.examples.specs.Cases.{e7, e8}
use Rattle.schema.specs.Judgement.{Read}

-- ---- E7

e7-accepted : acceptance e7.file ≡ Accepted 1 2
unfolding acceptance parse header read_nodes read_node check_node check_fields size_of node_of refuse in_range binary_of placed_at node_entries bit
e7-accepted = refl

e7-expression : expression_at e7.file 1 ≡ binary product (relation 0) (relation 0)
unfolding expression_at earlier acceptance parse header read_nodes read_node check_node check_fields size_of node_of refuse in_range binary_of placed_at node_entries bit
e7-expression = refl

e7-legal : Legal 1 (expression_at e7.file 1)
e7-legal = expression-legal e7.file 1 2 e7-accepted 1 (lit< tt)

-- the rules give it no type where r0 has an attribute
pub e7-rules : (A : Assignment) → Filled 1 A → (t : Attrs) → Typed A (expression_at e7.file 1) t → ⊥
e7-rules A filled t typed = ∥∥₁_elim (filled 0 (lit< tt)) (T_prop false) (λ x. shared x.0 (is_true (A 0 x.0) x.1))
  where
    shared : (a : ℕ) → A 0 a ≡ true → ⊥
    shared a has =
        let allowed = (typed-cells 1 (expression_at e7.file 1) e7-legal A t typed a).allowed in
        false≢true
        (sym (ap (λ (b : Bool). not (b && b)) has)
        ∙ sym (ap (λ (e : Expression). ok plain e (column a) (λ r. A r a)) e7-expression)
        ∙ allowed)

-- Typing answers untyped, under every schema that is not refused, and the slice stays
pub e7-typing :
    (schema out : List ℕ)
    → Bytes schema
    → (filled_reading 1 schema).judgement ≡ Read
    → output_size ≤ length out
    → (typing_answer e7.file 1 schema (length out) ≡ Untyped) × (typing_out e7.file 1 schema out ≡ out)
e7-typing schema out below read slice =
    let found = filled-schema 1 schema read in
    let records = records-read 1 schema found.0 below found.1.0.read in
    let results = typing-records e7.file 1 schema out 1 2 found.0 (sliced-passes (asked e7.file 1) (length out) output_size (asked-passes e7.file 1 e7-accepted (lit< tt)) slice) found.1.0.read found.1.0.few found.1.1 in
    let none = is_false (typed_in (expression_at e7.file 1) (maps_of found.0) (entries_of found.0))
    (λ typed. e7-rules (assignment_of found.0) ((table_filled_lem 1 (lit≤ tt) found.0 records.0 records.1).0 found.1.1) _
    (table-rules 1 (lit≤ tt) (expression_at e7.file 1) e7-legal found.0 records.1 records.0 typed)) in (
      results.0 ∙ ap Ok (answer-untyped (expression_at e7.file 1) (maps_of found.0) (entries_of found.0) none),
      results.1 ∙ out-untyped (expression_at e7.file 1) (maps_of found.0) (entries_of found.0) out none,
    )

-- ---- E8

-- the empty type
abbrev pub nothing : Attrs
nothing = λ a. false

-- π{}(r0)
abbrev emptied : Expression
emptied = with_set projection nothing (relation 0)

e8-accepted : acceptance e8.file ≡ Accepted 1 2
unfolding acceptance parse header read_nodes read_node check_node check_fields size_of node_of refuse in_range has_attribute set_of set_op_of placed_at node_entries bit
e8-accepted = refl

e8-read : expression_at e8.file 1 ≡ with_set projection (named (set_of 0)) (relation 0)
unfolding expression_at earlier acceptance parse header read_nodes read_node check_node check_fields size_of node_of refuse in_range has_attribute set_of set_op_of placed_at node_entries bit special
e8-read = refl

names-nothing : (a : ℕ) → named (set_of 0) a ≡ false
unfolding has_attribute set_of
names-nothing a = ap (λ (t : Bool). special a && t) (bit-none a) ∙ and-false (special a)

e8-expression : expression_at e8.file 1 ≡ emptied
e8-expression = e8-read ∙ ap (λ (s : Attrs). with_set projection s (relation 0)) (fun_ext names-nothing)

-- the rules give it the empty type under every assignment
pub e8-rules : (A : Assignment) → Typed A (expression_at e8.file 1) nothing
e8-rules A = rw e8-expression (projections (relations 0) (λ a h. absurd (false≢true h)))

-- ---- its table

listed-nothing : (es : List ℕ) → output_list emptied es ≡ []
listed-nothing [] = refl
listed-nothing (x ∷ es) = listed-nothing es

map-nothing : (special : List ℕ) → output_map emptied special ≡ 0
unfolding output_map pack
map-nothing special = refl

always-typed : (special entries : List ℕ) → typed_in emptied special entries ≡ true
unfolding typed_in
always-typed special entries = ap₂ ◌&&◌ (in_all 16 (λ i. true) (λ i h. refl)) (in_all (length entries) (λ i. true) (λ i h. refl))

empty-bytes : record_bytes 0 [] ≡ 0 ∷ 0 ∷ []
unfolding record_bytes
empty-bytes = refl

empty-size : record_size 0 ≡ 2
unfolding record_size
empty-size = refl

-- Typing answers typed with the empty record, under every schema that is not refused
pub e8-typing :
    (schema out : List ℕ)
    → (filled_reading 1 schema).judgement ≡ Read
    → output_size ≤ length out
    → (typing_answer e8.file 1 schema (length out) ≡ TypedAnswer 2) × (typing_out e8.file 1 schema out ≡ over (0 ∷ 0 ∷ []) out)
e8-typing schema out read slice =
    let ts = filled-schema 1 schema read in
    let results = typing-records e8.file 1 schema out 1 2 ts.0 (sliced-passes (asked e8.file 1) (length out) output_size (asked-passes e8.file 1 e8-accepted (lit< tt)) slice) ts.1.0.read ts.1.0.few ts.1.1 in
    let typed = always-typed (maps_of ts.0) (entries_of ts.0) in (
      results.0
          ∙ ap Ok (rw e8-expression (answer_typed emptied (maps_of ts.0) (entries_of ts.0) typed))
          ∙ ap TypedAnswer (ap (λ (l : List ℕ). record_size (length l)) (listed-nothing (entries_of ts.0)) ∙ empty-size),
      results.1
          ∙ rw e8-expression (out-typed emptied (maps_of ts.0) (entries_of ts.0) out typed)
          ∙ ap (λ (l : List ℕ). over l out) (ap₂ record_bytes (map-nothing (maps_of ts.0)) (listed-nothing (entries_of ts.0)) ∙ empty-bytes),
    )
