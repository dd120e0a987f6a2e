-- The second half of demand 2, and the link to demand 3, of what Apply and Recover leave in their slices: each undoes
-- the other, byte by byte; Recover recovers exactly where the rules derive a type; Apply's output record is Typing's
-- for the schema that Apply writes; and the bytes that Apply accepts are an instantiation of the stored formula in the
-- sense of demand 3 (FORMAT 6.7). A reader needs, besides this page:
--   apply_answer, apply_space, apply_schema, apply_out   what Apply leaves, by its contract   (crate apply_answer, Apply)
--   recover_answer, recover_out             what Recover leaves, by its contract   (crate recover_answer, Recover)
--   typing_answer, typing_out               what Typing leaves, by its contract    (crate typing_answer, Typing)
--   Typed                                 the typing rules                       (crate algebra, Rules)
--   Recovers                              that Recover refuses nothing, and the records of the schema   (Undoing)
--   Filled                                every relation has an attribute        (crate types, Types)
--   read_records, assignment_of             a schema's records, and the assignment they mean   (crate schema, Schema)
--   RecordOf                              the record of a type                   (crate typing_theorems, Theorems)
--   Instantiation, HasImage, HasOutput    instantiations, image and output       (crate principal, Instantiation)
--   AreBytes                              an instantiation that has the subsets and lists of bytes   (Link)
--   InstantiationOf                       bytes that are an instantiation, and the schema and record of its image and
--                                         output   (below)
use Rattle.std.specs.Prelude.{ℕ, ◌*◌, ◌≤◌, ◌≡◌, refl, ◌↔◌, Bool, true, false, cond, List, length, take, drop, Result}
use Rattle.std.proofs.Common.{sym, ap, ap₂, ◌∙◌, arith}
use Rattle.bits.specs.Tab.{over, take-over}
use Rattle.bits.specs.Word.{Bytes}
use Rattle.types.specs.Types.{Attrs}
use Rattle.algebra.specs.Expression.{Legal}
use Rattle.algebra.specs.Rules.{Typed}
use Rattle.expression_file.specs.ReadFile.{acceptance, Accepted}
use Rattle.expression_file.specs.Accepted.{accepted-file, accepted-parts}
use Rattle.principal.specs.Formula.{Formula}
use Rattle.principal.specs.Instantiation.{Instantiation, HasImage, HasOutput}
use Rattle.node_expression.specs.NodeExpression.{expression_at, expression-legal}
use Rattle.stored_formula.specs.Formula.{formula_space}
use Rattle.stored_formula.specs.StoredFormula.{formula_in}
use Rattle.type_record.specs.Record.{TypeRecord, type_of, output_size}
use Rattle.type_record.specs.RecordBytes.{record-length}
use Rattle.special_maps.specs.Special.{maps_from}
use Rattle.schema.specs.Schema.{read_records, assignment_of, records_of, entries_of, maps_of, schema_size}
use Rattle.schema.specs.RecordsLaws.{AllRecords, records-read}
use Rattle.instantiation.specs.Instantiation.{read_lists, entries_in, subsets_of, instantiation_size}
use Rattle.table_types.specs.Output.{typed_in, output_map, output_list}
use Rattle.table_types.specs.OutputRecord.{output_record}
use Rattle.typing_theorems.specs.TableTyped.{table-rules, rules-table}
use Rattle.typing_answer.specs.Typing.{typing_answer, typing_out, Typed as TypedAnswer, Untyped as TypingUntyped}
use Rattle.typing_theorems.specs.Theorems.{RecordOf, typing-untyped}
use Rattle.apply_answer.specs.Apply.{image_bytes, output_bytes, apply_answer, apply_space, apply_schema, apply_out, Applied}
use Rattle.recover_answer.specs.Recover.{recovered_bytes, recover_answer, recover_out, Recovered, Untyped}
use Rattle.apply_answer.specs.WorkSpace.{apply_fills, apply-space}
use Rattle.round_trip.specs.Undoing.{Recovers, Applies, applies-admits, apply-table, apply-size, read-image, applied-recovered, applied-typing, recovered-typed, recovered-untyped, recovered-applied}
use Rattle.round_trip.specs.Unrefused.{applied-applies, recovered-recovers}
use Rattle.round_trip.specs.Link.{AreBytes, bytes-instantiation, output-is-record}
use Rattle.refusal.specs.Several.{several_read as records_read, several_read as lists_read}
use Rattle.admission.specs.Admission.{formula_size}
use Rattle.refusal.specs.declared.Refusal.{Refusal}
use Rattle.apply_answer.specs.declared.Application.{Application}

-- ---- Apply answered that it applied, with a schema of `size` bytes and an output record of `width` bytes

-- these bytes are an instantiation of a formula: it has the subsets and the lists that they say, its image is the
-- assignment that the schema means, and its output is the type that the record means
pub record InstantiationOf (F : Formula) (m : ℕ) (bytes schema output : List ℕ) : Type 0 where
  pub instantiation : Instantiation F
  pub lists : List (List ℕ)
  pub listed : read_lists bytes 256 0 (drop 47 bytes) ≡ lists_read lists
  pub are : AreBytes instantiation bytes lists
  pub records : List TypeRecord
  pub read : read_records m schema ≡ records_read records
  pub has-image : HasImage instantiation (assignment_of records)
  pub type : Attrs
  pub is-record : RecordOf type output
  pub has-output : HasOutput instantiation type

module _ (file : List ℕ) (k : ℕ) (bytes work schema out : List ℕ) (size width : ℕ) (applied : apply_answer file k bytes (length work) (length schema) (length out) ≡ Applied size width) where
  -- the work space then holds Formula's formulas
  pub apply-filled : apply_space file k bytes work (length schema) (length out) ≡ formula_space file work
  apply-filled = apply-space file k bytes work (length schema) (length out) ∙ ap (λ (a : Result Application Refusal). cond (apply_fills a) (formula_space file work) work) applied

-- the parts that Apply has written, in its table
module _ (file : List ℕ) (k : ℕ) (bytes work schema out : List ℕ) (m n : ℕ) (ls : List (List ℕ))
    (a : Applies file k bytes (length work) (length schema) (length out) m n ls) (size width : ℕ)
    (applied : apply_answer file k bytes (length work) (length schema) (length out) ≡ Applied size width) where
  schema-part : take size (apply_schema file k bytes (length work) schema (length out)) ≡ image_bytes m (subsets_of bytes) (entries_in ls)
  schema-part =
      ap₂ take (apply-size file k bytes work schema out m n ls a size width applied).0 (apply-table file k bytes work schema out m n ls a).1.0
      ∙ take-over (image_bytes m (subsets_of bytes) (entries_in ls)) schema

  output-part : take width (apply_out file k bytes (length work) (length schema) out) ≡ output_bytes (expression_at file k) (subsets_of bytes) (entries_in ls)
  output-part =
      ap₂ take
      ((apply-size file k bytes work schema out m n ls a size width applied).1
      ∙ sym
      (record-length (output_map (expression_at file k) (maps_from (subsets_of bytes)))
      (output_list (expression_at file k) (entries_in ls))))
      (apply-table file k bytes work schema out m n ls a).1.1
      ∙ take-over (output_bytes (expression_at file k) (subsets_of bytes) (entries_in ls)) out

module _ (file : List ℕ) (k : ℕ) (bytes work schema out : List ℕ) (below : Bytes bytes) (size width : ℕ) (applied : apply_answer file k bytes (length work) (length schema) (length out) ≡ Applied size width) where
  -- the part of the schema slice that Apply wrote, and that of the output slice
  abbrev pub schema_part : List ℕ
  schema_part = take size (apply_schema file k bytes (length work) schema (length out))

  -- the part of the output slice that Apply wrote
  abbrev pub output_part : List ℕ
  output_part = take width (apply_out file k bytes (length work) (length schema) out)

  -- recovering from the schema that was written gives the same instantiation, byte by byte
  pub apply-recover :
      (m n : ℕ)
      → acceptance file ≡ Accepted m n
      → (work' out' : List ℕ)
      → n * formula_size ≤ length work'
      → instantiation_size ≤ length out'
      → (recover_answer file k schema_part (length work') (length out') ≡ Recovered (length bytes))
      × (recover_out file k schema_part (length work') out' ≡ over bytes out')
  apply-recover m n accepted work' out' space slice =
      let found = applied-applies file k bytes (length work) (length schema) (length out) size width applied in
      let a = found.1.1.1 in
      let counts = sym (applies-admits a).accepted ∙ accepted in
      let nodes : found.1.0 ≡ n = (accepted-parts counts).1 in
      rw (schema-part file k bytes work schema out found.0 found.1.0 found.1.1.0 a size width applied)
      (applied-recovered file k bytes work schema out found.0 found.1.0 found.1.1.0 below a work' out' (rw nodes space) slice)

  -- Typing gives that schema the output record that was written
  pub apply-typing : (out' : List ℕ) → output_size ≤ length out' → (typing_answer file k schema_part (length out') ≡ TypedAnswer width) × (typing_out file k schema_part out' ≡ over output_part out')
  apply-typing out' slice =
      let found = applied-applies file k bytes (length work) (length schema) (length out) size width applied in
      let a = found.1.1.1 in
      let gives = applied-typing file k bytes work schema out found.0 found.1.0 found.1.1.0 below a out' slice in
      rw (schema-part file k bytes work schema out found.0 found.1.0 found.1.1.0 a size width applied, output-part file k bytes work schema out found.0 found.1.0 found.1.1.0 a size width applied)
      (gives.0 ∙ ap TypedAnswer (sym (apply-size file k bytes work schema out found.0 found.1.0 found.1.1.0 a size width applied).1), gives.1)

  -- the bytes are an instantiation of the formula that Apply left in the work space, with the image and
  -- the output that Apply wrote
  pub apply-instantiation : (m n : ℕ) → acceptance file ≡ Accepted m n → InstantiationOf (formula_in (apply_space file k bytes work (length schema) (length out)) m k) m bytes schema_part output_part
  apply-instantiation m n accepted =
      let found = applied-applies file k bytes (length work) (length schema) (length out) size width applied in
      let a = found.1.1.1 in
      let counts = sym (applies-admits a).accepted ∙ accepted in
      let relations : found.0 ≡ m = (accepted-parts counts).0 in
      rw (
        apply-filled file k bytes work schema out size width applied,
        schema-part file k bytes work schema out found.0 found.1.0 found.1.1.0 a size width applied,
        output-part file k bytes work schema out found.0 found.1.0 found.1.1.0 a size width applied,
        ← relations,
      )
      (made found.0 found.1.0 found.1.1.0 a)
    where
      made :
          (m n : ℕ) (ls : List (List ℕ))
          → Applies file k bytes (length work) (length schema) (length out) m n ls
          → InstantiationOf (formula_in (formula_space file work) m k) m bytes (image_bytes m (subsets_of bytes) (entries_in ls))
          (output_bytes (expression_at file k) (subsets_of bytes) (entries_in ls))
      made m n ls a =
          let i = bytes-instantiation file k bytes work schema out m n ls below a work (applies-admits a).work_space in
          record {
            instantiation = i.0;
            lists = ls;
            listed = a.read.read;
            are = i.1.0;
            records = records_of m (maps_from (subsets_of bytes)) (entries_in ls);
            read = (read-image file k bytes work schema out m n ls below a).read;
            has-image = i.1.1.0;
            type = type_of (output_record (expression_at file k) (maps_from (subsets_of bytes)) (entries_in ls));
            is-record = output-is-record file k bytes work schema out m n ls below a;
            has-output = i.1.1.1;
          }

-- ---- Recover, where nothing is refused

module _ (file : List ℕ) (k : ℕ) (schema work out : List ℕ) (m n : ℕ) (ts : List TypeRecord) (below : Bytes schema) (r : Recovers file k schema (length work) (length out) m n ts) where
  few : m ≤ 8
  few = (accepted-file file m n r.accepted).counts.relations.1

  legal : Legal m (expression_at file k)
  legal = expression-legal file m n r.accepted k r.node

  read : (length ts ≡ m) × AllRecords ts
  read = records-read m schema ts below r.read

  -- the answer says whether the table is typed
  typed-said : (size : ℕ) → recover_answer file k schema (length work) (length out) ≡ Recovered size → typed_in (expression_at file k) (maps_of ts) (entries_of ts) ≡ true
  typed-said size said = go (typed_in (expression_at file k) (maps_of ts) (entries_of ts)) refl
    where
      go : (t : Bool) → typed_in (expression_at file k) (maps_of ts) (entries_of ts) ≡ t → t ≡ true
      go true e = refl
      go false e = absurd (let both = sym said ∙ recovered-untyped file k schema work out m n ts below r e in let z : ◌≡◌ {A = ℕ} 0 1 = cc in omega arith)

  -- Recover recovers exactly where the rules derive a type of the node under the assignment that the schema means
  pub recover-typed : ((size : ℕ) × (recover_answer file k schema (length work) (length out) ≡ Recovered size)) ↔ ((t : Attrs) × Typed (assignment_of ts) (expression_at file k) t)
  recover-typed = (
    (λ said. (_, table-rules m few (expression_at file k) legal ts read.1 read.0 (typed-said said.0 said.1))),
    (λ rules. (_, (recovered-typed file k schema work out m n ts below r (rules-table m few (expression_at file k) legal ts read.1 read.0 rules.0 rules.1)).0)),
  )

  -- and says untyped exactly where they derive none
  pub recover-untyped : (recover_answer file k schema (length work) (length out) ≡ Untyped) ↔ ((t : Attrs) → Typed (assignment_of ts) (expression_at file k) t → ⊥)
  recover-untyped = (
    (λ said t typed. let both = sym said ∙ (recover-typed.1 (t, typed)).1 in let z : ◌≡◌ {A = ℕ} 0 1 = cc in omega arith),
    (λ none. go none (typed_in (expression_at file k) (maps_of ts) (entries_of ts)) refl),
  )
    where
      go :
          ((t : Attrs) → Typed (assignment_of ts) (expression_at file k) t → ⊥)
          → (t : Bool)
          → typed_in (expression_at file k) (maps_of ts) (entries_of ts) ≡ t
          → recover_answer file k schema (length work) (length out) ≡ Untyped
      go none true e = absurd (none _ (table-rules m few (expression_at file k) legal ts read.1 read.0 e))
      go none false e = recovered-untyped file k schema work out m n ts below r e

  recovered-part : (size : ℕ) → recover_answer file k schema (length work) (length out) ≡ Recovered size → take size (recover_out file k schema (length work) out) ≡ recovered_bytes (maps_of ts) (entries_of ts)
  recovered-part size said =
      let gives = recovered-typed file k schema work out m n ts below r (typed-said size said) in
      let both = sym said ∙ gives.0 in
      let size_is : size ≡ length (recovered_bytes (maps_of ts) (entries_of ts)) = cc in
      ap₂ take size_is gives.1 ∙ take-over (recovered_bytes (maps_of ts) (entries_of ts)) out

-- ---- Recover answered with an instantiation of `size` bytes

module _ (file : List ℕ) (k : ℕ) (schema work out : List ℕ) (below : Bytes schema) (size : ℕ) (said : recover_answer file k schema (length work) (length out) ≡ Recovered size) where
  -- the part of the instantiation slice that Recover wrote
  abbrev pub instantiation_part : List ℕ
  instantiation_part = take size (recover_out file k schema (length work) out)

  -- applying it gives the same schema, byte by byte
  pub recover-apply :
      (m n : ℕ)
      → acceptance file ≡ Accepted m n
      → (work' schema' out' : List ℕ)
      → n * formula_size ≤ length work'
      → schema_size ≤ length schema'
      → output_size ≤ length out'
      → (width : ℕ)
      × ((apply_answer file k instantiation_part (length work') (length schema') (length out') ≡ Applied (length schema) width)
      × (apply_schema file k instantiation_part (length work') schema' (length out') ≡ over schema schema'))
  recover-apply m n accepted work' schema' out' space room slice =
      let found = recovered-recovers file k schema work out below size said in
      let r = found.1.1.1 in
      let counts = sym r.accepted ∙ accepted in
      let nodes : found.1.0 ≡ n = (accepted-parts counts).1 in
      let typed = typed-said file k schema work out found.0 found.1.0 found.1.1.0 below r size said in
      rw (recovered-part file k schema work out found.0 found.1.0 found.1.1.0 below r size said)
      (_, recovered-applied file k schema work out found.0 found.1.0 found.1.1.0 below r typed work' schema' out' (rw nodes space) room slice)

-- ---- Recover beside Typing

-- Recover says untyped exactly where Typing does
pub recover-typing :
    (file : List ℕ) (k : ℕ) (schema work out : List ℕ)
    → Bytes schema
    → (m n : ℕ) (ts : List TypeRecord)
    → Recovers file k schema (length work) (length out) m n ts
    → (out' : List ℕ)
    → output_size ≤ length out'
    → (recover_answer file k schema (length work) (length out) ≡ Untyped) ↔ (typing_answer file k schema (length out') ≡ TypingUntyped)
recover-typing file k schema work out below m n ts r out' slice =
    let rules = recover-untyped file k schema work out m n ts below r in
    let typing = typing-untyped file k schema out' m n ts (record { accepted = r.accepted; node = r.node; slice = slice; bytes = below; read = r.read; few = r.few; filled = r.filled }) in
    (λ said. typing.1 (rules.0 said), λ said. rules.1 (typing.0 said))
