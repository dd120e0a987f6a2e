-- Apply and Recover undo each other, in the bytes of tables: what each gives where nothing is refused, and what the
-- other gives for that. Theorems says it of the slices.
use Rattle.std.specs.Prelude.{ℕ, ◌*◌, ◌≤◌, ◌<◌, ◌≡◌, refl, true, false, ◌&&◌, List, length, Ok, Some}
use Rattle.std.proofs.Common.{sym, ap, ap₂, ◌∙◌, arith}
use Rattle.std.proofs.Math.Bool.{and-eq-true_iff}
use Rattle.bits.specs.Tab.{over}
use Rattle.bits.specs.Word.{Bytes}
use Rattle.types.specs.Types.{Filled}
use Rattle.algebra.specs.Expression.{Legal}
use Rattle.expression_file.specs.ReadFile.{acceptance, Accepted}
use Rattle.expression_file.specs.Accepted.{accepted-file}
use Rattle.admission.specs.Admission.{asked, sliced, admitted, formula_size}
use Rattle.admission.specs.AdmissionLaws.{sliced-passes, asked-passes, Admits, admitted-passes}
use Rattle.node_expression.specs.NodeExpression.{expression_at, expression-legal}
use Rattle.type_record.specs.Record.{TypeRecord, record_size, output_size}
use Rattle.schema.specs.Schema.{Schema, read_records, assignment_of, records_of, entries_of, maps_of, schema_reading, schema_size}
use Rattle.schema.specs.RecordsLaws.{schema-most, schema-bytes, records-read}
use Rattle.schema.specs.TableLaws.{ReadSchema, read-entries}
use Rattle.filled_schema.specs.FilledSchema.{table_filled, filled_reading}
use Rattle.filled_schema.specs.FilledRecords.{table_filled_lem}
use Rattle.filled_schema.specs.FilledLaws.{schema-filled}
use Rattle.instantiation.specs.Instantiation.{Instantiation, entries_in, subsets_of, lists_of, instantiation_reading, instantiation_size}
use Rattle.instantiation.specs.ReadLaws.{lists-read, written-long}
use Rattle.instantiation.specs.TableLaws.{ReadInstantiation, subsets-none}
use Rattle.instantiation.specs.TableLaws as Instantiations
use Rattle.table_types.specs.Output.{typed_in, output_list}
use Rattle.typing_answer.specs.Typing.{typing_answer, typing_out, Typed}
use Rattle.typing_answer.proofs.TypingLaws.{answer_typed, out-typed, typing-records}
use Rattle.special_maps.specs.Special.{maps_from, subsets_from}
use Rattle.special_maps.specs.SpecialLaws.{subsets-back, maps-back}
use Rattle.fitting.specs.Fit.{entries_fit, specials_fit, fits-typed}
use Rattle.apply_answer.specs.Apply.{image_bytes, output_bytes, table_applied, table_image, table_output, apply_answer, apply_schema, apply_out, Applied}
use Rattle.apply_answer.specs.ApplyLaws as Applying
use Rattle.recover_answer.specs.Recover.{fits, recovered_bytes, table_recovered, table_instantiation, recover_answer, recover_out, Recovered, Untyped}
use Rattle.recover_answer.specs.RecoverLaws as Recovering
use Rattle.schema.specs.Image.{IsTable, image-size, image-records, image-maps, image-entries}
use Rattle.round_trip.specs.Tables.{fits-same}
use Rattle.round_trip.specs.StandingFit.{fit-held}
use Rattle.instantiation.specs.ListZero.{list-zero}
use Rattle.round_trip.specs.RoundTrip.{applied-table, image-schema, recovered-same, recovered-table, written-instantiation, written-table, image-same}
use Rattle.refusal.specs.Several.{several_read as records_read}
use Rattle.apply_answer.specs.declared.Application.{Application}

-- ---- Recover on a schema with these records

-- nothing is refused: node k of an accepted file, a schema with these records, none of them empty, a work space and an
-- instantiation slice that are long enough
pub record Recovers (file : List ℕ) (k : ℕ) (schema : List ℕ) (space size m n : ℕ) (ts : List TypeRecord) : Type 0 where
  pub accepted : acceptance file ≡ Accepted m n
  pub node : k < n
  pub work_space : n * formula_size ≤ space
  pub slice : instantiation_size ≤ size
  pub read : read_records m schema ≡ records_read ts
  pub few : length (entries_of ts) ≤ 255
  pub filled : Filled m (assignment_of ts)

pub recover-table :
    (file : List ℕ) (k : ℕ) (schema work out : List ℕ) (m n : ℕ) (ts : List TypeRecord)
    → Bytes schema
    → Recovers file k schema (length work) (length out) m n ts
    → (recover_answer file k schema (length work) (length out) ≡ Ok (table_recovered m (expression_at file k) (maps_of ts) (entries_of ts)))
    × (recover_out file k schema (length work) out ≡ table_instantiation m (expression_at file k) (maps_of ts) (entries_of ts) out)
recover-table file k schema work out m n ts below r =
    let few = (accepted-file file m n r.accepted).counts.relations.1 in
    let records = records-read m schema ts below r.read in
    let made = schema-filled m schema ts r.read r.few ((table_filled_lem m few ts records.0 records.1).1 r.filled) in
    let judged = ap (λ (s : Schema). s.judgement) made.is in
    let special = ap (λ (s : Schema). s.special) made.is in
    let entries = read-entries m schema (filled_reading m schema) ts made in
    let table = Recovering.read_goes file m n (expression_at file k) (filled_reading m schema) work out judged _ _ _ refl refl refl in
    let goes = Recovering.recover-goes file k schema work out m n
    (sliced-passes (admitted file k (length work)) (length out) instantiation_size
    (admitted-passes file k (length work) (record { accepted = r.accepted; node = r.node; work_space = r.work_space })) r.slice)
    _ _ _ refl refl refl in (
      sym goes.0 ∙ sym table.0 ∙ ap Ok (ap₂ (table_recovered m (expression_at file k)) special entries),
      sym goes.1.1 ∙ sym table.1.1 ∙ ap₂ (λ (x y : List ℕ). table_instantiation m (expression_at file k) x y out) special entries,
    )

-- ---- Apply on an instantiation with these lists

-- nothing is refused: node k of an accepted file, an instantiation with these lists whose table fits the node and
-- leaves no relation empty, and slices that are long enough
pub record Applies (file : List ℕ) (k : ℕ) (bytes : List ℕ) (space size out_size m n : ℕ) (ls : List (List ℕ)) : Type 0 where
  pub goes : sliced (sliced (admitted file k space) size schema_size) out_size output_size ≡ Accepted m n
  pub read : ReadInstantiation bytes (instantiation_reading bytes) ls
  pub entries : entries_fit m (expression_at file k) (entries_in ls) ≡ true
  pub special : specials_fit m (expression_at file k) (subsets_of bytes) ≡ true
  pub filled : table_filled m (maps_from (subsets_of bytes)) (entries_in ls) ≡ true

pub applies-admits : {file : List ℕ} {k : ℕ} {bytes : List ℕ} {space size out_size m n : ℕ} {ls : List (List ℕ)} → Applies file k bytes space size out_size m n ls → Admits file k space m n
applies-admits {file} {k} {bytes} {space} {size} {out_size} a = (Applying.apply-passed file k space size out_size a.goes).0

pub apply-table :
    (file : List ℕ) (k : ℕ) (bytes work schema out : List ℕ) (m n : ℕ) (ls : List (List ℕ))
    → Applies file k bytes (length work) (length schema) (length out) m n ls
    → (apply_answer file k bytes (length work) (length schema) (length out)
    ≡ Applied (length (image_bytes m (subsets_of bytes) (entries_in ls)))
    (record_size (length (output_list (expression_at file k) (entries_in ls)))))
    × ((apply_schema file k bytes (length work) schema (length out) ≡ over (image_bytes m (subsets_of bytes) (entries_in ls)) schema)
    × (apply_out file k bytes (length work) (length schema) out
    ≡ over (output_bytes (expression_at file k) (subsets_of bytes) (entries_in ls)) out))
apply-table file k bytes work schema out m n ls a =
    let r = a.read in
    let judged = ap (λ (i : Instantiation). i.judgement) r.is in
    let subsets = ap (λ (i : Instantiation). i.subsets) r.is in
    let entries = Instantiations.read-entries bytes (instantiation_reading bytes) ls r in
    let table = Applying.read_goes file m n (expression_at file k) (instantiation_reading bytes) work schema out judged _ _ _ _ refl refl refl refl in
    let goes = Applying.apply-goes file k bytes work schema out m n a.goes _ _ _ _ refl refl refl refl in
    let gives = Applying.table_fits m (expression_at file k) (subsets_of bytes) (entries_in ls) schema out a.entries a.special a.filled in (
      sym goes.0 ∙ sym table.0 ∙ ap₂ (table_applied m (expression_at file k)) subsets entries ∙ gives.0,
      (
        sym goes.1.1.0 ∙ sym table.1.1.0 ∙ ap₂ (λ (x y : List ℕ). table_image m (expression_at file k) x y schema) subsets entries ∙ gives.1.0,
        sym goes.1.1.1 ∙ sym table.1.1.1 ∙ ap₂ (λ (x y : List ℕ). table_output m (expression_at file k) x y out) subsets entries ∙ gives.1.1,
      ),
    )

-- the lengths that Apply gives are the image's and the output record's
pub apply-size :
    (file : List ℕ) (k : ℕ) (bytes work schema out : List ℕ) (m n : ℕ) (ls : List (List ℕ))
    → Applies file k bytes (length work) (length schema) (length out) m n ls
    → (size width : ℕ)
    → apply_answer file k bytes (length work) (length schema) (length out) ≡ Applied size width
    → (size ≡ length (image_bytes m (subsets_of bytes) (entries_in ls)))
    × (width ≡ record_size (length (output_list (expression_at file k) (entries_in ls))))
apply-size file k bytes work schema out m n ls a size width said = sized (sym said ∙ (apply-table file k bytes work schema out m n ls a).0)
  where
    sized : {x y z w : ℕ} → Applied x y ≡ Applied z w → (x ≡ z) × (y ≡ w)
    sized {x} {y} {z} {w} e =
        let same : ◌≡◌ {A = Application} (record { schema = x; output = y }) (record { schema = z; output = w }) = cc in
        (ap (λ (a : Application). a.schema) same, ap (λ (a : Application). a.output) same)

-- it lies within the schema slice: eight records of at most 513 bytes
pub apply-fits :
    (file : List ℕ) (k : ℕ) (bytes work schema out : List ℕ) (m n : ℕ) (ls : List (List ℕ))
    → Bytes bytes
    → Applies file k bytes (length work) (length schema) (length out) m n ls
    → (size width : ℕ)
    → apply_answer file k bytes (length work) (length schema) (length out) ≡ Applied size width
    → size ≤ length schema
apply-fits file k bytes work schema out m n ls below a size width said =
    let few = (accepted-file file m n (applies-admits a).accepted).counts.relations.1 in
    let table = applied-table m few (expression_at file k) bytes below ls a.read.long a.read.read a.read.once a.read.few a.entries a.special in
    let most = schema-most (records_of m (maps_from (subsets_of bytes)) (entries_in ls)) (image-records m few (maps_from (subsets_of bytes)) (entries_in ls) table) in
    let count = image-size m few (maps_from (subsets_of bytes)) (entries_in ls) table in
    let is = (apply-size file k bytes work schema out m n ls a size width said).0 in
    let room = (Applying.apply-passed file k (length work) (length schema) (length out) a.goes).1 in
    omega arith

-- ---- apply, then recover; and Typing on the schema that Apply writes

module _ (file : List ℕ) (k : ℕ) (bytes work schema out : List ℕ) (m n : ℕ) (ls : List (List ℕ)) (below : Bytes bytes) (a : Applies file k bytes (length work) (length schema) (length out) m n ls) where
  few : m ≤ 8
  few = (accepted-file file m n (applies-admits a).accepted).counts.relations.1

  legal : Legal m (expression_at file k)
  legal = expression-legal file m n (applies-admits a).accepted k (applies-admits a).node

  table : IsTable m (maps_from (subsets_of bytes)) (entries_in ls)
  table = applied-table m few (expression_at file k) bytes below ls a.read.long a.read.read a.read.once a.read.few a.entries a.special

  pub read-image : ReadSchema m (image_bytes m (subsets_of bytes) (entries_in ls)) (schema_reading m (image_bytes m (subsets_of bytes) (entries_in ls))) (records_of m (maps_from (subsets_of bytes)) (entries_in ls))
  read-image = image-schema m few (expression_at file k) bytes below ls a.read.long a.read.read a.read.once a.read.few a.entries a.special

  maps-are : maps_of (records_of m (maps_from (subsets_of bytes)) (entries_in ls)) ≡ maps_from (subsets_of bytes)
  maps-are = image-maps m few (maps_from (subsets_of bytes)) (entries_in ls) table

  entries-are : entries_of (records_of m (maps_from (subsets_of bytes)) (entries_in ls)) ≡ entries_in ls
  entries-are = image-entries m few (maps_from (subsets_of bytes)) (entries_in ls) table

  -- the image leaves no relation empty
  image-filled : table_filled m (maps_of (records_of m (maps_from (subsets_of bytes)) (entries_in ls))) (entries_of (records_of m (maps_from (subsets_of bytes)) (entries_in ls))) ≡ true
  image-filled = rw (maps-are, entries-are) a.filled

  fits-back : fits m (expression_at file k) (maps_from (subsets_of bytes)) (entries_in ls) ≡ true
  fits-back = ap₂ ◌&&◌ a.entries (ap (specials_fit m (expression_at file k)) (subsets-back (subsets_of bytes) (Instantiations.subsets-size bytes) (Instantiations.subsets-small bytes below)) ∙ a.special)

  -- recovering from the image gives the same instantiation, byte by byte
  pub applied-recovered :
      (work' out' : List ℕ)
      → n * formula_size ≤ length work'
      → instantiation_size ≤ length out'
      → (recover_answer file k (image_bytes m (subsets_of bytes) (entries_in ls)) (length work') (length out') ≡ Recovered (length bytes))
      × (recover_out file k (image_bytes m (subsets_of bytes) (entries_in ls)) (length work') out' ≡ over bytes out')
  applied-recovered work' out' space slice =
      let size = image-size m few (maps_from (subsets_of bytes)) (entries_in ls) table in
      let all = image-records m few (maps_from (subsets_of bytes)) (entries_in ls) table in
      let results = recover-table file k (image_bytes m (subsets_of bytes) (entries_in ls)) work' out' m n
      (records_of m (maps_from (subsets_of bytes)) (entries_in ls))
      (schema-bytes (records_of m (maps_from (subsets_of bytes)) (entries_in ls)) all)
      (record {
        accepted = (applies-admits a).accepted;
        node = (applies-admits a).node;
        work_space = space;
        slice = slice;
        read = read-image.read;
        few = read-image.few;
        filled = (table_filled_lem m few (records_of m (maps_from (subsets_of bytes)) (entries_in ls)) size all).0 image-filled;
      })
      in
      let same = recovered-same m few (expression_at file k) bytes below ls a.read.long a.read.read a.read.once a.read.few
      a.entries a.special
      (list-zero m ls (lists-read bytes ls below a.read.long a.read.read) a.read.once
      (fit-held m (expression_at file k) (entries_in ls) a.entries))
      in
      let gives = Recovering.recovered-fits m (expression_at file k) (maps_from (subsets_of bytes)) (entries_in ls) out' fits-back in (
        results.0 ∙ ap Ok (rw (maps-are, entries-are) (gives.0 ∙ ap (λ (l : List ℕ). Some (length l)) same)),
        results.1 ∙ rw (maps-are, entries-are) (gives.1 ∙ ap (λ (l : List ℕ). over l out') same),
      )

  -- Typing gives the image the output record that Apply writes
  pub applied-typing :
      (out' : List ℕ)
      → output_size ≤ length out'
      → (typing_answer file k (image_bytes m (subsets_of bytes) (entries_in ls)) (length out')
      ≡ Typed (record_size (length (output_list (expression_at file k) (entries_in ls)))))
      × (typing_out file k (image_bytes m (subsets_of bytes) (entries_in ls)) out'
      ≡ over (output_bytes (expression_at file k) (subsets_of bytes) (entries_in ls)) out')
  applied-typing out' slice =
      let results = typing-records file k (image_bytes m (subsets_of bytes) (entries_in ls)) out' m n
      (records_of m (maps_from (subsets_of bytes)) (entries_in ls))
      (sliced-passes (asked file k) (length out') output_size (asked-passes file k (applies-admits a).accepted (applies-admits a).node) slice)
      read-image.read read-image.few image-filled in
      let typed = fits-typed m few (expression_at file k) legal (subsets_of bytes) (entries_in ls) (subsets-none bytes) a.entries a.special in (
        results.0 ∙ ap Ok (rw (maps-are, entries-are) (answer_typed (expression_at file k) (maps_from (subsets_of bytes)) (entries_in ls) typed)),
        results.1 ∙ rw (maps-are, entries-are) (out-typed (expression_at file k) (maps_from (subsets_of bytes)) (entries_in ls) out' typed),
      )

-- ---- recover, then apply; and Recover beside Typing

module _ (file : List ℕ) (k : ℕ) (schema work out : List ℕ) (m n : ℕ) (ts : List TypeRecord) (below : Bytes schema) (r : Recovers file k schema (length work) (length out) m n ts) where
  most : m ≤ 8
  most = (accepted-file file m n r.accepted).counts.relations.1

  known : IsTable m (maps_of ts) (entries_of ts)
  known = recovered-table m most schema below ts r.read r.few

  -- a table fits exactly where it is typed
  fits-typing : fits m (expression_at file k) (maps_of ts) (entries_of ts) ≡ typed_in (expression_at file k) (maps_of ts) (entries_of ts)
  fits-typing = fits-same m most (expression_at file k) (expression-legal file m n r.accepted k r.node) (maps_of ts) (entries_of ts) known

  -- what Recover answers, and what it writes, where the table is typed and where it is not
  pub recovered-typed :
      typed_in (expression_at file k) (maps_of ts) (entries_of ts) ≡ true
      → (recover_answer file k schema (length work) (length out) ≡ Recovered (length (recovered_bytes (maps_of ts) (entries_of ts))))
      × (recover_out file k schema (length work) out ≡ over (recovered_bytes (maps_of ts) (entries_of ts)) out)
  recovered-typed typed =
      let results = recover-table file k schema work out m n ts below r in
      let gives = Recovering.recovered-fits m (expression_at file k) (maps_of ts) (entries_of ts) out (fits-typing ∙ typed) in
      (results.0 ∙ ap Ok gives.0, results.1 ∙ gives.1)

  pub recovered-untyped : typed_in (expression_at file k) (maps_of ts) (entries_of ts) ≡ false → recover_answer file k schema (length work) (length out) ≡ Untyped
  recovered-untyped untyped = (recover-table file k schema work out m n ts below r).0 ∙ ap Ok (Recovering.recovered-refused m (expression_at file k) (maps_of ts) (entries_of ts) out (fits-typing ∙ untyped)).0

  -- applying what is recovered gives the same schema, byte by byte
  pub recovered-applied :
      typed_in (expression_at file k) (maps_of ts) (entries_of ts) ≡ true
      → (work' schema' out' : List ℕ)
      → n * formula_size ≤ length work'
      → schema_size ≤ length schema'
      → output_size ≤ length out'
      → (apply_answer file k (recovered_bytes (maps_of ts) (entries_of ts)) (length work') (length schema') (length out')
      ≡ Applied (length schema) (record_size (length (output_list (expression_at file k) (entries_of ts)))))
      × (apply_schema file k (recovered_bytes (maps_of ts) (entries_of ts)) (length work') schema' (length out') ≡ over schema schema')
  recovered-applied typed work' schema' out' space size slice =
      let long = written-long (subsets_from (maps_of ts)) (lists_of (entries_of ts)) in
      let read = written-instantiation m most schema below ts r.read r.few long in
      let same = written-table m most schema below ts r.read r.few in
      let fit = fits-typing ∙ typed in
      let records = records-read m schema ts below r.read in
      let filled = (table_filled_lem m most ts records.0 records.1).1 r.filled in
      let both = (and-eq-true_iff (entries_fit m (expression_at file k) (entries_of ts)) (specials_fit m (expression_at file k) (subsets_from (maps_of ts)))).0 fit in
      let applied = apply-table file k (recovered_bytes (maps_of ts) (entries_of ts)) work' schema' out' m n (lists_of (entries_of ts))
      (record {
        goes =
            sliced-passes (sliced (admitted file k (length work')) (length schema') schema_size) (length out') output_size
            (sliced-passes (admitted file k (length work')) (length schema') schema_size
            (admitted-passes file k (length work') (record { accepted = r.accepted; node = r.node; work_space = space })) size)
            slice;
        read = read;
        entries = rw same.1 both.0;
        special = rw same.0 both.1;
        filled = rw (same.0, same.1, maps-back (maps_of ts) known.size known.small) filled;
      }) in
      let image = image-same m most schema below ts r.read r.few in (
        applied.0 ∙ rw (same.0, same.1, image),
        applied.1.0 ∙ rw (same.0, same.1, image),
      )
