-- The link to demand 3, in tables: the bytes of an instantiation that fits are an instantiation of the node's stored
-- formula, in the sense of demand 3, with the image and the output of its table. Theorems says it of what Apply leaves.
use Rattle.std.specs.Prelude.{ℕ, zero, suc, ◌*◌, ◌^◌, ◌≤◌, ◌<◌, ◌≡◌, refl, ◌↔◌, true, false, List, [], ◌∷◌, T, eqb, length, get_or}
use Rattle.std.proofs.Common.{sym, ap, subst, ◌∙◌, lt_of_lt_of_le, arith, eqb-true, eq-eqb, ltb→lt, pow_pos}
use mathlib.Core.Logic.Iff
use Rattle.std.proofs.Math.Decide.{dec_lt}
use Rattle.bits.specs.Bit.{bit, bit-none}
use Rattle.bits.specs.Rising.{member, rising-above}
use Rattle.bits.specs.Word.{Bytes}
use Rattle.attribute_set.specs.AttrSet.{special}
use Rattle.attribute_set.specs.Laws.{special-range, special-above}
use Rattle.types.specs.Types.{IsType, Assignment, holders}
use Rattle.types.specs.Attributes.{special-ordinary}
use Rattle.algebra.specs.Expression.{Legal}
use Rattle.expression_file.specs.Accepted.{accepted-file}
use Rattle.principal.specs.Formula.{Formula, is_variable}
use Rattle.principal.specs.Instantiation.{Instantiation, HasImage, HasOutput}
use Rattle.principal.specs.Plain.{to_states, holders-is, variable}
use Rattle.principal.proofs.Plain.{image-is, image-special, image-listed}
use Rattle.states.specs.Members.{Place, in_state, in_list, nowhere}
use Rattle.states.proofs.Members.{place}
use Rattle.bits.specs.Truth.{is_true, is_false, by-true, same_test, any-proof}
use Rattle.node_expression.specs.NodeExpression.{expression_at, expression-legal}
use Rattle.stored_formula.specs.Formula.{formula_space}
use Rattle.stored_formula.specs.StoredFormula.{formula_in}
use Rattle.stored_formula.specs.Theorems.{principal}
use Rattle.type_record.specs.Record.{TypeRecord, record_bytes, type_of}
use Rattle.type_record.specs.RecordBytes.{IsRecord}
use Rattle.type_record.specs.RecordTypes.{type-of-special, type-of-other, record-type}
use Rattle.membership.specs.Entries.{holders_in}
use Rattle.membership.specs.HolderLaws.{held-member}
use Rattle.schema.specs.Schema.{no_record, assignment_of, records_of, entries_of, maps_of}
use Rattle.schema.specs.RecordsLaws.{AllRecords}
use Rattle.table_types.specs.OutputRecord.{output_record, output-parts}
use Rattle.typing_theorems.specs.TableTyped.{table-rules, output-record}
use Rattle.typing_theorems.specs.Theorems.{RecordOf}
use Rattle.instantiation.specs.Instantiation.{entries_in, subsets_of}
use Rattle.instantiation.specs.Seen.{nothing_seen}
use Rattle.instantiation.specs.ReadLaws.{IsLists, lists-read}
use Rattle.instantiation.specs.Apart.{once-apart}
use Rattle.instantiation.specs.Owners.{lists-holders}
use Rattle.instantiation.specs.TableLaws.{subsets-none}
use Rattle.special_maps.specs.Special.{maps_from}
use Rattle.special_maps.specs.SpecialLaws.{map-bit}
use Rattle.apply_answer.specs.Apply.{output_bytes}
use Rattle.fitting.specs.Fit.{fits-typed}
use Rattle.round_trip.specs.Tables.{subsets-below}
use Rattle.schema.specs.Image.{IsTable, image-size, image-records, image-maps, image-entries, image-at, holders-held}
use Rattle.round_trip.specs.RoundTrip.{applied-table}
use Rattle.round_trip.specs.Undoing.{Applies, applies-admits}
use Rattle.admission.specs.Admission.{formula_size}

-- an instantiation whose subsets and lists are those of the bytes
pub record AreBytes {F : Formula} (I : Instantiation F) (bytes : List ℕ) (ls : List (List ℕ)) : Type 0 where
  pub subsets : (i : ℕ) (h : T (special i)) → I.subset i h ≡ get_or (subsets_of bytes) i 0
  pub lists : (s : ℕ) (v : T (is_variable F s)) (x : ℕ) → T (I.list s v x) ↔ T (member x (get_or ls s []))

all_types : (ts : List TypeRecord) → AllRecords ts → (r : ℕ) → r < length ts → IsType (type_of (get_or ts r no_record))
all_types [] all r h = absurd (omega arith)
all_types (t ∷ ts) all zero h = record-type t all.0
all_types (t ∷ ts) all (suc r) h = all_types ts all.1 r (omega arith)

module _ (file : List ℕ) (k : ℕ) (bytes work schema out : List ℕ) (m n : ℕ) (ls : List (List ℕ)) (below : Bytes bytes) (a : Applies file k bytes (length work) (length schema) (length out) m n ls) where
  few : m ≤ 8
  few = (accepted-file file m n (applies-admits a).accepted).counts.relations.1

  legal : Legal m (expression_at file k)
  legal = expression-legal file m n (applies-admits a).accepted k (applies-admits a).node

  table : IsTable m (maps_from (subsets_of bytes)) (entries_in ls)
  table = applied-table m few (expression_at file k) bytes below ls a.read.long a.read.read a.read.once a.read.few a.entries a.special

  -- the records of the schema that Apply writes, the assignment that they mean, and the output record
  abbrev image : List TypeRecord
  image = records_of m (maps_from (subsets_of bytes)) (entries_in ls)

  -- the assignment that the schema means
  abbrev A : Assignment
  A = assignment_of image

  -- the output record
  abbrev output : TypeRecord
  output = output_record (expression_at file k) (maps_from (subsets_of bytes)) (entries_in ls)

  size : length image ≡ m
  size = image-size m few (maps_from (subsets_of bytes)) (entries_in ls) table

  all : AllRecords image
  all = image-records m few (maps_from (subsets_of bytes)) (entries_in ls) table

  maps : maps_of image ≡ maps_from (subsets_of bytes)
  maps = image-maps m few (maps_from (subsets_of bytes)) (entries_in ls) table

  entries : entries_of image ≡ entries_in ls
  entries = image-entries m few (maps_from (subsets_of bytes)) (entries_in ls) table

  is-output : IsRecord output
  is-output = rw (maps, entries) at (output-record m few (expression_at file k) legal image all size (rw entries a.read.few))

  -- the output record is that of its type
  pub output-is-record : RecordOf (type_of (output_record (expression_at file k) (maps_from (subsets_of bytes)) (entries_in ls))) (output_bytes (expression_at file k) (subsets_of bytes) (entries_in ls))
  output-is-record =
      record {
        record_is = output;
        is = is-output;
        bytes-are = ap (λ (t : TypeRecord). record_bytes t.map t.ordinary) (sym (output-parts (expression_at file k) (maps_from (subsets_of bytes)) (entries_in ls)));
        means = λ x. refl;
      }

  -- an instantiation with that image and that output
  image-instantiation : (work' : List ℕ) → n * formula_size ≤ length work' → (I : Instantiation (formula_in (formula_space file work') m k)) × (HasImage I A × HasOutput I (type_of output))
  image-instantiation work' enough =
      let typed = fits-typed m few (expression_at file k) legal (subsets_of bytes) (entries_in ls) (subsets-none bytes) a.entries a.special in
      let rules = rw (maps, entries) at (table-rules m few (expression_at file k) legal image all size (rw (maps, entries) typed)) in
      (principal file m n (applies-admits a).accepted k (applies-admits a).node work' enough A (λ r h. let count = size in all_types image all r (omega arith)) (type_of output) (record-type output is-output)).0 rules

  -- ---- the assignment, by the bytes

  special-has : (i r : ℕ) → special i ≡ true → r < m → A r i ≡ bit (get_or (subsets_of bytes) i 0) r
  special-has i r h less =
      let range = special-range i h in
      type-of-special (get_or image r no_record) i h
      ∙ rw (image-at m few (maps_from (subsets_of bytes)) (entries_in ls) table r less) (map-bit (subsets_of bytes) r i (lt_of_lt_of_le less few) (omega arith))

  ordinary-has : (x r : ℕ) → special x ≡ false → r < m → A r x ≡ bit (holders_in (entries_in ls) x) r
  ordinary-has x r h less =
      type-of-other (get_or image r no_record) x h
      ∙ rw (image-at m few (maps_from (subsets_of bytes)) (entries_in ls) table r less) (held-member 15 r (entries_in ls) (lt_of_lt_of_le less few) table.rising x)

  -- ---- the lists of the bytes

  lists : IsLists ls
  lists = lists-read bytes ls below a.read.long a.read.read

  holders-are : (x : ℕ) → special x ≡ false → holders m A x ≡ holders_in (entries_in ls) x
  holders-are x h = holders-is m A x (holders_in (entries_in ls) x) (holders-held m (entries_in ls) table.held x) (λ r less. ordinary-has x r h less)

  owner : (s x : ℕ) → 1 ≤ s → eqb (holders_in (entries_in ls) x) s ≡ member x (get_or ls s [])
  owner s x some = lists-holders ls lists.size lists.rising (once-apart nothing_seen ls a.read.once) x s some

  -- the attributes of the lists are ordinary
  plain-listed : (s x : ℕ) → T (member x (get_or ls s [])) → special x ≡ false
  plain-listed s x l = go (dec_lt 15 x)
    where
      go : Dec (15 < x) → special x ≡ false
      go (yes h) = special-above x h
      go (no h) = absurd (subst T (rising-above 15 (get_or ls s []) x (lists.rising s) (omega arith)) l)

  -- ---- an instantiation with that image has the subsets and the lists of the bytes

  module _ (F : Formula) (relations : F.relations ≡ m) (I : Instantiation F) (has-image : HasImage I A) where
    subset-bytes : (i : ℕ) (h : T (special i)) → I.subset i h ≡ get_or (subsets_of bytes) i 0
    subset-bytes i h =
        let is = is_true (special i) h in
        let range = special-range i is in
        sym
        (holders-is m A i (I.subset i h) (rw (← relations) (ltb→lt (I.subset i h) (2 ^ F.relations) (I.below i h)))
        (λ r less. same_test (A r i) (bit (I.subset i h) r)
        (Iff.trans (has-image r (rw relations less) i) (image-special I i h r))))
        ∙ holders-is m A i (get_or (subsets_of bytes) i 0)
        (subsets-below m few (expression_at file k) (subsets_of bytes) (entries_in ls) (subsets-none bytes) a.entries a.special i
        (omega arith))
        (λ r less. special-has i r is less)

    -- an attribute of the list of s has the holders s
    listed-holders : (s : ℕ) (v : T (is_variable F s)) (x : ℕ) → T (I.list s v x) → holders_in (entries_in ls) x ≡ s
    listed-holders s v x l =
        let plain = is_false (special x) (λ h. special-ordinary x h (I.ordinaries s v x l)) in
        sym (holders-are x plain) ∙ holders-is m A x s (rw (← relations) ((variable F s).0 v).below) (λ r less. same_test (A r x) (bit s r) (Iff.trans (has-image r (rw relations less) x) (image-listed I x s v l r)))

    list-bytes : (s : ℕ) (v : T (is_variable F s)) (x : ℕ) → T (I.list s v x) → T (member x (get_or ls s []))
    list-bytes s v x l = by-true (sym (owner s x ((variable F s).0 v).some) ∙ eq-eqb (holders_in (entries_in ls) x) s (listed-holders s v x l))

    bytes-list : (s : ℕ) (v : T (is_variable F s)) (x : ℕ) → T (member x (get_or ls s [])) → T (I.list s v x)
    bytes-list s v x l = go (place (to_states I) x)
      where
        plain : special x ≡ false
        plain = plain-listed s x l

        some : 1 ≤ s
        some = ((variable F s).0 v).some

        held : holders_in (entries_in ls) x ≡ s
        held = eqb-true (holders_in (entries_in ls) x) s (owner s x some ∙ is_true (member x (get_or ls s [])) l)

        moved : (s' : ℕ) → s' ≡ s → (v' : T (is_variable F s')) → T (I.list s' v' x) → T (I.list s v x)
        moved s' e v' t = subst (λ (q : ℕ). (w : T (is_variable F q)) → T (I.list q w x)) e (λ w. any-proof (is_variable F s') (λ w. T (I.list s' w x)) v' w t) v

        go : Place (to_states I) x → T (I.list s v x)
        go (in_state h) = absurd (subst T plain h)
        go (in_list s' v' t) = moved s' (sym (listed-holders s' v' x t) ∙ held) v' t
        go (nowhere k none silent) =
            let nobody = holders-is m A x 0 (pow_pos m)
            (λ r less. same_test (A r x) (bit 0 r) (
              (λ t. absurd (none r true ((image-is I r x).0 ((has-image r (rw relations less) x).0 t)))),
              (λ t. absurd (subst T (bit-none r) t)),
            ))
            in
            let same = sym held ∙ sym (holders-are x plain) ∙ nobody in
            let least = some in
            absurd (omega arith)

    are-bytes : AreBytes I bytes ls
    are-bytes = record { subsets = subset-bytes; lists = λ s v x. (list-bytes s v x, bytes-list s v x) }

  -- the bytes are an instantiation of the node's stored formula, with the image and the output of the table
  pub bytes-instantiation :
      (work' : List ℕ)
      → n * formula_size ≤ length work'
      → (I : Instantiation (formula_in (formula_space file work') m k))
      × (AreBytes I bytes ls
      × (HasImage I (assignment_of (records_of m (maps_from (subsets_of bytes)) (entries_in ls)))
      × HasOutput I (type_of (output_record (expression_at file k) (maps_from (subsets_of bytes)) (entries_in ls)))))
  bytes-instantiation work' enough =
      let i = image-instantiation work' enough in
      (i.0, (are-bytes (formula_in (formula_space file work') m k) refl i.0 i.1.0, i.1))
