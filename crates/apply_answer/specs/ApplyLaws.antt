-- Laws of Apply: what the code finds is what the definitions say, the results after each refusal, and after none.
use Rattle.std.specs.Prelude.{ℕ, ◌+◌, ◌*◌, ◌%◌, ◌≤◌, ◌<◌, ◌≡◌, Bool, true, false, not, List, length, get_or, take, Result, Err, Ok}
use Rattle.std.proofs.Math.Path.{refl}
use Rattle.std.proofs.Common.{sym, ap, ap₂, ◌∙◌, arith}
use Rattle.bits.specs.AllBelow.{all_below}
use Rattle.bits.specs.Tab.{over}
use Rattle.bits.specs.Word.{Bytes}
use Rattle.refusal.specs.Chain.{refuse, refuse-stops, refuse-passes}
use Rattle.refusal.specs.declared.Refusal.{Refusal}
use Rattle.refusal.specs.declared.Refusal.TheVariants.{TypeVariable, SpecialSubset, EmptyImage}
use Rattle.admission.specs.Admission.{after, sliced, admitted, formula_size}
use Rattle.admission.specs.AdmissionLaws.{sliced-passed, Admits, admitted-passed}
use Rattle.algebra.specs.Expression.{Expression, Legal}
use Rattle.states.specs.Formula.{type_variable}
use Rattle.column.specs.Column.{allowed_in}
use Rattle.node_expression.specs.NodeExpression.{expression_at}
use Rattle.stored_formula.specs.ColumnPlace.{column_at}
use Rattle.stored_formula.specs.FormulaBytes.{cell_column, formulas_of}
use Rattle.stored_formula.specs.FormulaBytesLaws.{stored-column}
use Rattle.type_record.specs.Record.{record_size, record_bytes, output_size}
use Rattle.membership.specs.Entries.{subset_of}
use Rattle.membership.specs.Holders.{ItemsFit}
use Rattle.membership.specs.TableLaws.{items-stand}
use Rattle.schema.specs.Schema.{schema_bytes, records_of, EntriesStand, WritesFrom, schema_size}
use Rattle.filled_schema.specs.FilledSchema.{table_filled}
use Rattle.instantiation.specs.Instantiation.{Instantiation, instantiation_reading, reading_of}
use Rattle.instantiation.specs.ReadLaws.{lists-read}
use Rattle.instantiation.specs.EntriesLaws.{entries_below}
use Rattle.instantiation.specs.TableLaws.{ReadInstantiation, instantiation-read, handed-on, subsets-size, subsets-none, subsets-small, refused-on}
use Rattle.instantiation.specs.declared.InstantiationTable.{InstantiationTable}
use Rattle.table_types.specs.Output.{output_map, output_list}
use Rattle.typing_answer.specs.Typing.{after_schema}
use Rattle.table_types.specs.OutputLaws.{map-even}
use Rattle.special_maps.specs.Special.{maps_from}
use Rattle.special_maps.specs.SpecialLaws.{maps-length, maps-even}
use Rattle.fitting.specs.StoredFit.{specials_allowed, stored_map, stored_list}
use Rattle.fitting.specs.Fit.{entries_fit, specials_fit, entries-counted, entries-stored, specials-stored, map-stored, list-stored}
use Rattle.apply_answer.specs.Apply.{after_fit, image_bytes, output_bytes, table_applied, table_image, table_output, read_applied, read_image, read_output, read_space, apply_answer, apply_space, apply_schema, apply_out, Applied}
use Rattle.expression_file.specs.declared.files.Header.{Header}
use Rattle.expression_file.specs.ReadFile.{Accepted}
use Rattle.schema.specs.Judgement.{Judgement, Read, Refused as ReadRefused}
use Rattle.apply_answer.specs.declared.Application.{Application}

-- the formula of node k stands in the work space
pub record Filled (file : List ℕ) (m k : ℕ) (work : List ℕ) : Type 0 where
  pub fits : k * formula_size + formula_size ≤ length work
  pub columns : (c : ℕ) → c < 16 → column_at work k c ≡ cell_column m (expression_at file k) c

-- the table of an instantiation that was read: a subset of a byte for each special attribute, none for
-- 0, and at most 255 entries
pub record ReadSubsets (subsets items : List ℕ) (count : ℕ) : Type 0 where
  pub special : length subsets ≡ 16
  pub small : (i : ℕ) → get_or subsets i 0 < 256
  pub none : get_or subsets 0 0 ≡ 0
  pub few : count ≤ 255
  pub fit : ItemsFit items count

-- the test of the entries in memory is that of the entries
pub entries-tested :
    (file : List ℕ) (m k : ℕ) (work items : List ℕ) (count : ℕ)
    → Filled file m k work
    → count ≤ length items
    → (t : Bool)
    → t ≡ all_below count (λ i. type_variable (allowed_in (column_at work k 0)) (subset_of (get_or items i 0)))
    → t ≡ entries_fit m (expression_at file k) (take count items)
entries-tested file m k work items count filled enough t is =
    is ∙ entries-counted work k items count enough ∙ entries-stored work k m (expression_at file k) filled.columns (take count items)

-- ---- the work space, by what reading gave

module _ (file : List ℕ) (m n : ℕ) (judgement : Judgement) (work : List ℕ) where
  pub space-stops : (r : Refusal) → judgement ≡ ReadRefused r → work ≡ read_space file m n judgement work
  unfolding read_space
  space-stops r is = rw is refl

  pub space-goes : judgement ≡ Read → over (formulas_of file m n) work ≡ read_space file m n judgement work
  unfolding read_space
  space-goes is = rw is refl

-- ---- what a table gives: the answer, the image and the output record

module _ (m : ℕ) (e : Expression) (subsets entries : List ℕ) where
  -- answer and slices are as the definitions over a table say
  abbrev TableGives : List ℕ → List ℕ → Result Application Refusal → List ℕ → List ℕ → Type 0
  TableGives schema out a image written =
      (table_applied m e subsets entries ≡ a)
      × ((table_image m e subsets entries schema ≡ image)
      × (table_output m e subsets entries out ≡ written))

  -- test 20
  abbrev no_variable : Bool
  no_variable = not (entries_fit m e entries)

  -- test 21
  abbrev not_allowed : Bool
  not_allowed = not (specials_fit m e subsets)

  -- test 26
  abbrev left_empty : Bool
  left_empty = not (table_filled m (maps_from subsets) entries)

  -- after each outcome of the tests
  module _ {A : Type 0} (stop : Refusal → A) (go : A) where
    -- what follows 21
    abbrev third : A
    third = refuse stop left_empty EmptyImage go

    -- what follows 20
    abbrev second : A
    second = refuse stop not_allowed SpecialSubset third

    fit-variable : entries_fit m e entries ≡ false → after_fit m e subsets entries stop go ≡ stop TypeVariable
    fit-variable fails = refuse-stops stop no_variable TypeVariable second (ap not fails)

    module _ (fit : entries_fit m e entries ≡ true) where
      fit-special : specials_fit m e subsets ≡ false → after_fit m e subsets entries stop go ≡ stop SpecialSubset
      fit-special fails = refuse-passes stop no_variable TypeVariable second (ap not fit) ∙ refuse-stops stop not_allowed SpecialSubset third (ap not fails)

      module _ (special : specials_fit m e subsets ≡ true) where
        passed : after_fit m e subsets entries stop go ≡ third
        passed = refuse-passes stop no_variable TypeVariable second (ap not fit) ∙ refuse-passes stop not_allowed SpecialSubset third (ap not special)

        fit-empty : table_filled m (maps_from subsets) entries ≡ false → after_fit m e subsets entries stop go ≡ stop EmptyImage
        fit-empty fails = passed ∙ refuse-stops stop left_empty EmptyImage go (ap not fails)

        fit-goes : table_filled m (maps_from subsets) entries ≡ true → after_fit m e subsets entries stop go ≡ go
        fit-goes filled = passed ∙ refuse-passes stop left_empty EmptyImage go (ap not filled)

  -- the three tests hold
  pub table_fits :
      (schema out : List ℕ)
      → entries_fit m e entries ≡ true
      → specials_fit m e subsets ≡ true
      → table_filled m (maps_from subsets) entries ≡ true
      → TableGives schema out (Applied (length (image_bytes m subsets entries)) (record_size (length (output_list e entries))))
      (over (image_bytes m subsets entries) schema) (over (output_bytes e subsets entries) out)
  unfolding table_applied table_image table_output
  table_fits schema out fit special filled = (
    fit-goes Err _ fit special filled,
    (fit-goes (λ r. schema) _ fit special filled, fit-goes (λ r. out) _ fit special filled),
  )

  -- the first fails
  pub entries-refused : (schema out : List ℕ) → entries_fit m e entries ≡ false → TableGives schema out (Err TypeVariable) schema out
  unfolding table_applied table_image table_output
  entries-refused schema out fails = (fit-variable Err _ fails, (fit-variable (λ r. schema) _ fails, fit-variable (λ r. out) _ fails))

  -- the first holds and the second fails
  pub specials-refused : (schema out : List ℕ) → entries_fit m e entries ≡ true → specials_fit m e subsets ≡ false → TableGives schema out (Err SpecialSubset) schema out
  unfolding table_applied table_image table_output
  specials-refused schema out fit fails = (fit-special Err _ fit fails, (fit-special (λ r. schema) _ fit fails, fit-special (λ r. out) _ fit fails))

  -- both hold and the third fails
  pub image-refused :
      (schema out : List ℕ)
      → entries_fit m e entries ≡ true
      → specials_fit m e subsets ≡ true
      → table_filled m (maps_from subsets) entries ≡ false
      → TableGives schema out (Err EmptyImage) schema out
  unfolding table_applied table_image table_output
  image-refused schema out fit special fails = (
    fit-empty Err _ fit special fails,
    (fit-empty (λ r. schema) _ fit special fails, fit-empty (λ r. out) _ fit special fails),
  )

  -- and the other way: where it was applied, all three hold
  pub applied-fits : (size width : ℕ) → table_applied m e subsets entries ≡ Applied size width → (entries_fit m e entries ≡ true) × (specials_fit m e subsets ≡ true) × (table_filled m (maps_from subsets) entries ≡ true)
  applied-fits size width said = go (entries_fit m e entries) refl (specials_fit m e subsets) refl (table_filled m (maps_from subsets) entries) refl
    where
      never : (r : Refusal) → table_applied m e subsets entries ≡ Err r → ⊥
      never r refused = let both = sym refused ∙ said in let z : ◌≡◌ {A = ℕ} 0 1 = cc in omega arith

      go :
          (t : Bool)
          → entries_fit m e entries ≡ t
          → (u : Bool)
          → specials_fit m e subsets ≡ u
          → (v : Bool)
          → table_filled m (maps_from subsets) entries ≡ v
          → (entries_fit m e entries ≡ true) × (specials_fit m e subsets ≡ true) × (table_filled m (maps_from subsets) entries ≡ true)
      go false fails u u-is v v-is = absurd (never TypeVariable (entries-refused entries entries fails).0)
      go true fit false fails v v-is = absurd (never SpecialSubset (specials-refused entries entries fit fails).0)
      go true fit true special false fails = absurd (never EmptyImage (image-refused entries entries fit special fails).0)
      go true fit true special true filled = (fit, special, filled)

-- ---- over a table

module _ (file : List ℕ) (m k : ℕ) (few : m ≤ 8) (legal : Legal m (expression_at file k)) (work subsets items : List ℕ) (count : ℕ) (filled : Filled file m k work) (table : ReadSubsets subsets items count) where
  -- the tests of the code
  entries-found : (t : Bool) → t ≡ all_below count (λ i. type_variable (allowed_in (column_at work k 0)) (subset_of (get_or items i 0))) → t ≡ entries_fit m (expression_at file k) (take count items)
  entries-found = entries-tested file m k work items count filled table.fit.enough

  specials-found : (t : Bool) → t ≡ specials_allowed work k subsets → t ≡ specials_fit m (expression_at file k) subsets
  specials-found t is = is ∙ specials-stored work k m (expression_at file k) filled.columns subsets table.small

  module _ (schema out : List ℕ) where
    pub variable-refused :
        (t : Bool)
        → t ≡ false
        → t ≡ all_below count (λ i. type_variable (allowed_in (column_at work k 0)) (subset_of (get_or items i 0)))
        → (Err TypeVariable ≡ table_applied m (expression_at file k) subsets (take count items))
        × ((schema ≡ table_image m (expression_at file k) subsets (take count items) schema)
        × (out ≡ table_output m (expression_at file k) subsets (take count items) out))
    variable-refused t fails is =
        let gives = entries-refused m (expression_at file k) subsets (take count items) schema out (sym (entries-found t is) ∙ fails) in
        (sym gives.0, (sym gives.1.0, sym gives.1.1))

    pub special-refused :
        (t u : Bool)
        → t ≡ true
        → t ≡ all_below count (λ i. type_variable (allowed_in (column_at work k 0)) (subset_of (get_or items i 0)))
        → u ≡ false
        → u ≡ specials_allowed work k subsets
        → (Err SpecialSubset ≡ table_applied m (expression_at file k) subsets (take count items))
        × ((schema ≡ table_image m (expression_at file k) subsets (take count items) schema)
        × (out ≡ table_output m (expression_at file k) subsets (take count items) out))
    special-refused t u holds is fails is' =
        let gives = specials-refused m (expression_at file k) subsets (take count items) schema out (sym (entries-found t is) ∙ holds) (sym (specials-found u is') ∙ fails) in
        (sym gives.0, (sym gives.1.0, sym gives.1.1))

    -- both tests of the subsets hold: the table types the node
    module _ (t u : Bool) (holds : t ≡ true)
        (is : t ≡ all_below count (λ i. type_variable (allowed_in (column_at work k 0)) (subset_of (get_or items i 0)))) (holds' : u ≡ true)
        (is' : u ≡ specials_allowed work k subsets) (maps : List ℕ) (maps-are : maps ≡ maps_from subsets) where
      fit : entries_fit m (expression_at file k) (take count items) ≡ true
      fit = sym (entries-found t is) ∙ holds

      special-fit : specials_fit m (expression_at file k) subsets ≡ true
      special-fit = sym (specials-found u is') ∙ holds'

      map_is : stored_map work k subsets ≡ output_map (expression_at file k) (maps_from subsets)
      map_is = map-stored m few (expression_at file k) legal work k filled.columns subsets table.small table.none special-fit

      -- the map of the output has bit 0 clear
      pub output-even : (map : ℕ) → map ≡ stored_map work k subsets → map % 2 ≡ 0
      output-even map map_found = ap (λ (x : ℕ). x % 2) (map_found ∙ map_is) ∙ map-even m (expression_at file k) legal (maps_from subsets) (maps-even subsets table.none)

      -- the test of the image, with the maps
      image-found : (v : Bool) → v ≡ table_filled m maps (take count items) → v ≡ table_filled m (maps_from subsets) (take count items)
      image-found v v-is = v-is ∙ ap (λ (x : List ℕ). table_filled m x (take count items)) maps-are

      pub empty-refused :
          (v : Bool)
          → v ≡ false
          → v ≡ table_filled m maps (take count items)
          → (Err EmptyImage ≡ table_applied m (expression_at file k) subsets (take count items))
          × ((schema ≡ table_image m (expression_at file k) subsets (take count items) schema)
          × (out ≡ table_output m (expression_at file k) subsets (take count items) out))
      empty-refused v fails v-is =
          let gives = image-refused m (expression_at file k) subsets (take count items) schema out fit special-fit (sym (image-found v v-is) ∙ fails) in
          (sym gives.0, (sym gives.1.0, sym gives.1.1))

      pub table-applied :
          (v : Bool)
          → v ≡ true
          → v ≡ table_filled m maps (take count items)
          → (size out_size map : ℕ) (listed image written : List ℕ)
          → size ≡ length (schema_bytes (records_of m maps (take count items)))
          → image ≡ over (schema_bytes (records_of m maps (take count items))) schema
          → map ≡ stored_map work k subsets
          → listed ≡ stored_list work k (take count items)
          → out_size ≡ record_size (length listed)
          → written ≡ over (record_bytes map listed) out
          → (Applied size out_size ≡ table_applied m (expression_at file k) subsets (take count items))
          × ((image ≡ table_image m (expression_at file k) subsets (take count items) schema)
          × (written ≡ table_output m (expression_at file k) subsets (take count items) out))
      table-applied v whole v-is size out_size map listed image written size_is image-is map_found list-found out-size wrote =
          let list-is = list-found ∙ list-stored m few (expression_at file k) legal work k filled.columns (take count items) fit in
          let gives = table_fits m (expression_at file k) subsets (take count items) schema out fit special-fit (sym (image-found v v-is) ∙ whole) in (
            ap₂ Applied (size_is ∙ ap (λ (x : List ℕ). length (schema_bytes (records_of m x (take count items)))) maps-are) (out-size ∙ ap (λ (l : List ℕ). record_size (length l)) list-is) ∙ sym gives.0,
            (
              image-is ∙ ap (λ (x : List ℕ). over (schema_bytes (records_of m x (take count items))) schema) maps-are ∙ sym gives.1.0,
              wrote ∙ ap₂ (λ (x : ℕ) (l : List ℕ). over (record_bytes x l) out) (map_found ∙ map_is) list-is ∙ sym gives.1.1,
            ),
          )

-- what is found in the bytes, by the reading that was handed on
pub read-stopped : (bytes : List ℕ) (r : Refusal) → Err r ≡ reading_of (instantiation_reading bytes) → (instantiation_reading bytes).judgement ≡ ReadRefused r
read-stopped bytes r is = refused-on (instantiation_reading bytes) r is

-- an instantiation that was read has such a table
pub record SubsetsRead (bytes items : List ℕ) (x : InstantiationTable) : Type 0 where
  pub table : ReadSubsets x.subsets items x.count
  pub subsets : x.subsets ≡ (instantiation_reading bytes).subsets
  pub entries : take x.count items ≡ (instantiation_reading bytes).entries
  pub judged : (instantiation_reading bytes).judgement ≡ Read

pub read-subsets :
    (bytes items : List ℕ) (x : InstantiationTable)
    → Bytes bytes
    → Ok x ≡ reading_of (instantiation_reading bytes)
    → EntriesStand (instantiation_reading bytes).judgement (instantiation_reading bytes).entries items
    → SubsetsRead bytes items x
read-subsets bytes items x below is stands = made (instantiation-read bytes judged)
  where
    judged : (instantiation_reading bytes).judgement ≡ Read
    judged = (handed-on (instantiation_reading bytes) x is).judgement

    subsets : x.subsets ≡ (instantiation_reading bytes).subsets
    subsets = (handed-on (instantiation_reading bytes) x is).subsets

    number : x.count ≡ length (instantiation_reading bytes).entries
    number = (handed-on (instantiation_reading bytes) x is).count

    made : (ls : List (List ℕ)) × ReadInstantiation bytes (instantiation_reading bytes) ls → SubsetsRead bytes items x
    made (ls, r) =
        let lists = lists-read bytes ls below r.long r.read in
        let is-entries = ap (λ (i : Instantiation). i.entries) r.is in
        let is-subsets = subsets ∙ ap (λ (i : Instantiation). i.subsets) r.is in
        let few = r.few in
        let size = number ∙ ap length is-entries in
        record {
          table =
              record {
                special = rw is-subsets (subsets-size bytes);
                small = rw is-subsets (subsets-small bytes below);
                none = rw is-subsets (subsets-none bytes);
                few = omega arith;
                fit = rw number (items-stand items (instantiation_reading bytes).entries (stands judged) (rw is-entries (entries_below ls lists)));
              };
          subsets = subsets;
          entries = rw number (stands judged);
          judged = judged;
        }

-- a table of maps with bit 0 clear can be written from it
pub maps-table : (subsets items : List ℕ) (count : ℕ) → ReadSubsets subsets items count → WritesFrom (maps_from subsets) items count
maps-table subsets items count t = record { maps = maps-length subsets; even = maps-even subsets t.none; few = t.few; fit = t.fit }

-- what Formula leaves is such a work space
pub filled-space : (file work filled : List ℕ) (m n k : ℕ) → k < n → n * formula_size ≤ length work → filled ≡ over (formulas_of file m n) work → length filled ≡ length work → Filled file m k filled
filled-space file work filled m n k node enough is size =
    record {
      fits = omega arith;
      columns = λ c h. rw is (stored-column file work m n enough k c node h);
    }

-- ---- as it was read

module _ (file : List ℕ) (m n : ℕ) (e : Expression) (i : Instantiation) (work schema out : List ℕ) where
  pub read-stops : (r : Refusal) → i.judgement ≡ ReadRefused r → (Err r ≡ read_applied m e i) × ((work ≡ read_space file m n i.judgement work) × ((schema ≡ read_image m e i schema) × (out ≡ read_output m e i out)))
  unfolding read_applied read_space read_image read_output
  read-stops r is = rw is (refl, (refl, (refl, refl)))

  pub read_goes :
      i.judgement ≡ Read
      → (a : Result Application Refusal) (filled image written : List ℕ)
      → filled ≡ over (formulas_of file m n) work
      → a ≡ table_applied m e i.subsets i.entries
      → image ≡ table_image m e i.subsets i.entries schema
      → written ≡ table_output m e i.subsets i.entries out
      → (a ≡ read_applied m e i)
      × ((filled ≡ read_space file m n i.judgement work) × ((image ≡ read_image m e i schema) × (written ≡ read_output m e i out)))
  unfolding read_applied read_space read_image read_output
  read_goes is a filled image written space applied imaged wrote = rw is (applied, (space, (imaged, wrote)))

-- where it was applied, the instantiation was read
pub read-applied : (m : ℕ) (e : Expression) (i : Instantiation) (size width : ℕ) → read_applied m e i ≡ Applied size width → (i.judgement ≡ Read) × (table_applied m e i.subsets i.entries ≡ Applied size width)
unfolding read_applied
read-applied m e i size width said = go i.judgement refl said
  where
    go :
        (j : Judgement)
        → i.judgement ≡ j
        → after_schema j Err (table_applied m e i.subsets i.entries) ≡ Applied size width
        → (i.judgement ≡ Read) × (table_applied m e i.subsets i.entries ≡ Applied size width)
    go (ReadRefused r) is q = absurd (let z : ◌≡◌ {A = ℕ} 0 1 = cc in omega arith)
    go Read is q = (is, q)

-- ---- the answer, the work space and the two slices

-- where none of 1 to 13 applies: the node and the work space, and the two slices
pub apply-passed : (file : List ℕ) (k space size out_size : ℕ) {m n : ℕ} → sliced (sliced (admitted file k space) size schema_size) out_size output_size ≡ Accepted m n → Admits file k space m n × (schema_size ≤ size) × (output_size ≤ out_size)
apply-passed file k space size out_size e =
    let output = sliced-passed (sliced (admitted file k space) size schema_size) out_size output_size e in
    let schema = sliced-passed (admitted file k space) size schema_size output.0 in
    (admitted-passed file k space schema.0, schema.1, output.1)

module _ (file : List ℕ) (k : ℕ) (bytes work schema out : List ℕ) where
  -- answer and slices are as the definitions of Apply say
  abbrev Results : Result Application Refusal → List ℕ → List ℕ → List ℕ → Type 0
  Results a filled image written =
      (a ≡ apply_answer file k bytes (length work) (length schema) (length out))
      × ((filled ≡ apply_space file k bytes work (length schema) (length out))
      × ((image ≡ apply_schema file k bytes (length work) schema (length out))
      × (written ≡ apply_out file k bytes (length work) (length schema) out)))

  pub apply-stops : (r : Refusal) → sliced (sliced (admitted file k (length work)) (length schema) schema_size) (length out) output_size ≡ Err r → Results (Err r) work schema out
  unfolding apply_answer apply_space apply_schema apply_out
  apply-stops r e = rw e (refl, (refl, (refl, refl)))

  pub apply-goes :
      (m n : ℕ)
      → sliced (sliced (admitted file k (length work)) (length schema) schema_size) (length out) output_size ≡ Accepted m n
      → (a : Result Application Refusal) (filled image written : List ℕ)
      → a ≡ read_applied m (expression_at file k) (instantiation_reading bytes)
      → filled ≡ read_space file m n (instantiation_reading bytes).judgement work
      → image ≡ read_image m (expression_at file k) (instantiation_reading bytes) schema
      → written ≡ read_output m (expression_at file k) (instantiation_reading bytes) out
      → Results a filled image written
  unfolding apply_answer apply_space apply_schema apply_out
  apply-goes m n e a filled image written answered space imaged wrote = rw e (answered, (space, (imaged, wrote)))

-- where Apply applied, none of 1 to 13 applies
pub apply-applied :
    (file : List ℕ) (k : ℕ) (bytes : List ℕ) (space size out_size s w : ℕ)
    → apply_answer file k bytes space size out_size ≡ Applied s w
    → (m : ℕ)
    × ((n : ℕ)
    × ((sliced (sliced (admitted file k space) size schema_size) out_size output_size ≡ Accepted m n)
    × (read_applied m (expression_at file k) (instantiation_reading bytes) ≡ Applied s w)))
unfolding apply_answer
apply-applied file k bytes space size out_size s w said = go (sliced (sliced (admitted file k space) size schema_size) out_size output_size) refl said
  where
    go :
        (a : Result Header Refusal)
        → sliced (sliced (admitted file k space) size schema_size) out_size output_size ≡ a
        → after a Err (λ m n. read_applied m (expression_at file k) (instantiation_reading bytes)) ≡ Applied s w
        → (m : ℕ)
        × ((n : ℕ)
        × ((sliced (sliced (admitted file k space) size schema_size) out_size output_size ≡ Accepted m n)
        × (read_applied m (expression_at file k) (instantiation_reading bytes) ≡ Applied s w)))
    go (Err r) goes q = absurd (let z : ◌≡◌ {A = ℕ} 0 1 = cc in omega arith)
    go (Ok h) goes q = (h.relations, (h.nodes, (goes, q)))
