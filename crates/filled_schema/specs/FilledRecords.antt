-- A table is filled exactly where the assignment that its records mean gives every relation an attribute, and exactly
-- where none of the records is empty.
use Rattle.std.specs.Prelude.{ℕ, zero, suc, ◌≤◌, ◌<◌, ◌≡◌, refl, ◌↔◌, Bool, true, false, cond, not, ◌||◌, List, [], ◌∷◌, T, eqb, ltb, length, get_or}
use Rattle.std.proofs.Common.{sym, ap, ap₂, ◌∙◌, true≢false, arith, lt-ltb, eq-eqb, eqb-true, ltb-false, lit<}
use Rattle.std.proofs.Math.Logic.{∥∥₁_elim}
use Rattle.std.proofs.Math.Bool.{or-true}
use Rattle.std.proofs.lemmas.Bool.{false≢true}
use Rattle.std.proofs.Math.Dec.{T_prop}
use Rattle.bits.specs.AllBelow.{in_all, all_in, all-fails}
use Rattle.bits.specs.Bit.{bit, bit-none}
use Rattle.bits.specs.Booleans.{clash, or-neither}
use Rattle.bits.specs.Pack.{bits-once}
use Rattle.bits.specs.Rising.{member, Rising}
use Rattle.bits.specs.Search.{Below, found, missing, search-below}
use Rattle.bits.specs.Truth.{is_true, is_false, by-true, by-false}
use Rattle.attribute_set.specs.AttrSet.{special}
use Rattle.attribute_set.specs.Laws.{special-in, special-above}
use Rattle.types.specs.Types.{Filled}
use Rattle.type_record.specs.Record.{TypeRecord, type_of}
use Rattle.type_record.specs.RecordBytes.{IsRecord}
use Rattle.type_record.specs.RecordTypes.{type-of-special, type-of-other, clear_first}
use Rattle.membership.specs.Entries.{attribute_of}
use Rattle.membership.specs.Holders.{held_by}
use Rattle.schema.specs.Schema.{no_record, assignment_of, entries_of, maps_of}
use Rattle.schema.specs.RecordsLaws.{AllRecords}
use Rattle.schema.specs.EntriesLaws.{all-at, record_of_lem, table-records}
use Rattle.filled_schema.specs.FilledSchema.{holds_some, table_filled}

-- ---- one record

-- its map is not 0, or it lists an attribute
abbrev has_attribute : TypeRecord → Bool
has_attribute t = not (eqb t.map 0) || ltb 0 (length t.ordinary)

some-attribute : (t : TypeRecord) → IsRecord t → has_attribute t ≡ true → (a : ℕ) × T (type_of t a)
some-attribute t is has = go (eqb t.map 0) refl has
  where
    mapped : eqb t.map 0 ≡ false → Below 16 (bit t.map) → (a : ℕ) × T (type_of t a)
    mapped some (found zero h b) = absurd (by-false (clear_first t is) b)
    mapped some (found (suc a) h b) = (suc a, by-true (type-of-special t (suc a) (special-in (suc a) (omega arith) (omega arith)) ∙ is_true (bit t.map (suc a)) b))
    mapped some (missing none) =
        let clear = bits-once 16 t.map 0 is.small (lit< tt) (λ j h. is_false (bit t.map j) (none j h) ∙ sym (bit-none j)) in
        absurd (clash (eq-eqb t.map 0 clear) some)

    listed : (l : List ℕ) → t.ordinary ≡ l → Rising 15 l → ltb 0 (length l) ≡ true → (a : ℕ) × T (type_of t a)
    listed [] e rising h = absurd (false≢true h)
    listed (x ∷ xs) e rising h =
        let above : 15 < x = rising.0 in
        (x, by-true (type-of-other t x (special-above x above) ∙ ap (member x) e ∙ ap (λ (b : Bool). b || member x xs) (eq-eqb x x refl)))

    go : (z : Bool) → eqb t.map 0 ≡ z → not z || ltb 0 (length t.ordinary) ≡ true → (a : ℕ) × T (type_of t a)
    go true none h = listed t.ordinary refl is.rising h
    go false some h = mapped some (search-below 16 (bit t.map))

attribute-some : (t : TypeRecord) (a : ℕ) → T (type_of t a) → has_attribute t ≡ true
attribute-some t a has = go (special a) refl
  where
    mapped : bit t.map a ≡ true → (z : Bool) → eqb t.map 0 ≡ z → not z || ltb 0 (length t.ordinary) ≡ true
    mapped stands true none = absurd (clash stands (ap (λ (x : ℕ). bit x a) (eqb-true t.map 0 none) ∙ bit-none a))
    mapped stands false some = refl

    listed : (l : List ℕ) → member a l ≡ true → ltb 0 (length l) ≡ true
    listed [] h = absurd (false≢true h)
    listed (x ∷ xs) h = lt-ltb 0 (length (x ∷ xs)) (omega arith)

    go : (s : Bool) → special a ≡ s → has_attribute t ≡ true
    go true h = mapped (sym (type-of-special t a h) ∙ is_true (type_of t a) has) (eqb t.map 0) refl
    go false h =
        ap (λ (b : Bool). not (eqb t.map 0) || b) (listed t.ordinary (sym (type-of-other t a h) ∙ is_true (type_of t a) has))
        ∙ or-true (not (eqb t.map 0))

record-filled : (t : TypeRecord) → IsRecord t → (has_attribute t ≡ true) ↔ ∥ ((a : ℕ) × T (type_of t a)) ∥₁
record-filled t is = (
  (λ has. ∣ some-attribute t is has ∣₁),
  (λ some. is_true (has_attribute t) (∥∥₁_elim some (T_prop (has_attribute t)) (λ x. by-true (attribute-some t x.0 x.1)))),
)

-- without one it is the empty record
record-none : (t : TypeRecord) → has_attribute t ≡ false → t ≡ no_record
record-none t has =
    let neither = or-neither (not (eqb t.map 0)) (ltb 0 (length t.ordinary)) has in
    ap₂ (λ (map : ℕ) (ordinary : List ℕ). record { map = map; ordinary = ordinary })
    (eqb-true t.map 0 (map-zero (eqb t.map 0) neither.0))
    (listless t.ordinary (ltb-false 0 (length t.ordinary) neither.1))
  where
    listless : (l : List ℕ) → length l ≤ 0 → l ≡ []
    listless [] h = refl
    listless (x ∷ xs) h = absurd (omega arith)

    map-zero : (z : Bool) → not z ≡ false → z ≡ true
    map-zero true h = refl
    map-zero false h = absurd (true≢false h)

record-empty : (t : TypeRecord) → (has_attribute t ≡ true) ↔ (t ≡ no_record → ⊥)
record-empty t = ((λ has none. true≢false (sym has ∙ ap has_attribute none)), λ other. go (has_attribute t) refl other)
  where
    go : (b : Bool) → has_attribute t ≡ b → (t ≡ no_record → ⊥) → b ≡ true
    go true has other = refl
    go false has other = absurd (other (record-none t has))

-- ---- a table

-- a relation has one of the entries exactly if its list of them is not empty
held-some : (r : ℕ) (es : List ℕ) → holds_some r es ≡ ltb 0 (length (held_by r es))
held-some r [] = refl
held-some r (e ∷ es) = go (bit e r) (held-some r es)
  where
    go : (b : Bool) → holds_some r es ≡ ltb 0 (length (held_by r es)) → b || holds_some r es ≡ ltb 0 (length (cond b (attribute_of e ∷ held_by r es) (held_by r es)))
    go true rest = sym (lt-ltb 0 (length (attribute_of e ∷ held_by r es)) (omega arith))
    go false rest = rest

-- the records of a schema of m relations
module _ (m : ℕ) (few : m ≤ 8) (ts : List TypeRecord) (size : length ts ≡ m) (all : AllRecords ts) where
  test-is : (r : ℕ) → r < m → not (eqb (get_or (maps_of ts) r 0) 0) || holds_some r (entries_of ts) ≡ has_attribute (get_or ts r no_record)
  test-is r less =
      ap (λ (b : Bool). not (eqb (get_or (maps_of ts) r 0) 0) || b) (held-some r (entries_of ts))
      ∙ ap has_attribute
      (sym (record_of_lem (length ts) (maps_of ts) (entries_of ts) r (omega arith))
      ∙ ap (λ (us : List TypeRecord). get_or us r no_record) (table-records ts (omega arith) all))

  -- their table is filled exactly where the assignment that they mean gives every relation an attribute
  pub table_filled_lem : (table_filled m (maps_of ts) (entries_of ts) ≡ true) ↔ Filled m (assignment_of ts)
  unfolding table_filled
  table_filled_lem = (
    (λ filled r less. (record-filled (get_or ts r no_record) (all-at ts all r (omega arith))).0 (sym (test-is r less) ∙ all_in m _ filled r less)),
    (λ filled. in_all m _ (λ r less. test-is r less ∙ (record-filled (get_or ts r no_record) (all-at ts all r (omega arith))).1 (filled r less))),
  )

  -- and exactly where none of them is empty
  pub none-empty : (table_filled m (maps_of ts) (entries_of ts) ≡ true) ↔ ((r : ℕ) → r < m → get_or ts r no_record ≡ no_record → ⊥)
  unfolding table_filled
  none-empty = (
    (λ filled r less. (record-empty (get_or ts r no_record)).0 (sym (test-is r less) ∙ all_in m _ filled r less)),
    (λ other. in_all m _ (λ r less. test-is r less ∙ (record-empty (get_or ts r no_record)).1 (other r less))),
  )

  -- where it is not filled, one of them is
  pub some-empty : table_filled m (maps_of ts) (entries_of ts) ≡ false → (r : ℕ) × ((r < m) × (get_or ts r no_record ≡ no_record))
  unfolding table_filled
  some-empty fails =
      let first = all-fails m _ fails in
      (first.0, (first.1.0, record-none (get_or ts first.0 no_record) (sym (test-is first.0 first.1.0) ∙ first.1.1)))
