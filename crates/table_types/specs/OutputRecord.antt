-- The output record is a type record, and what it says about each attribute is what the attribute's cell says.
use Rattle.std.specs.Prelude.{ℕ, zero, suc, ◌%◌, ◌≤◌, ◌<◌, ◌≡◌, refl, Bool, true, false, cond, List, [], ◌∷◌, eqb, length, get_or}
use Rattle.std.proofs.Common.{sym, ◌∙◌, lt_of_lt_of_le, arith, eqb-true, eq-eqb, ne_eqb}
use Rattle.bits.specs.Bit.{bit}
use Rattle.bits.specs.Rising.{member, rising-above}
use Rattle.algebra.specs.Expression.{Expression, Legal}
use Rattle.algebra.specs.Cell.{plain, out, ok}
use Rattle.algebra.specs.CellLaws.{cell-depends}
use Rattle.attribute_set.specs.AttrSet.{special as is_special}
use Rattle.attribute_set.specs.Laws.{special-range}
use Rattle.type_record.specs.Record.{TypeRecord, type_of}
use Rattle.type_record.specs.RecordBytes.{IsRecord}
use Rattle.type_record.specs.RecordTypes.{type-of-special, type-of-other}
use Rattle.membership.specs.HolderLaws.{kept-rising, kept-few, kept-below}
use Rattle.membership.specs.Entries.{attribute_of, subset_of, holders_in}
use Rattle.membership.specs.EnterLaws.{RisingEntries, subset-bit}
use Rattle.membership.specs.TableLaws.{Below}
use Rattle.table_types.specs.Output.{special_holders, output_map, output_list}
use Rattle.table_types.specs.OutputLaws.{map-even, none-held, output-map-below, output-map-bit}

-- the output record over a table
unfoldable pub output_record : Expression → List ℕ → List ℕ → TypeRecord
output_record e special entries = record { map = output_map e special; ordinary = output_list e entries }

pub output-parts : (e : Expression) (special entries : List ℕ) → output_record e special entries ≡ record { map = output_map e special; ordinary = output_list e entries }
unfolding output_record
output-parts e special entries = refl

-- ---- its type

module _ (e : Expression) (special entries : List ℕ) where
  pub output-of-special : (a : ℕ) → is_special a ≡ true → type_of (output_record e special entries) a ≡ out plain e a (special_holders special a)
  unfolding output_record
  output-of-special a h = let range = special-range a h in type-of-special (output_record e special entries) a h ∙ output-map-bit e special a (omega arith)

  pub output-of-other : (a : ℕ) → is_special a ≡ false → type_of (output_record e special entries) a ≡ member a (output_list e entries)
  unfolding output_record
  output-of-other a h = type-of-other (output_record e special entries) a h

-- ---- the record

module _ (m : ℕ) (few : m ≤ 8) (e : Expression) (legal : Legal m e) where
  pub output-is : (special es : List ℕ) → ((r : ℕ) → get_or special r 0 % 2 ≡ 0) → length es ≤ 255 → RisingEntries 15 es → Below 16777216 es → IsRecord (output_record e special es)
  unfolding output_record
  output-is special es even fits rising below =
      let most = kept-few (λ x. out plain e 0 (bit x)) es in
      record {
        even = map-even m e legal special even;
        small = output-map-below e special;
        few = omega arith;
        rising = kept-rising (λ x. out plain e 0 (bit x)) 15 es rising;
        below = kept-below (λ x. out plain e 0 (bit x)) es below;
      }

  -- a cell of an entry is that of its subset
  pub entry-cell : (x : ℕ) → (ok plain e 0 (bit (subset_of x)) ≡ ok plain e 0 (bit x)) × (out plain e 0 (bit (subset_of x)) ≡ out plain e 0 (bit x))
  entry-cell x = cell-depends plain m e legal 0 (bit (subset_of x)) (bit x) (λ r h. subset-bit x r (lt_of_lt_of_le h few))

  -- the output has a where the cell of its holders says so
  pub output-member : (p : ℕ) (es : List ℕ) → RisingEntries p es → (a : ℕ) → member a (output_list e es) ≡ out plain e 0 (bit (holders_in es a))
  output-member p [] h a = sym (none-held m e legal 0 refl).1
  output-member p (x ∷ xs) h a = go (eqb a (attribute_of x)) refl (out plain e 0 (bit x)) refl (output-member (attribute_of x) xs h.1 a)
    where
      go :
          (t : Bool)
          → eqb a (attribute_of x) ≡ t
          → (o : Bool)
          → out plain e 0 (bit x) ≡ o
          → member a (output_list e xs) ≡ out plain e 0 (bit (holders_in xs a))
          → member a (cond o (attribute_of x ∷ output_list e xs) (output_list e xs))
          ≡ out plain e 0 (bit (cond t (subset_of x) (holders_in xs a)))
      go true same true has rest = rw same (sym ((entry-cell x).1 ∙ has))
      go true same false lacks rest =
          let is = eqb-true a (attribute_of x) same in
          rising-above (attribute_of x) (output_list e xs) a (kept-rising (λ x. out plain e 0 (bit x)) (attribute_of x) xs h.1) (omega arith) ∙ sym ((entry-cell x).1 ∙ lacks)
      go false other true has rest = rw other rest
      go false other false lacks rest = rest

  -- if no entry breaks a rule, no attribute's holders do
  pub holders-allowed : (es : List ℕ) → ((i : ℕ) → i < length es → ok plain e 0 (bit (get_or es i 0)) ≡ true) → (a : ℕ) → ok plain e 0 (bit (holders_in es a)) ≡ true
  holders-allowed [] all a = (none-held m e legal 0 refl).0
  holders-allowed (x ∷ xs) all a = go (eqb a (attribute_of x)) (holders-allowed xs (λ i h. all (suc i) (omega arith)) a)
    where
      go : (t : Bool) → ok plain e 0 (bit (holders_in xs a)) ≡ true → ok plain e 0 (bit (cond t (subset_of x) (holders_in xs a))) ≡ true
      go true rest = (entry-cell x).0 ∙ all 0 (omega arith)
      go false rest = rest

  -- and the other way
  pub entries-allowed : (p : ℕ) (es : List ℕ) → RisingEntries p es → ((a : ℕ) → p < a → ok plain e 0 (bit (holders_in es a)) ≡ true) → (i : ℕ) → i < length es → ok plain e 0 (bit (get_or es i 0)) ≡ true
  entries-allowed p [] h all i less = absurd (omega arith)
  entries-allowed p (x ∷ xs) h all zero less =
      sym (entry-cell x).0 ∙ rw (eq-eqb (attribute_of x) (attribute_of x) refl) at (all (attribute_of x) h.0)
  entries-allowed p (x ∷ xs) h all (suc i) less =
      entries-allowed (attribute_of x) xs h.1
      (λ a above. rw (ne_eqb a (attribute_of x) (λ same. omega arith)) at (all a (let first = h.0 in omega arith)))
      i
      (omega arith)
