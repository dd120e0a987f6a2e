-- The memberships of a schema, counted off its records: each record's special and listed attributes.
use Rattle.std.specs.Prelude.{ℕ, zero, suc, ◌+◌, ◌≤◌, ◌<◌, ◌≡◌, refl, Bool, true, false, cond, ◌||◌, List, ◌∷◌, eqb, length, get_or, []}
use Rattle.std.proofs.Common.{sym, ap, ap₂, ◌∙◌, add_comm, lt_of_lt_of_le, add-one, arith, eqb-true, pow_mono}
use Rattle.std.proofs.Math.Bool.{or-false}
use Rattle.std.proofs.Math.Decide.{dec_lt}
use Rattle.bits.specs.Bit.{bit, bit-above}
use Rattle.bits.specs.Rising.{member, Rising, rising-above}
use Rattle.bits.specs.Total.{count, total-zero, total-same, total-both, total-more, count-one}
use Rattle.bits.specs.Truth.{by-true, by-false}
use Rattle.attribute_set.specs.Laws.{special-in, special-above, special-zero}
use Rattle.type_record.specs.Record.{TypeRecord, type_of}
use Rattle.type_record.specs.RecordBytes.{IsRecord}
use Rattle.type_record.specs.RecordTypes.{type-of-special, type-of-other, clear_first}

-- the special and the listed attributes of a record
abbrev pub attributes_in : TypeRecord → ℕ
attributes_in t = count 16 (bit t.map) + length t.ordinary

-- those of all records
abbrev pub attributes_of : List TypeRecord → ℕ
attributes_of [] = 0
attributes_of (t ∷ ts) = attributes_in t + attributes_of ts

-- ---- one record

-- two tests of which no number passes both
either-count : (n : ℕ) (f g : ℕ → Bool) → ((a : ℕ) → f a ≡ true → g a ≡ false) → count n (λ a. f a || g a) ≡ count n f + count n g
either-count n f g apart =
    total-same n (λ a. cond (f a || g a) 1 0) (λ a. cond (f a) 1 0 + cond (g a) 1 0) (λ a h. each (f a) (g a) (apart a))
    ∙ total-both n (λ a. cond (f a) 1 0) (λ a. cond (g a) 1 0)
  where
    each : (x y : Bool) → (x ≡ true → y ≡ false) → cond (x || y) 1 0 ≡ cond x 1 0 + cond y 1 0
    each true y other = rw (other refl) refl
    each false true other = refl
    each false false other = refl

-- a rising list has as many members as elements
member-count : (p : ℕ) (xs : List ℕ) (n : ℕ) → Rising p xs → ((i : ℕ) → get_or xs i 0 < n) → count n (λ a. member a xs) ≡ length xs
member-count p [] n rising below = total-zero n
member-count p (x ∷ xs) n rising below =
    either-count n (λ a. eqb a x) (λ a. member a xs) (λ a is. rising-above x xs a rising.1 (let same = eqb-true a x is in omega arith))
    ∙ ap₂ (λ (a b : ℕ). a + b) (count-one n x (below 0)) (member-count x xs n rising.1 (λ i. below (suc i)))
    ∙ add_comm 1 (length xs)
    ∙ add-one (length xs)

module _ (t : TypeRecord) (is : IsRecord t) where
  map-above : (a : ℕ) → 16 ≤ a → bit t.map a ≡ false
  map-above a h = bit-above t.map a (lt_of_lt_of_le is.small (pow_mono {i = 16} h))

  list-below : (a : ℕ) → a < 16 → member a t.ordinary ≡ false
  list-below a h = rising-above 15 t.ordinary a is.rising (omega arith)

  -- an attribute is in the map or in the list
  map-or-list : (a : ℕ) → Dec (a < 16) → type_of t a ≡ bit t.map a || member a t.ordinary
  map-or-list zero d = type-of-other t 0 special-zero ∙ ap (λ (b : Bool). b || member 0 t.ordinary) (sym (clear_first t is))
  map-or-list (suc a) (yes h) =
      type-of-special t (suc a) (special-in (suc a) (omega arith) (omega arith))
      ∙ sym (ap (λ (b : Bool). bit t.map (suc a) || b) (list-below (suc a) h) ∙ or-false (bit t.map (suc a)))
  map-or-list (suc a) (no h) =
      type-of-other t (suc a) (special-above (suc a) (omega arith))
      ∙ ap (λ (b : Bool). b || member (suc a) t.ordinary) (sym (map-above (suc a) (omega arith)))

  -- and not in both
  map-not-list : (a : ℕ) → Dec (a < 16) → bit t.map a ≡ true → member a t.ordinary ≡ false
  map-not-list a (yes h) has = list-below a h
  map-not-list a (no h) has = absurd (by-false (map-above a (omega arith)) (by-true has))

  pub record-count : (bound : ℕ) → ((a : ℕ) → bound ≤ a → type_of t a ≡ false) → count bound (type_of t) ≡ attributes_in t
  record-count bound none =
      let wide : bound + 65536 ≡ 16 + (bound + 65520) = omega arith in
      sym (total-more bound 65536 (λ a. cond (type_of t a) 1 0) (λ a past. ap (λ (b : Bool). cond b 1 0) (none a past)))
      ∙ total-same (bound + 65536) (λ a. cond (type_of t a) 1 0) (λ a. cond (bit t.map a || member a t.ordinary) 1 0) (λ a h. ap (λ (b : Bool). cond b 1 0) (map-or-list a (dec_lt a 16)))
      ∙ either-count (bound + 65536) (bit t.map) (λ a. member a t.ordinary) (λ a. map-not-list a (dec_lt a 16))
      ∙ ap₂ (λ (x y : ℕ). x + y)
      (ap (λ (n : ℕ). count n (bit t.map)) wide ∙ total-more 16 (bound + 65520) (λ a. cond (bit t.map a) 1 0) (λ a h. ap (λ (b : Bool). cond b 1 0) (map-above a h)))
      (member-count 15 t.ordinary (bound + 65536) is.rising (λ i. let small = is.below i in omega arith))
