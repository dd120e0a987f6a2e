-- What the words of a node's type say: whether it is typed over the table, and its output.
use Rattle.std.specs.Prelude.{ℕ, ◌+◌, ◌-◌, ◌/◌, ◌%◌, ◌^◌, ◌≤◌, ◌<◌, ◌≡◌, refl, Bool, true, false, cond, List, eqb, length, get_or, take}
use Rattle.std.proofs.Common.{sym, ap, ◌∙◌, lt_of_lt_of_le, arith, lt-ltb, le-ltb, eqb-true, eq-eqb, lit≤, pow_mono, length-take-le, get_or-take}
use Rattle.std.proofs.Math.Path.{fun_ext}
use Rattle.std.proofs.Math.Decide.{dec_lt}
use Rattle.std.proofs.Math.ListN.{get_or-eq_default}
use Rattle.bits.specs.Bit.{bit, bit-above, bit-none}
use Rattle.bits.specs.Booleans.{same_test}
use Rattle.bits.specs.Pack.{bits-once}
use Rattle.algebra.specs.Expression.{Expression, Legal}
use Rattle.algebra.specs.Cell.{plain, out, ok}
use Rattle.algebra.specs.CellLaws.{cell-none}
use Rattle.table_types.specs.Output.{special_holders, typed_in, output_map}
use Rattle.table_types.specs.OutputLaws.{typed-special, typed-entry, all_typed, output-map-below, output-map-bit}
use Rattle.type_sets.specs.Sets.{width_of, place_column, held_at, ok_at, out_at, TypeIn}

-- the bits of the entries in the words from a place on are those of e's output
pub record OutputBits (e : Expression) (items : List ℕ) (count : ℕ) (sets : List ℕ) (at : ℕ) : Type 0 where
  pub inside : at + (count + 63) / 64 ≤ length sets
  pub bits : (i : ℕ) → i < count → bit (get_or sets (at + i / 64) 0) (i % 64) ≡ out plain e 0 (bit (get_or items i 0))

module _ (m : ℕ) (e : Expression) (legal : Legal m e) (special items : List ℕ) (count : ℕ) (small : (r : ℕ) → get_or special r 0 < 65536)
    (enough : count ≤ length items) (word : ℕ → ℕ) (below : (v : ℕ) → word v < 2 ^ 64)
    (t : TypeIn e special (take count items) (width_of count) word) where
  -- the entries of the table
  abbrev entries : List ℕ
  entries = take count items

  size : length entries ≡ count
  size = length-take-le count items enough

  -- ---- the attributes at the places

  special-place : (i : ℕ) → i < 16 → (place_column i ≡ i) × (held_at special entries i ≡ special_holders special i)
  special-place i h = (rw (lt-ltb i 16 h), fun_ext (λ r. rw (lt-ltb i 64 (omega arith))))

  entry_place : (i : ℕ) → (place_column (64 + i) ≡ 0) × (held_at special entries (64 + i) ≡ bit (get_or entries i 0))
  entry_place i =
      let from : 64 + i - 64 ≡ i = omega arith in
      (rw (le-ltb (64 + i) 16 (omega arith)), fun_ext (λ r. rw (le-ltb (64 + i) 64 (omega arith), from)))

  -- from place 16 to 63 no relation has anything
  nobody : (j : ℕ) → 16 ≤ j → j < 64 → (ok_at e special entries j ≡ true) × (out_at e special entries j ≡ false)
  nobody j from to =
      let column : place_column j ≡ 0 = rw (le-ltb j 16 from) in
      let none : held_at special entries j
      ≡ (λ r. false) = fun_ext
      (λ r. ap (λ (b : Bool). cond b (bit (get_or special r 0) j) (bit (get_or entries (j - 64) 0) r)) (lt-ltb j 64 to)
      ∙ bit-above (get_or special r 0) j (lt_of_lt_of_le (small r) (pow_mono {i = 16} {j = j} from)))
      in
      rw (column, none) (cell-none plain refl refl m e legal)

  -- ---- typed

  pub typed-words : eqb (word 0) 0 ≡ typed_in e special entries
  typed-words = same_test (eqb (word 0) 0) (typed_in e special entries) (attributes, words)
    where
      attributes : eqb (word 0) 0 ≡ true → typed_in e special entries ≡ true
      attributes clear =
          let each = t.typed (eqb-true (word 0) 0 clear) in
          all_typed e special entries
          (λ i h. let place = special-place i h in rw (place.0, place.1) at (each i (omega arith)))
          (λ i h. let n = size in let place = entry_place i in rw (place.0, place.1) at (each (64 + i) (omega arith)))

      words : typed_in e special entries ≡ true → eqb (word 0) 0 ≡ true
      words typed = eq-eqb (word 0) 0 (t.untyped (λ j h. passes j (dec_lt j 16) (dec_lt j 64)))
        where
          listed : (i : ℕ) → Dec (i < length entries) → ok plain e 0 (bit (get_or entries i 0)) ≡ true
          listed i (yes h) = typed-entry e special entries typed i h
          listed i (no h) =
              let none : bit (get_or entries i 0) ≡ (λ r. false) = ap bit (get_or-eq_default entries 0 {n = i} (omega arith)) ∙ fun_ext bit-none in
              rw none (cell-none plain refl refl m e legal).0

          passes : (j : ℕ) → Dec (j < 16) → Dec (j < 64) → ok_at e special entries j ≡ true
          passes j (yes h) wide = let place = special-place j h in rw (place.0, place.1) (typed-special e special entries typed j h)
          passes j (no h) (yes k) = (nobody j (omega arith) k).0
          passes j (no h) (no k) =
              let from : j ≡ 64 + (j - 64) = omega arith in
              let place = entry_place (j - 64) in
              let here : ok_at e special entries (64 + (j - 64)) ≡ true = rw (place.0, place.1) (listed (j - 64) (dec_lt (j - 64) (length entries))) in
              ap (ok_at e special entries) from ∙ here

  -- ---- the output of a typed node

  module _ (typed : word 0 ≡ 0) where
    pub map_is : word 1 ≡ output_map e special
    map_is =
        bits-once 64 (word 1) (output_map e special) (below 1) (lt_of_lt_of_le (output-map-below e special) (lit≤ tt)) (λ j h. here j h ∙ each j h (dec_lt j 16))
      where
        here : (j : ℕ) → j < 64 → bit (word 1) j ≡ out_at e special entries j
        here j h =
            let first : 1 + j / 64 ≡ 1 = omega arith in
            let own : j % 64 ≡ j = omega arith in
            rw (first, own) at (t.output typed j (omega arith))

        each : (j : ℕ) → j < 64 → Dec (j < 16) → out_at e special entries j ≡ bit (output_map e special) j
        each j h (yes less) = let place = special-place j less in rw (place.0, place.1) (sym (output-map-bit e special j less))
        each j h (no more) =
            (nobody j (omega arith) h).1
            ∙ sym (bit-above (output_map e special) j (lt_of_lt_of_le (output-map-below e special) (pow_mono {i = 16} {j = j} (omega arith))))

    pub entry-output : (i : ℕ) → i < count → bit (word (2 + i / 64)) (i % 64) ≡ out plain e 0 (bit (get_or items i 0))
    entry-output i h =
        let place = entry_place i in
        let at : 1 + (64 + i) / 64 ≡ 2 + i / 64 = omega arith in
        let rest : (64 + i) % 64 ≡ i % 64 = omega arith in
        rw (at, rest, place.0, place.1, get_or-take count items i 0 h) at (t.output typed (64 + i) (omega arith))
