-- Over the types of its operands, the words of a node are its type.
use Rattle.std.specs.Prelude.{ℕ, ◌+◌, ◌-◌, ◌*◌, ◌/◌, ◌%◌, ◌^◌, ◌≤◌, ◌<◌, min, ◌≡◌, true, false, List, eqb, get_or}
use Rattle.std.proofs.Common.{sym, ◌∙◌, arith, lt-ltb, le-ltb, ne_eqb, pow_mono}
use Rattle.std.proofs.Math.Decide.{dec_lt}
use Rattle.bits.specs.Bit.{bit, bit-above}
use Rattle.bits.specs.Pack.{pack-below}
use Rattle.attribute_set.specs.AttrSet.{special as is_special, bits_of}
use Rattle.attribute_set.specs.Laws.{Clear, special-range, special-zero, has-bit}
use Rattle.attribute_set.specs.declared.AttrSet.{AttrSet}
use Rattle.node_expression.specs.NodeExpression.{named, named-is}
use Rattle.type_sets.specs.Sets.{place_column, place_bit, entries_held, relation_word}

-- the words of a list of words
abbrev pub Words : List ℕ → Type 0
Words sets = (p : ℕ) → get_or sets p 0 < 2 ^ 64

-- ---- the attribute of a place

-- a set names the attribute of a place by the place's bit
pub named-place : (s : AttrSet) → Clear s → bits_of s < 65536 → (j : ℕ) → j < 64 → named s (place_column j) ≡ bit (bits_of s) j
named-place s clear small j h = go (dec_lt j 16)
  where
    go : Dec (j < 16) → named s (place_column j) ≡ bit (bits_of s) j
    go (yes less) = rw (lt-ltb j 16 less) (named-is s j clear less ∙ has-bit s j)
    go (no more) = let power = pow_mono {i = 16} {j = j} (omega arith) in rw (le-ltb j 16 (omega arith), special-zero) (sym (bit-above (bits_of s) j (omega arith)))

-- past the special attributes it names none
pub named-entry : (s : AttrSet) (j : ℕ) → 64 ≤ j → named s (place_column j) ≡ false
named-entry s j h = rw (le-ltb j 16 (omega arith), special-zero)

pub is-entry : (a : ℕ) → is_special a ≡ true → (j : ℕ) → 64 ≤ j → eqb (place_column j) a ≡ false
is-entry a is j h = let range = special-range a is in rw (le-ltb j 16 (omega arith)) (ne_eqb 0 a (λ e. omega arith))

-- places below 64 are the bits of word 1
pub special-place : (word : ℕ → ℕ) (j : ℕ) → j < 64 → place_bit word j ≡ bit (word 1) j
special-place word j h =
    let first : 1 + j / 64 ≡ 1 = omega arith in
    let low : j % 64 ≡ j = omega arith in
    rw (first, low)

-- ---- each kind of node

pub relation-below : (items : List ℕ) (count r v : ℕ) → relation_word items count r v < 2 ^ 64
unfolding relation_word entries_held
relation-below items count r v =
    let below = pack-below (min count ((v - 2) * 64 + 64) - (v - 2) * 64) (λ i. bit (get_or items ((v - 2) * 64 + i) 0) r) in
    let power = pow_mono {i = min count ((v - 2) * 64 + 64) - (v - 2) * 64} {j = 64} (omega arith) in
    omega arith
