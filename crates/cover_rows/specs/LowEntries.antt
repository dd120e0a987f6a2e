-- A row at what remains of each need without the first four relations of a subset, made by dropping one relation after
-- the other.
use Rattle.std.specs.Prelude.{ℕ, ◌+◌, ◌-◌, ◌*◌, ◌≤◌, ◌<◌, ◌≡◌, refl, Bool, List, ◌⊎◌, eqb, length}
use Rattle.std.proofs.Common.{sym, ◌∙◌, inl, inr, eq-or-lt_of_le, eq-eqb, ne_eqb, eqb-true}
use Rattle.std.proofs.Math.Path.{ap}
use Rattle.std.proofs.Math.Bool.{true, false, cond}
use native.Mathlib.Omega.{arith}
use Rattle.std.specs.Int.Bits.{bit_and, bit_or}
use Rattle.std.proofs.lemmas.Nat.{and_le_l, or_lt}
use Rattle.std.proofs.Math.ListN.{get_or}
use Rattle.std.proofs.Math.Seq.{paste}
use Rattle.std.proofs.lemmas.List.Edits.{length-paste}
use Rattle.bits.specs.AllBelow.{all_below, all_in}
use Rattle.bits.specs.Written.{Written}
use Rattle.copying.specs.Copied.{paste-front, paste-outside}
use Rattle.set_cover.specs.Remainder.{rest, rest-least, rest-none, rest-again}
use Rattle.set_cover.proofs.Remainder.{rest-union}
use Rattle.cover_rows.specs.Blocks.{WrittenAt, block_more, rest-low}

-- the entry of a row at what remains of x without the relations of a subset
unfoldable pub low_entry : List ℕ → ℕ → ℕ → ℕ
low_entry row low x = get_or row (rest x low) 0

pub low-entry : (row : List ℕ) (low x : ℕ) → low_entry row low x ≡ get_or row (rest x low) 0
unfolding low_entry
low-entry row low x = refl

-- without none it is the entry
pub low-none : (row : List ℕ) (x : ℕ) → x < 256 → get_or row x 0 ≡ low_entry row 0 x
unfolding low_entry
low-none row x h = ap (λ (y : ℕ). get_or row y 0) (sym (rest-none x h))

pub dropped-none : (row : List ℕ) (limit : ℕ) → limit ≤ 256 → Written (low_entry row 0) limit row row
dropped-none row limit short = record { size = refl; front = λ x h. low-none row x (omega arith); back = λ x h. refl }

-- so many entries copied
pub copied_none : (row old now : List ℕ) (limit : ℕ) → limit ≤ 256 → limit ≤ length old → limit ≤ length row → now ≡ paste old 0 row limit → Written (low_entry row 0) limit old now
copied_none row old now limit short fits enough e =
    record {
      size = ap length e ∙ length-paste old 0 row limit (omega arith) enough;
      front = λ x h. ap (λ (l : List ℕ). get_or l x 0) e ∙ paste-front old row limit fits enough x h ∙ low-none row x (omega arith);
      back = λ x h. ap (λ (l : List ℕ). get_or l x 0) e ∙ paste-outside old row 0 limit (omega arith) enough x (inr (omega arith));
    }

-- ---- one relation, or some of the first four, in place and in blocks of sixteen

abbrev pub dropped_entry : List ℕ → ℕ → ℕ → ℕ → ℕ
dropped_entry row relation start i = low_entry row relation (start + i)

module _ (old : List ℕ) (relation h : ℕ) (few : relation < 16) (within : h < 16) where
  -- where the entry is read that was not changed, or was and is the one sought
  pub dropped-next : (n : ℕ) (now : List ℕ) → n < 16 → WrittenAt (dropped_entry old relation (h * 16)) (h * 16) n old now → get_or now (h * 16 + bit_and n (15 - relation)) 0 ≡ dropped_entry old relation (h * 16) n
  unfolding low_entry
  dropped-next n now short w = go (eq-or-lt_of_le (and_le_l n (15 - relation)))
    where
      is : rest (h * 16 + n) relation ≡ h * 16 + bit_and n (15 - relation)
      is = rest-low h n relation within short few

      go : (bit_and n (15 - relation) ≡ n) ⊎ (bit_and n (15 - relation) < n) → get_or now (h * 16 + bit_and n (15 - relation)) 0 ≡ get_or old (rest (h * 16 + n) relation) 0
      go (inl same) = w.after (h * 16 + bit_and n (15 - relation)) (omega arith) ∙ ap (λ (x : ℕ). get_or old x 0) (sym is)
      go (inr less) =
          w.inside (bit_and n (15 - relation)) less
          ∙ ap (λ (x : ℕ). get_or old x 0) (ap (λ (x : ℕ). rest x relation) (sym is) ∙ rest-again (h * 16 + n) relation (omega arith))

  pub dropped-block :
      (now after : List ℕ)
      → Written (low_entry old relation) (h * 16) old now
      → WrittenAt (dropped_entry now relation (h * 16)) (h * 16) 16 now after
      → Written (low_entry old relation) ((h + 1) * 16) old after
  unfolding low_entry
  dropped-block now after w a = block_more (low_entry old relation) _ h old now after w a each
    where
      each : (i : ℕ) → i < 16 → get_or now (rest (h * 16 + i) relation) 0 ≡ get_or old (rest (h * 16 + i) relation) 0
      each i below = w.back (rest (h * 16 + i) relation) (let is = rest-low h i relation within below few in omega arith)

-- ---- the relations of a subset, one after the other

-- a relation where the subset has it, else none
unfoldable pub held_part : ℕ → ℕ → ℕ
held_part low relation = cond (eqb (bit_and low relation) 0) 0 relation

module _ (low relation : ℕ) where
  pub held-not : bit_and low relation ≡ 0 → held_part low relation ≡ 0
  unfolding held_part
  held-not e = ap (λ (b : Bool). cond b 0 relation) (eq-eqb (bit_and low relation) 0 e)

  pub held-is : (bit_and low relation ≡ 0 → ⊥) → held_part low relation ≡ relation
  unfolding held_part
  held-is e = ap (λ (b : Bool). cond b 0 relation) (ne_eqb (bit_and low relation) 0 e)

  pub held-most : held_part low relation ≤ relation
  unfolding held_part
  held-most = go (eqb (bit_and low relation) 0)
    where
      go : (b : Bool) → cond b 0 relation ≤ relation
      go true = omega arith
      go false = omega arith

-- the first four are all that a number below sixteen has
abbrev four_held : ℕ → ℕ
four_held low = bit_or (held_part low 1) (bit_or (held_part low 2) (bit_or (held_part low 4) (bit_or (held_part low 8) 0)))

four-test : all_below 16 (λ low. eqb (four_held low) low) ≡ true
unfolding held_part
four-test = refl

four-held : (low : ℕ) → low < 16 → four_held low ≡ low
four-held low h = eqb-true _ _ (all_in 16 (λ low. eqb (four_held low) low) four-test low h)

-- one after the other is both at once
dropped-both :
    (row old mid now : List ℕ) (a b limit : ℕ)
    → a < 256
    → b < 256
    → limit ≤ 256
    → Written (low_entry row a) limit old mid
    → Written (low_entry mid b) limit mid now
    → Written (low_entry row (bit_or b a)) limit old now
unfolding low_entry
dropped-both row old mid now a b limit ha hb short before after =
    record {
      size = after.size ∙ before.size;
      front = λ x h. (let lower = rest-least x b in after.front x h ∙ before.front (rest x b) (omega arith) ∙ ap (λ (y : ℕ). get_or row y 0) (rest-union x b a (omega arith) hb ha));
      back = λ x h. after.back x h ∙ before.back x h;
    }

-- the four of them
pub dropped-four :
    (row none first second third fourth last : List ℕ) (low limit : ℕ)
    → low < 16
    → limit ≤ 256
    → Written (low_entry row 0) limit none first
    → Written (low_entry first (held_part low 8)) limit first second
    → Written (low_entry second (held_part low 4)) limit second third
    → Written (low_entry third (held_part low 2)) limit third fourth
    → Written (low_entry fourth (held_part low 1)) limit fourth last
    → Written (low_entry row low) limit none last
dropped-four row none first second third fourth last low limit few short copied one two three four =
    let h₈ = held-most low 8 in
    let h₄ = held-most low 4 in
    let h₂ = held-most low 2 in
    let h₁ = held-most low 1 in
    let l₈ = or_lt 8 (held_part low 8) 0 (omega arith) (omega arith) in
    let l₄ = or_lt 8 (held_part low 4) (bit_or (held_part low 8) 0) (omega arith) l₈ in
    let l₂ = or_lt 8 (held_part low 2) (bit_or (held_part low 4) (bit_or (held_part low 8) 0)) (omega arith) l₄ in
    let without₈ = dropped-both row none first second 0 (held_part low 8) limit (omega arith) (omega arith) short copied one in
    let without₄ = dropped-both row none second third _ (held_part low 4) limit l₈ (omega arith) short without₈ two in
    let without₂ = dropped-both row none third fourth _ (held_part low 2) limit l₄ (omega arith) short without₄ three in
    rw (four-held low few) at (dropped-both row none fourth last _ (held_part low 1) limit l₂ (omega arith) short without₂ four)
