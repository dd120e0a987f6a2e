-- The map by the subsets of the entries, one entry after the other.
use Rattle.std.specs.Prelude.{ℕ, zero, suc, ◌+◌, ◌*◌, ◌/◌, ◌%◌, ◌^◌, ◌<◌, ◌≡◌, refl, Bool, false, not, List, ◌∷◌, map, length, get_or, take, []}
use Rattle.std.proofs.Math.Path.{sym, ap, ap₂}
use Rattle.std.proofs.Common.{◌∙◌}
use Rattle.std.proofs.Math.Bool.{◌||◌, or_assoc, or-false}
use Rattle.std.proofs.Math.Decide.{ℕ_discrete}
use native.Mathlib.Omega.{arith}
use borrow.Author.Tests.{eq-eqb, ne_eqb}
use Rattle.std.specs.Int.Bits.{bit_or}
use Rattle.std.proofs.lemmas.Nat.{or_lt}
use Rattle.std.proofs.Math.Dec.{eqb, eqb-suc-zero}
use Rattle.std.proofs.Math.Pow.{pow-lt}
use Rattle.bits.specs.Bit.{bit-or, bit-power, bit-none, shifted_one}
use Rattle.bits.specs.Pack.{pack, bit-pack, pack-below, pack-same, byte-is}
use Rattle.bits.specs.Rising.{member}
use Rattle.membership.specs.Entries.{subset_of}
use Rattle.instantiation.specs.Instantiation.{with_subset}

-- byte j of the map
unfoldable pub bits_of : List ℕ → ℕ → ℕ
bits_of es j = pack 8 (λ i. member (j * 8 + i) (map subset_of es))

pub bits_none : (j : ℕ) → bits_of [] j ≡ 0
unfolding bits_of
bits_none j = sym (byte-is 0 (λ i. false) (omega arith) (λ i h. bit-none i))

-- ---- one entry more

member-more : (a : ℕ) (es : List ℕ) (i : ℕ) → i < length es → member a (map subset_of (take (suc i) es)) ≡ member a (map subset_of (take i es)) || eqb a (subset_of (get_or es i 0))
member-more a [] i h = absurd (omega arith)
member-more a (e ∷ es) zero h = or-false (eqb a (subset_of e))
member-more a (e ∷ es) (suc i) h =
    ap (λ (b : Bool). eqb a (subset_of e) || b) (member-more a es i (omega arith))
    ∙ sym (or_assoc (eqb a (subset_of e)) (member a (map subset_of (take i es))) (eqb a (subset_of (get_or es i 0))))

module _ (es : List ℕ) (i : ℕ) (inside : i < length es) where
  -- the byte of its subset
  pub bits-here : {s : ℕ} → s ≡ subset_of (get_or es i 0) → bit_or (bits_of (take i es) (s / 8)) (1 * 2 ^ (s % 8) % 256) ≡ bits_of (take (suc i) es) (s / 8)
  unfolding bits_of
  bits-here {s} is =
      let small : s % 8 < 8 = omega arith in
      rw (shifted_one 8 (s % 8) small)
      (byte-is (bit_or (bits_of (take i es) (s / 8)) (2 ^ (s % 8))) (λ k. member (s / 8 * 8 + k) (map subset_of (take (suc i) es)))
      (or_lt 8 (bits_of (take i es) (s / 8)) (2 ^ (s % 8)) (pack-below 8 (λ k. member (s / 8 * 8 + k) (map subset_of (take i es)))) (pow-lt small))
      (λ k h.
      bit-or (bits_of (take i es) (s / 8)) (2 ^ (s % 8)) k
      ∙ ap₂ ◌||◌ (bit-pack 8 (λ k. member (s / 8 * 8 + k) (map subset_of (take i es))) k h) (bit-power (s % 8) k ∙ digit k h (ℕ_discrete (s % 8) k))
      ∙ sym (member-more (s / 8 * 8 + k) es i inside)))
    where
      digit : (k : ℕ) → k < 8 → Dec (s % 8 ≡ k) → eqb (s % 8) k ≡ eqb (s / 8 * 8 + k) (subset_of (get_or es i 0))
      digit k h (yes e) = eq-eqb (s % 8) k e ∙ sym (eq-eqb (s / 8 * 8 + k) (subset_of (get_or es i 0)) (omega arith))
      digit k h (no e) = ne_eqb (s % 8) k e ∙ sym (ne_eqb (s / 8 * 8 + k) (subset_of (get_or es i 0)) (λ q. e (omega arith)))

  -- the other bytes
  pub bits-other : {s : ℕ} → s ≡ subset_of (get_or es i 0) → (j : ℕ) → (j ≡ s / 8 → ⊥) → bits_of (take i es) j ≡ bits_of (take (suc i) es) j
  unfolding bits_of
  bits-other {s} is j apart =
      pack-same 8 (λ k. member (j * 8 + k) (map subset_of (take i es))) (λ k. member (j * 8 + k) (map subset_of (take (suc i) es)))
      (λ k h.
      sym
      (member-more (j * 8 + k) es i inside
      ∙ ap (λ (b : Bool). member (j * 8 + k) (map subset_of (take i es)) || b) (ne_eqb (j * 8 + k) (subset_of (get_or es i 0)) (λ q. apart (omega arith)))
      ∙ or-false (member (j * 8 + k) (map subset_of (take i es)))))

-- ---- the lists that are not empty

pub member-some : (s : ℕ) (es : List ℕ) → member s (map subset_of es) ≡ not (eqb (length (with_subset s es)) 0)
member-some s [] = refl
member-some s (e ∷ es) = go (ℕ_discrete s (subset_of e)) (member-some s es)
  where
    go : Dec (s ≡ subset_of e) → member s (map subset_of es) ≡ not (eqb (length (with_subset s es)) 0) → eqb s (subset_of e) || member s (map subset_of es) ≡ not (eqb (length (with_subset s (e ∷ es))) 0)
    go (yes is) rest = rw (eq-eqb s (subset_of e) is, eq-eqb (subset_of e) s (sym is)) (ap not (sym (eqb-suc-zero (length (with_subset s es)))))
    go (no other) rest = rw (ne_eqb s (subset_of e) other, ne_eqb (subset_of e) s (λ k. other (sym k))) rest
