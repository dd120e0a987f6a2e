-- Memberships: how many relations have how many attributes (FORMAT 2.16, 3.1).
use Rattle.std.specs.Prelude.{ℕ, zero, suc, ◌+◌, ◌-◌, ◌*◌, ◌/◌, ◌%◌, ◌≤◌, ◌<◌, ◌≡◌, Bool, true, false, ◌⊎◌}
use Rattle.std.proofs.Math.Path.{ap}
use Rattle.std.proofs.Common.{sym, ap₂, ◌∙◌, inl, inr, lt_of_lt_of_le, arith, pow_mono}
use Rattle.std.proofs.Math.Bool.{cond}
use Rattle.std.proofs.Math.Logic.{∥∥₁_elim, ∥∥₁_prop}
use Rattle.std.proofs.Math.Decide.{dec_lt}
use Rattle.std.specs.Int.Count.{ones}
use Rattle.std.proofs.lemmas.Nat.{ones_cat}
use Rattle.bits.specs.Bit.{bit, bit-none, bit-above}
use Rattle.bits.specs.Booleans.{clash}
use Rattle.bits.specs.Pack.{pack, bit-pack, bits-once, pack-below}
use Rattle.bits.specs.Total.{total, count, total-zero, total-same, total-more, count_most, count-fewer, ones-count}
use Rattle.types.specs.Types.{Assignment, IsAssignment, holders}
use Rattle.types.specs.Laws.{holders-packed, finite-bound}

-- FORMAT 3.1: how many relations belong to subset s
unfoldable pub members : ℕ → ℕ
members s = count 8 (bit s)

-- FORMAT 2.16: a membership is a relation below m and an attribute that it has; how many there are, of attributes below
-- the bound
unfoldable pub memberships : ℕ → Assignment → ℕ → ℕ
memberships m A bound = total m (λ r. count bound (A r))

-- no attribute that one of the m relations has reaches the bound
abbrev pub Within : ℕ → Assignment → ℕ → Type 0
Within m A bound = (r : ℕ) → r < m → (a : ℕ) → bound ≤ a → A r a ≡ false

-- ---- members

pub members-most : (s : ℕ) → members s ≤ 8
unfolding members
members-most s = count_most 8 (bit s)

pub members-none : members 0 ≡ 0
unfolding members
members-none = total-same 8 (λ r. cond (bit 0 r) 1 0) (λ r. 0) (λ r h. ap (λ (b : Bool). cond b 1 0) (bit-none r)) ∙ total-zero 8

-- a subset whose members are all in another has fewer, or is the same subset
pub members-fewer : (s t : ℕ) → s < 256 → t < 256 → ((r : ℕ) → r < 8 → bit s r ≡ true → bit t r ≡ true) → (members s < members t) ⊎ (s ≡ t)
unfolding members
members-fewer s t hs ht h = go (count-fewer 8 (bit s) (bit t) h)
  where
    go : (count 8 (bit s) < count 8 (bit t)) ⊎ ((r : ℕ) → r < 8 → bit s r ≡ bit t r) → (count 8 (bit s) < count 8 (bit t)) ⊎ (s ≡ t)
    go (inl less) = inl less
    go (inr same) = inr (bits-once 8 s t hs ht same)

-- a subset that is not empty has a member
pub members-some : (s : ℕ) → s < 256 → 1 ≤ s → 1 ≤ members s
members-some s h some = go (members-fewer 0 s (omega arith) h (λ r l e. absurd (clash e (bit-none r))))
  where
    go : (members 0 < members s) ⊎ (0 ≡ s) → 1 ≤ members s
    go (inl less) = omega arith
    go (inr same) = absurd (omega arith)

-- as the machine counts them
pub members-ones : (s : ℕ) → s < 256 → ones s ≡ members s
unfolding members
members-ones s h = ones-count 8 s h

-- of eight digits at most eight are 1
pub ones-most : (s : ℕ) → s < 256 → ones s ≤ 8
ones-most s h = rw (members-ones s h) (members-most s)

-- those of the first three relations, and the others
pub members-split : (s : ℕ) → s < 256 → members s ≡ members (s / 8) + members (s % 8)
members-split s h =
    let parts : s / 8 * 8 + s % 8 ≡ s = omega arith in
    sym (members-ones s h)
    ∙ ap ones (sym parts)
    ∙ ones_cat 3 (s / 8) (s % 8) (omega arith)
    ∙ ap₂ (λ (x y : ℕ). x + y) (members-ones (s / 8) (omega arith)) (members-ones (s % 8) (omega arith))

-- of the relations that have an attribute
pub members-held : (m : ℕ) → m ≤ 8 → (A : Assignment) (a : ℕ) → count m (λ r. A r a) ≡ members (holders m A a)
unfolding members
members-held m few A a =
    let whole : m + (8 - m) ≡ 8 = omega arith in
    sym (total-same m (λ r. cond (bit (pack m (λ r. A r a)) r) 1 0) (λ r. cond (A r a) 1 0) (λ r h. ap (λ (b : Bool). cond b 1 0) (bit-pack m (λ r. A r a) r h)))
    ∙ sym (total-more m (8 - m) (λ r. cond (bit (pack m (λ r. A r a)) r) 1 0) (λ r h. ap (λ (b : Bool). cond b 1 0) (bit-above (pack m (λ r. A r a)) r (lt_of_lt_of_le (pack-below m (λ r. A r a)) (pow_mono h)))))
    ∙ ap (λ (n : ℕ). count n (bit (pack m (λ r. A r a)))) whole
    ∙ ap (λ (s : ℕ). count 8 (bit s)) (sym (holders-packed m A a))

-- ---- memberships

-- types have a bound that none of their attributes reaches
pub within-some : (m : ℕ) (A : Assignment) → IsAssignment m A → ∥ ((bound : ℕ) × Within m A bound) ∥₁
within-some zero A types = ∣ (0, λ r h. absurd (omega arith)) ∣₁
within-some (suc m) A types =
    ∥∥₁_elim (within-some m A (λ r h. types r (omega arith))) ∥∥₁_prop
    (λ x. ∥∥₁_elim (finite-bound (types m (omega arith)).finite) ∥∥₁_prop (λ y. ∣ (x.0 + y.0, λ r h a past. both x y r a past (dec_lt r m) h) ∣₁))
  where
    both : (x : (bound : ℕ) × Within m A bound) (y : (bound : ℕ) × ((a : ℕ) → bound ≤ a → A m a ≡ false)) (r a : ℕ) → x.0 + y.0 ≤ a → Dec (r < m) → r < suc m → A r a ≡ false
    both x y r a past (yes h) below = x.1 r h a (omega arith)
    both x y r a past (no h) below =
        let last : r ≡ m = omega arith in
        rw last (y.1 a (omega arith))
