-- What a writer's call leaves.
use Rattle.std.specs.Prelude.{ℕ, ◌+◌, ◌≤◌, ◌≡◌, refl, List, [], ◌++◌, length}
use Rattle.std.proofs.Common.{subst, ◌∙◌, arith}
use Rattle.text.specs.Put.{Wrote, wrote_none, wrote_as, wrote-more, wrote-two}
use Rattle.text.specs.declared.Writer.{Writer}

-- so many bytes more fit
abbrev pub HasRoom : ℕ → Writer → Type 0
HasRoom n w = w.at + n ≤ length w.text.now

-- these bytes stand behind what was written before, in the same text, whose rest is as it was
pub record Writes (bytes : List ℕ) (old new : Writer) : Type 0 where
  pub same_reference : new.text.ghost_name ≡ old.text.ghost_name
  pub wrote : Wrote old.at bytes old.text.now new.text.now new.at

pub writes-none : (w : Writer) → HasRoom 0 w → Writes [] w w
writes-none w h = record { same_reference = refl; wrote = wrote_none w.at w.text.now (omega arith) }

-- one call after the other
pub writes-more : {a b : List ℕ} {old mid new : Writer} → Writes a old mid → Writes b mid new → Writes (a ++ b) old new
writes-more u v = record { same_reference = v.same_reference ∙ u.same_reference; wrote = wrote-more u.wrote v.wrote }

-- the same bytes in other words
pub writes-as : {a b : List ℕ} {old new : Writer} → a ≡ b → Writes a old new → Writes b old new
writes-as e u = record { same_reference = u.same_reference; wrote = wrote_as e u.wrote }

-- the same of a writer in other words
pub writes-from : {a : List ℕ} {old mid new : Writer} → mid ≡ old → Writes a mid new → Writes a old new
writes-from {a} {old} {mid} {new} e u = subst (λ (w : Writer). Writes a w new) e u

-- a part, and then two parts
pub writes-two : {a : List ℕ} {old mid new : Writer} (b c : List ℕ) → Writes a old mid → Writes (b ++ c) mid new → Writes (a ++ b ++ c) old new
writes-two b c u v = record { same_reference = v.same_reference ∙ u.same_reference; wrote = wrote-two b c u.wrote v.wrote }

-- from a place of a text on, which the writer leaves as `now`
pub writes-placed : {bytes text now : List ℕ} {old new : Writer} {at end : ℕ} → Writes bytes old new → old.text.now ≡ text → old.at ≡ at → now ≡ new.text.now → end ≡ new.at → Wrote at bytes text now end
writes-placed {bytes} {text} {now} {old} {new} {at} {end} u same place left size =
    rw (left, size, ← same) (subst (λ (k : ℕ). Wrote k bytes old.text.now new.text.now new.at) place u.wrote)

-- the same from its front on
pub writes-front : {bytes text now : List ℕ} {old new : Writer} {end : ℕ} → Writes bytes old new → old.text.now ≡ text → old.at ≡ 0 → now ≡ new.text.now → end ≡ new.at → Wrote 0 bytes text now end
writes-front u same front left size = writes-placed u same front left size

-- ---- where a writer stands after calls that say nothing of what they wrote

-- in the same text, which is as long as before, at the same place or a later one
pub record Stands (old new : Writer) : Type 0 where
  pub same_reference : new.text.ghost_name ≡ old.text.ghost_name
  pub size : length new.text.now ≡ length old.text.now
  pub later : old.at ≤ new.at
  pub fits : new.at ≤ length new.text.now

pub stands-still : (w : Writer) → HasRoom 0 w → Stands w w
stands-still w h = record { same_reference = refl; size = refl; later = omega arith; fits = omega arith }

pub stands-more : {old mid new : Writer} → Stands old mid → Stands mid new → Stands old new
stands-more u v =
    let first = u.later in
    let second = v.later in
    record { same_reference = v.same_reference ∙ u.same_reference; size = v.size ∙ u.size; later = omega arith; fits = v.fits }

pub writes-stand : {bytes : List ℕ} {old new : Writer} → Writes bytes old new → Stands old new
writes-stand u =
    let size = u.wrote.size in
    let fits = u.wrote.fits in
    let end = u.wrote.end_is in
    record { same_reference = u.same_reference; size = size; later = omega arith; fits = omega arith }
