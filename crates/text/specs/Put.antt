-- Bytes put into a list from a place on, and what a writer leaves.
use Rattle.std.specs.Prelude.{ℕ, ◌+◌, ◌≤◌, ◌<◌, ◌≡◌, refl, List, [], ◌∷◌, ◌++◌, length, take, drop, set}
use Rattle.std.proofs.Common.{sym, ap, ◌∙◌, append_assoc, add_assoc, add-zero, zero-add, add-one, arith, length-append, length-drop, take-append-drop, length-take-le, take_at, drop-drop}
use Rattle.std.proofs.Math.Seq.{paste, take-length, drop-append-add}
use Rattle.std.proofs.lemmas.List.{set_split}
use Rattle.bits.specs.Tab.{over, over-with}

-- the bytes from place `at` on, and the rest as it was
unfoldable pub put : ℕ → List ℕ → List ℕ → List ℕ
put at bytes old = take at old ++ (bytes ++ drop (at + length bytes) old)

pub put-length : (at : ℕ) (bytes old : List ℕ) → at + length bytes ≤ length old → length (put at bytes old) ≡ length old
unfolding put
put-length at bytes old h =
    let front = length-take-le at old (omega arith) in
    let back = length-drop (at + length bytes) old in
    let all = length-append (take at old) (bytes ++ drop (at + length bytes) old) in
    let rest = length-append bytes (drop (at + length bytes) old) in
    omega arith

pub put-nothing : (at : ℕ) (old : List ℕ) → put at [] old ≡ old
unfolding put
put-nothing at old = rw add-zero (take-append-drop at old)

pub put_front : (bytes old : List ℕ) → put 0 bytes old ≡ over bytes old
unfolding put
put_front bytes old = rw (zero-add, over-with bytes old)

pub put_byte : (at b : ℕ) (old : List ℕ) → at < length old → set old at b ≡ put at (b ∷ []) old
unfolding put
put_byte at b old h = set_split old at b h ∙ ap (λ (n : ℕ). take at old ++ b ∷ drop n old) (sym (add-one at))

pub put-put : (at : ℕ) (a b old : List ℕ) → at + length a ≤ length old → put (at + length a) b (put at a old) ≡ put at (a ++ b) old
unfolding put
put-put at a b old h =
    let front = length-take-le at old (omega arith) in
    let head : length (take at old ++ a) ≡ at + length a = length-append (take at old) a ∙ omega arith in
    let whole : take at old ++ (a ++ drop (at + length a) old) ≡ (take at old ++ a) ++ drop (at + length a) old = sym (append_assoc (take at old) a (drop (at + length a) old)) in
    let tail : drop (at + length a + length b) ((take at old ++ a) ++ drop (at + length a) old) ≡ drop (at + (length a + length b)) old =
    ap (λ (n : ℕ). drop (n + length b) ((take at old ++ a) ++ drop (at + length a) old)) (sym head)
    ∙ drop-append-add (take at old ++ a) (drop (at + length a) old) (length b)
    ∙ drop-drop (length b) (at + length a) old
    ∙ ap (λ (n : ℕ). drop n old) (add_assoc at (length a) (length b))
    in
    rw (whole, tail, take_at (take at old ++ a) (drop (at + length a) old) (at + length a) head, length-append a b)
    (simp append_assoc)

-- ---- what a writer leaves: these bytes from `at` on, and the place after them
-- the bytes stand from a place on, the rest is as it was, and `end` is the place after them
pub record Wrote (at : ℕ) (bytes old now : List ℕ) (end : ℕ) : Type 0 where
  pub end_is : end ≡ at + length bytes
  pub fits : end ≤ length old
  pub size : length now ≡ length old
  pub now-is : now ≡ put at bytes old

pub wrote_none : (at : ℕ) (old : List ℕ) → at ≤ length old → Wrote at [] old old at
wrote_none at old h = record { end_is = sym (add-zero at); fits = h; size = refl; now-is = sym (put-nothing at old) }

pub wrote-byte : (at b : ℕ) (old : List ℕ) → at < length old → Wrote at (b ∷ []) old (set old at b) (at + 1)
wrote-byte at b old h =
    let is = put_byte at b old h in
    record { end_is = refl; fits = omega arith; size = ap length is ∙ put-length at (b ∷ []) old (omega arith); now-is = is }

-- one writer after the other
pub wrote-more : {at : ℕ} {a b old mid now : List ℕ} {next end : ℕ} → Wrote at a old mid next → Wrote next b mid now end → Wrote at (a ++ b) old now end
wrote-more {at} {a} {b} {old} {mid} {now} {next} {end} u v =
    let p = u.end_is in
    let q = u.fits in
    let r = u.size in
    let s = v.end_is in
    let t = v.fits in
    let is : now ≡ put at (a ++ b) old = v.now-is ∙ ap (λ (n : ℕ). put n b mid) p ∙ ap (put (at + length a) b) u.now-is ∙ put-put at a b old (omega arith) in
    record {
      end_is = rw (length-append a b) (omega arith);
      fits = omega arith;
      size = v.size ∙ r;
      now-is = is;
    }

-- the same bytes in other words
pub wrote_as : {at : ℕ} {a b old now : List ℕ} {end : ℕ} → a ≡ b → Wrote at a old now end → Wrote at b old now end
wrote_as e u = rw e at u

-- a part, and then two parts
pub wrote-two : {at : ℕ} {a old mid now : List ℕ} {next end : ℕ} (b c : List ℕ) → Wrote at a old mid next → Wrote next (b ++ c) mid now end → Wrote at (a ++ b ++ c) old now end
wrote-two {at} {a} b c u v = wrote_as (sym (append_assoc a b c)) (wrote-more u v)

-- from the front
pub wrote-front : {bytes old now : List ℕ} {end : ℕ} → Wrote 0 bytes old now end → (now ≡ over bytes old) × (end ≡ length bytes)
wrote-front {bytes} {old} u = let e = u.end_is in (u.now-is ∙ put_front bytes old, omega arith)

-- a copy of a list
pub wrote-copied : (at : ℕ) (bytes old now : List ℕ) → at + length bytes ≤ length old → now ≡ paste old at bytes (length bytes) → Wrote at bytes old now (at + length bytes)
unfolding put
wrote-copied at bytes old now h copied =
    let is : now ≡ put at bytes old =
    copied
    ∙ ap (λ (s : List ℕ). (take at old ++ s) ++ drop (at + length bytes) old) (take-length bytes)
    ∙ append_assoc (take at old) bytes (drop (at + length bytes) old) in
    record { end_is = refl; fits = h; size = ap length is ∙ put-length at bytes old h; now-is = is }
