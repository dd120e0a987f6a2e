use Rattle.std.proofs.Common.{◌≡◌, ℕ, ◌+◌, ◌-◌, ◌≤◌, List, ◌++◌, Option, rules, arith, length, take, slice_range, sym, ap, ◌∙◌, subst, le_refl, drop_at, length-take-le}
use Rattle.std.proofs.lemmas.Slice.{take-put_mid_below}
use Rattle.std.specs.Io.KnownBytes.{Consumes, Keeps}
use Rattle.std.proofs.KnownBytes.{Consumes-trans, Consumes-kept}
use borrow.Rule.Slice.PartMut.{put_mid, post_of}
use lib.Seq.{take-add, take-append-le}
use Rattle.standard_input.proofs.read_full.Goals as goal
use Rattle.standard_input.proofs.read_full.Goals.{in-Ok, in-Err+else-ne}

-- bytes read into a part of a slice, behind those before them
range-read : (a room n : ℕ) (old part : List ℕ) → a ≤ length old → n ≤ length part → slice_range (put_mid a room old part) a (a + n) ≡ take n part
range-read a room n old part within fits =
    let same : (a + n) - a ≡ n = omega arith in
    let after = post_of a room old in
    ap (take ((a + n) - a)) (drop_at (take a old) (part ++ after) a (length-take-le a old within)) ∙ ap (λ m. take m (part ++ after)) same ∙ take-append-le n part after fits

front-read : (a room n : ℕ) (old part : List ℕ) → a ≤ length old → n ≤ length part → take a old ++ take n part ≡ take (a + n) (put_mid a room old part)
front-read a room n old part within fits =
    let same : a + ((a + n) - a) ≡ a + n = omega arith in
    let new = put_mid a room old part in
    ap (λ l. take a old ++ l) (sym (range-read a room n old part within fits))
    ∙ ap (λ l. l ++ slice_range new a (a + n)) (sym (take-put_mid_below _ _ _ _ _ (le_refl _) within))
    ∙ sym (take-add a ((a + n) - a) new)
    ∙ ap (λ m. take m new) same

-- the bytes at the front are what was consumed, after a read that gave n bytes, and after one that gave none
after-read :
    (first mid last : Option (List ℕ)) (a room n m : ℕ) (old part : List ℕ)
    → a ≤ length old
    → n ≤ length part
    → m ≡ a + n
    → Consumes first mid (take a old)
    → Consumes mid last (take n part)
    → Consumes first last (take m (put_mid a room old part))
after-read first mid last a room n m old part within fits sum before read =
    subst (Consumes first last) (front-read a room n old part within fits ∙ ap (λ k. take k (put_mid a room old part)) (sym sum)) (Consumes-trans first mid last _ _ before read)

after-none :
    (first mid last : Option (List ℕ)) (a room m : ℕ) (old part : List ℕ)
    → a ≤ length old
    → m ≡ a
    → Consumes first mid (take a old)
    → Keeps mid last
    → Consumes first last (take m (put_mid a room old part))
after-none first mid last a room m old part within same before kept =
    subst (Consumes first last) (sym (take-put_mid_below _ _ _ _ _ (le_refl _) within) ∙ ap (λ k. take k (put_mid a room old part)) (sym same)) (Consumes-kept first mid last _ before kept)

pub loop-preserved : goal.loop-preserved
loop-preserved g c =
    let within = c.loop.invariant.0 in
    elim c.match-read.branch [
      | in-Ok w ↦ (search rules, after-read _ _ _ _ _ _ _ _ _ within (w.in-Ok.ensures.bound.0) w.n-is c.loop.invariant.1 w.in-Ok.ensures.bytes.0)
      | in-Err+else-ne w ↦ (search rules, after-none _ _ _ _ _ _ _ _ within w.n-is c.loop.invariant.1 w.in-Err.ensures.bytes)
    ]
