-- The part of a list from a place on, `&s[at..]`.
use Rattle.std.specs.Prelude.{ℕ, zero, suc, ◌-◌, ◌<◌, ◌≡◌, List, [], ◌∷◌, ◌++◌, length, get_or, take, drop}
use Rattle.std.proofs.Common.{ap, ◌∙◌, append_assoc, append-nil, le_of_eq, arith, length-append, length-drop, drop_of_length-le, take_all, drop-drop}
use borrow.Rule.Slice.PartMut.{put_mid, mid_of}
use Rattle.std.proofs.Math.Seq.{take-append_seam, drop-append_seam}
use Rattle.bits.specs.Tab.{over}

-- a callee is lent `&s[at..]` as the first `length s - at` elements of what follows `at`: all of them
pub part-from : {A : Type 0} (s : List A) (at : ℕ) → take (length s - at) (drop at s) ≡ drop at s
part-from s at = take_all (length s - at) (drop at s) (le_of_eq (length-drop at s))

-- writing on in the part after what is written, in the whole: a lent `&mut s[at..]` comes back in its place
pub over-more : {A : Type 0} (a b old out : List A) → out ≡ over a old → put_mid (length a) (length out - length a) out (over b (mid_of (length a) (length out - length a) out)) ≡ over (a ++ b) old
unfolding over
over-more a b old out e =
    let rest : drop (length a) out ≡ drop (length a) old = ap (drop (length a)) e ∙ drop-append_seam a (drop (length a) old) in
    let front : take (length a) out ≡ a = ap (take (length a)) e ∙ take-append_seam a (drop (length a) old) in
    let size = length-drop (length a) out in
    let tail = drop_of_length-le (drop (length a) out) {i = length out - length a} (omega arith) in
    rw (part-from out (length a), tail, rest, front) (simp (append-nil, append_assoc, drop-drop (length b) (length a) old, length-append))

-- where a list goes on with e from k on, e is its element k
pub record At {A : Type 0} (es : List A) (k : ℕ) (d e : A) (others : List A) : Type 0 where
  pub below : k < length es
  pub here : get_or es k d ≡ e
  pub rest : drop (suc k) es ≡ others

pub at_head : {A : Type 0} (es : List A) (k : ℕ) (d e : A) (others : List A) → drop k es ≡ e ∷ others → At es k d e others
at_head [] zero d e others h = absurd (let z : ◌≡◌ {A = ℕ} 0 1 = cc in omega arith)
at_head [] (suc k) d e others h = absurd (let z : ◌≡◌ {A = ℕ} 0 1 = cc in omega arith)
at_head (x ∷ es) zero d e others h = record { below = omega arith; here = cc; rest = cc }
at_head (x ∷ es) (suc k) d e others h =
    let t = at_head es k d e others h in
    record { below = let b = t.below in omega arith; here = t.here; rest = t.rest }
