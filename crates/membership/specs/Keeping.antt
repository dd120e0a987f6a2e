-- How the attributes of the entries that pass a test are listed, entry by entry.
use Rattle.std.specs.Prelude.{ℕ, suc, ◌+◌, ◌/◌, ◌≤◌, ◌<◌, ◌≡◌, refl, Bool, true, false, cond, List, [], ◌∷◌, length, get_or, set, take, drop}
use Rattle.std.proofs.Common.{sym, ap, ap₂, ◌∙◌, ⊎_elim, eq-or-lt_of_le, add-zero, add-one, arith, length-set, length-drop, drop_of_length-le, drop-cons, get_or-set_same, get_or-set_other, get_or-take, length-take-le, ext_get_or}
use Rattle.bits.specs.Part.{at_head}
use Rattle.membership.specs.Entries.{attribute_of}
use Rattle.membership.specs.Holders.{kept}

-- two tests that agree on the entries keep the same
pub kept_same : (es : List ℕ) (f g : ℕ → Bool) → ((i : ℕ) → i < length es → f (get_or es i 0) ≡ g (get_or es i 0)) → kept f es ≡ kept g es
kept_same [] f g same = refl
kept_same (e ∷ es) f g same = ap₂ (λ (b : Bool) (l : List ℕ). cond b (attribute_of e ∷ l) l) (same 0 (omega arith)) (kept_same es f g (λ i h. same (suc i) (omega arith)))

-- i entries are tested, k attributes are listed, and what is left comes from entry i on
pub record Keeping (test : ℕ → Bool) (es before list : List ℕ) (k i : ℕ) : Type 0 where
  pub tested : i ≤ length es
  pub fewer : k ≤ i
  pub reached : k ≤ length (kept test es)
  pub size : length list ≡ length before
  pub front : (x : ℕ) → x < k → get_or list x 0 ≡ get_or (kept test es) x 0
  pub rest : drop k (kept test es) ≡ kept test (drop i es)

pub keeping-first : (test : ℕ → Bool) (es list : List ℕ) → Keeping test es list list 0 0
keeping-first test es list = record { tested = omega arith; fewer = omega arith; reached = omega arith; size = refl; front = λ x h. absurd (omega arith); rest = refl }

module _ {test : ℕ → Bool} {es before list : List ℕ} {k i : ℕ} (h : Keeping test es before list k i) where
  -- an entry's attribute is written, and counts if it passes
  pub kept-next : {a d : ℕ} → i < length es → length es ≤ length before → a ≡ attribute_of (get_or es i 0) → d ≡ cond (test (get_or es i 0)) 1 0 → Keeping test es before (set list k a) (k + d) (i + 1)
  kept-next {a} {d} inside fits is digit = rw digit (go (test (get_or es i 0)) refl)
    where
      split : kept test (drop i es) ≡ kept test (get_or es i 0 ∷ drop (suc i) es)
      split = ap (kept test) (drop-cons es i 0 inside)

      other : (x : ℕ) → x < k → get_or (set list k a) x 0 ≡ get_or (kept test es) x 0
      other x below = get_or-set_other list k x a 0 (λ e. omega arith) ∙ h.front x below

      go : (t : Bool) → test (get_or es i 0) ≡ t → Keeping test es before (set list k a) (k + cond t 1 0) (i + 1)
      go false lacks =
          let fewer = h.fewer in
          record {
            tested = omega arith;
            fewer = omega arith;
            reached = rw (add-zero k) h.reached;
            size = length-set list k a ∙ h.size;
            front = λ x below. other x (omega arith);
            rest = rw (add-zero k, add-one i) (h.rest ∙ split ∙ rw lacks);
          }
      go true has =
          let first : drop k (kept test es) ≡ attribute_of (get_or es i 0) ∷ kept test (drop (suc i) es) = h.rest ∙ split ∙ rw has in
          let here = at_head (kept test es) k 0 _ _ first in
          let fewer = h.fewer in
          let same = h.size in
          record {
            tested = omega arith;
            fewer = omega arith;
            reached = let below = here.below in omega arith;
            size = length-set list k a ∙ h.size;
            front = λ x below. ⊎_elim (λ e. rw e (get_or-set_same list k a 0 (omega arith) ∙ is ∙ sym here.here)) (λ less. other x less) (eq-or-lt_of_le (up_to x below));
            rest = rw (add-one k, add-one i) here.rest;
          }
        where
          up_to : (x : ℕ) → x < k + 1 → x ≤ k
          up_to x below = omega arith

  -- all entries are tested
  pub kept-all : length es ≤ i → length es ≤ length before → (k ≡ length (kept test es)) × (take k list ≡ kept test es)
  kept-all all fits =
      let tested = h.tested in
      let empty : drop k (kept test es) ≡ [] = h.rest ∙ ap (kept test) (drop_of_length-le es {i = i} (omega arith)) in
      let left = length-drop k (kept test es) in
      let none = ap length empty in
      let reached = h.reached in
      let fewer = h.fewer in
      let same = h.size in
      let size : k ≡ length (kept test es) = omega arith in
      let front = length-take-le k list (omega arith) in
      (size, ext_get_or 0 (take k list) (kept test es) (front ∙ size) (λ x below. get_or-take k list x 0 (omega arith) ∙ h.front x (omega arith)))

-- ---- the first entries of a slice

module _ (items : List ℕ) (count : ℕ) {test : ℕ → Bool} {before list : List ℕ} {k i : ℕ} (enough : count ≤ length items) (fits : count ≤ length before) (h : Keeping test (take count items) before list k i) where
  size_is : length (take count items) ≡ count
  size_is = length-take-le count items enough

  pub keeping-bounds : (i ≤ count) × (k ≤ i) × (length list ≡ length before)
  keeping-bounds = let size = size_is in let tested = h.tested in (omega arith, h.fewer, h.size)

  pub keeping-next : {d : ℕ} → i < count → d ≡ cond (test (get_or items i 0)) 1 0 → Keeping test (take count items) before (set list k (get_or items i 0 / 256)) (k + d) (i + 1)
  keeping-next inside digit =
      let size = size_is in
      let here = get_or-take count items i 0 inside in
      kept-next h (omega arith) (omega arith) (ap attribute_of (sym here)) (rw here digit)

  pub keeping-end : count ≤ i → (k ≡ length (kept test (take count items))) × (take k list ≡ kept test (take count items))
  keeping-end all = let size = size_is in kept-all h (omega arith) (omega arith)
