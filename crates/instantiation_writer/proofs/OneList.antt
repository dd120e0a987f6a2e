-- How the list of a subset is written from entries that are sorted by subset: the attributes of the entries from i to j are written.
use Prim.Native.Nat.{ℕ, zero, suc, ◌+◌, ◌-◌, ◌*◌, ◌/◌, ◌%◌, ◌≤◌, ◌<◌}
use mathlib.Core.Path.{◌≡◌, refl, sym, ap, ◌∙◌}
use mathlib.Core.List.{List, [], ◌∷◌}
use mathlib.Core.Logic.{◌⊎◌, inl, inr}
use native.Mathlib.Nat.{sub_self}
use native.Mathlib.Numerals.{add-one}
use native.Mathlib.Omega.{arith}
use borrow.Author.Tests.{eq-eqb}
use lib.ListN.{length, get_or, set, take, drop, length-set, length-drop, drop_of_length-le}
use lib.Seq.{drop-cons, get_or-take, get_or-set_same, get_or-set_other, length-take-le}
use Rattle.bits.specs.Part.{at_head}
use Rattle.bits.specs.Tab.{over, over-is}
use Rattle.bits.specs.Written.{Written, written-more}
use Rattle.type_record.specs.Lists.{word_bytes, list_bytes}
use Rattle.type_record.specs.ListBytes.{word_low, word-high, bytes-length}
use Rattle.membership.specs.Entries.{attribute_of, subset_of}
use Rattle.entry_sorting.specs.SortedLaws.{RisingSubsets}
use Rattle.instantiation.specs.Instantiation.{with_subset}
use Rattle.instantiation.specs.Runs.{list_at, BySubset, run_none, run-from, list-some}
use Rattle.instantiation.specs.SubsetLaws.{subset-few}

-- ---- the bytes of a list

-- a byte v in the place of the count, and the attributes
abbrev list_byte : ℕ → List ℕ → ℕ → ℕ
list_byte v l j = get_or (v ∷ word_bytes l) j 0

byte_low : (v : ℕ) (l : List ℕ) (k : ℕ) → list_byte v l (k * 2 + 1) ≡ get_or l k 0 % 256
byte_low v l k = rw (add-one (k * 2)) (word_low l k)

byte_high : (v : ℕ) (l : List ℕ) (k : ℕ) → list_byte v l (k * 2 + 2) ≡ get_or l k 0 / 256
byte_high v l k = let next : k * 2 + 2 ≡ suc (k * 2 + 1) = omega arith in rw next (word-high l k)

-- ---- what is written

unwritten : (l old : List ℕ) → Written (list_byte (get_or old 0 0) l) 1 old old
unwritten l old = record { size = refl; front = first; back = λ i h. refl }
  where
    first : (i : ℕ) → i < 1 → get_or old i 0 ≡ list_byte (get_or old 0 0) l i
    first zero h = refl
    first (suc i) h = absurd (omega arith)

written-word :
    (v : ℕ) (l old out : List ℕ) (n a : ℕ)
    → n * 2 + 3 ≤ length out
    → a ≡ get_or l n 0
    → Written (list_byte v l) (n * 2 + 1) old out
    → Written (list_byte v l) ((n + 1) * 2 + 1) old (set (set out (n * 2 + 1) (a % 256)) (n * 2 + 2) (a / 256))
written-word v l old out n a fits is w =
    let size = length-set out (n * 2 + 1) (a % 256) in
    let next : n * 2 + 1 + 1 ≡ n * 2 + 2 = omega arith in
    let end : (n + 1) * 2 + 1 ≡ n * 2 + 2 + 1 = omega arith in
    let low = rw next at (written-more (list_byte v l) (n * 2 + 1) old out (a % 256) (omega arith) w (ap (λ (x : ℕ). x % 256) is ∙ sym (byte_low v l n))) in
    rw end (written-more (list_byte v l) (n * 2 + 2) old (set out (n * 2 + 1) (a % 256)) (a / 256) (omega arith) low
    (ap (λ (x : ℕ). x / 256) is ∙ sym (byte_high v l n)))

written-whole : (l old out : List ℕ) → 1 ≤ length l → length (list_bytes l) ≤ length old →
    Written (list_byte (get_or old 0 0) l) (length l * 2 + 1) old out → set out 0 (length l) ≡ over (list_bytes l) old
written-whole [] old out some fits w = absurd (omega arith)
written-whole (a ∷ l) old out some fits w =
    over-is (list_bytes (a ∷ l)) old (set out 0 (length (a ∷ l))) 0 fits (length-set out 0 (length (a ∷ l)) ∙ w.size) front
    (λ i h. let long = bytes-length (a ∷ l) some in get_or-set_other out 0 i (length (a ∷ l)) 0 (λ e. omega arith) ∙ w.back i (omega arith))
  where
    front : (i : ℕ) → i < length (list_bytes (a ∷ l)) → get_or (set out 0 (length (a ∷ l))) i 0 ≡ get_or (list_bytes (a ∷ l)) i 0
    front zero h = let size = w.size in get_or-set_same out 0 (length (a ∷ l)) 0 (omega arith)
    front (suc i) h =
        let long = bytes-length (a ∷ l) some in
        get_or-set_other out 0 (suc i) (length (a ∷ l)) 0 (λ e. omega arith) ∙ w.front (suc i) (omega arith)

-- ---- the loop

pub record Following (es : List ℕ) (i : ℕ) (old out : List ℕ) (j : ℕ) : Type 0 where
  pub from : i ≤ j
  pub up_to : j ≤ length es
  pub reached : j - i ≤ length (list_at es i)
  pub rising : RisingSubsets (subset_of (get_or es i 0)) (drop j es)
  pub rest : drop (j - i) (list_at es i) ≡ with_subset (subset_of (get_or es i 0)) (drop j es)
  pub written : Written (list_byte (get_or old 0 0) (list_at es i)) ((j - i) * 2 + 1) old out

module _ (sorted : List ℕ) (count : ℕ) (by : BySubset sorted count) (i : ℕ) (inside : i < count) where
  all : length (take count sorted) ≡ count
  all = length-take-le count sorted by.fit.enough

  -- entry j of the slice
  entry-is : (j : ℕ) → j < count → get_or (take count sorted) j 0 ≡ get_or sorted j 0
  entry-is j h = get_or-take count sorted j 0 h

  pub follow-first : (old : List ℕ) → Following (take count sorted) i old old i
  follow-first old =
      let size = all in
      record {
        from = omega arith;
        up_to = omega arith;
        reached = omega arith;
        rising = run-from 0 (take count sorted) i by.rising (omega arith);
        rest = rw (sub_self i);
        written = rw (sub_self i) (unwritten (list_at (take count sorted) i) old);
      }

  -- the list is short
  list-few : length (list_at (take count sorted) i) ≤ 255
  list-few =
      let few = by.few in
      let least = subset-few (subset_of (get_or (take count sorted) i 0)) (drop i (take count sorted)) in
      let left = length-drop i (take count sorted) in
      let size = all in
      omega arith

  some : 1 ≤ length (list_at (take count sorted) i)
  some = let size = all in list-some (take count sorted) i (omega arith)

  module _ {old out : List ℕ} {j : ℕ} (fits : length (list_bytes (list_at (take count sorted) i)) ≤ length old)
      (h : Following (take count sorted) i old out j) where
    pub follow-bounds : (i ≤ j) × (j ≤ count) × (j - i ≤ 255) × (length out ≡ length old)
    follow-bounds = let size = all in let up_to = h.up_to in let few = list-few in let reached = h.reached in (h.from, omega arith, omega arith, h.written.size)

    module _ (more : j < count) where
      split : drop j (take count sorted) ≡ get_or (take count sorted) j 0 ∷ drop (suc j) (take count sorted)
      split = let size = all in drop-cons (take count sorted) j 0 (omega arith)

      module _ (same : get_or sorted j 0 % 256 ≡ get_or sorted i 0 % 256) where
        subset-same : subset_of (get_or (take count sorted) j 0) ≡ subset_of (get_or (take count sorted) i 0)
        subset-same = ap subset_of (entry-is j more) ∙ same ∙ sym (ap subset_of (entry-is i inside))

        -- the entry gives an attribute
        here :
            with_subset (subset_of (get_or (take count sorted) i 0)) (drop j (take count sorted))
            ≡ attribute_of (get_or (take count sorted) j 0) ∷ with_subset (subset_of (get_or (take count sorted) i 0))
            (drop (suc j) (take count sorted))
        here =
            ap (with_subset (subset_of (get_or (take count sorted) i 0))) split
            ∙ rw (eq-eqb (subset_of (get_or (take count sorted) j 0)) (subset_of (get_or (take count sorted) i 0)) subset-same)

        -- there is room for it
        pub follow-room : (j - i) * 2 + 3 ≤ length out
        follow-room =
            let below = (at_head (list_at (take count sorted) i) (j - i) 0 _ _ (h.rest ∙ here)).below in
            let size = h.written.size in
            let long = bytes-length (list_at (take count sorted) i) some in
            omega arith

        pub follow-next : Following (take count sorted) i old
            (set (set out ((j - i) * 2 + 1) (get_or sorted j 0 / 256 % 256)) ((j - i) * 2 + 2) (get_or sorted j 0 / 256 / 256)) (j + 1)
        follow-next =
            let from = h.from in
            let size = all in
            let next : j + 1 - i ≡ suc (j - i) = omega arith in
            let place : j + 1 - i ≡ j - i + 1 = omega arith in
            let head = at_head (list_at (take count sorted) i) (j - i) 0 _ _ (h.rest ∙ here) in
            record {
              from = omega arith;
              up_to = omega arith;
              reached = let below = head.below in omega arith;
              rising = rw (add-one j) (rw subset-same at (rw split at h.rising).1);
              rest = rw (next, add-one j) head.rest;
              written =
                  rw place
                  (written-word (get_or old 0 0) (list_at (take count sorted) i) old out (j - i) (get_or sorted j 0 / 256) follow-room
                  (sym (head.here ∙ ap attribute_of (entry-is j more))) h.written);
            }

    -- ---- the end

    -- no entry is left, or the next has another subset
    abbrev pub Ends : Type 0
    Ends = (count ≤ j) ⊎ ((j < count) × (get_or sorted j 0 % 256 ≡ get_or sorted i 0 % 256 → ⊥))

    none_left : Ends → with_subset (subset_of (get_or (take count sorted) i 0)) (drop j (take count sorted)) ≡ []
    none_left (inl past) = let size = all in ap (with_subset (subset_of (get_or (take count sorted) i 0)))
        (drop_of_length-le (take count sorted) {i = j} (omega arith))
    none_left (inr other) =
        let more = other.0 in
        let one = ap subset_of (entry-is j more) in
        let two = ap subset_of (entry-is i inside) in
        let apart : subset_of (get_or (take count sorted) j 0) ≡ subset_of (get_or (take count sorted) i 0) → ⊥ = λ k. other.1 (sym one ∙ k ∙ two) in
        let rises = rw (split more) at h.rising in
        let first = rises.0 in
        ap (with_subset (subset_of (get_or (take count sorted) i 0))) (split more)
        ∙ run_none (subset_of (get_or (take count sorted) i 0)) (subset_of (get_or (take count sorted) j 0))
        (get_or (take count sorted) j 0 ∷ drop (suc j) (take count sorted)) (omega arith, rises.1) (omega arith)

    follow-all : Ends → j - i ≡ length (list_at (take count sorted) i)
    follow-all ends =
        let fewer = h.reached in
        let none = ap length (h.rest ∙ none_left ends) in
        let left = length-drop (j - i) (list_at (take count sorted) i) in
        omega arith

    -- there is room for the count
    pub follow-front : 0 < length out
    follow-front =
        let size = h.written.size in
        let least = some in
        let long = bytes-length (list_at (take count sorted) i) some in
        omega arith

    pub follow-whole : Ends → (j ≡ i + length (list_at (take count sorted) i)) × (set out 0 (j - i) ≡ over (list_bytes (list_at (take count sorted) i)) old)
    follow-whole ends =
        let all = follow-all ends in
        let from = h.from in
        (omega arith, rw all (written-whole (list_at (take count sorted) i) old out some fits (rw all at h.written)))
