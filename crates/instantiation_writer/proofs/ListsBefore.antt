-- The lists of entries that are sorted by subset, written to the front of a slice: those of the entries before i are written.
use Prim.Native.Nat.{ℕ, ◌+◌, ◌-◌, ◌*◌, ◌≤◌, ◌<◌}
use mathlib.Core.Path.{◌≡◌, refl, sym, ap, ◌∙◌}
use mathlib.Core.List.{List, [], ◌++◌, append_assoc, append-nil}
use native.Mathlib.Nat.{le_refl}
use native.Mathlib.Omega.{arith}
use borrow.Rule.Slice.PartMut.{put_mid, mid_of, mid_len}
use lib.ListN.{length, get_or, take, drop, length-append, length-drop, drop_of_length-le}
use lib.Seq.{length-take-le}
use Rattle.bits.specs.Part.{over-more}
use Rattle.bits.specs.Tab.{over, over_none, over-length}
use Rattle.type_record.specs.Lists.{list_bytes}
use Rattle.type_record.specs.ListBytes.{bytes-length}
use Rattle.membership.specs.Entries.{subset_of}
use Rattle.instantiation.specs.Instantiation.{lists_of, lists_bytes}
use Rattle.instantiation.specs.EntriesLaws.{lists-most}
use Rattle.instantiation.specs.Runs.{list_at, BySubset, list-some, lists-run, lists-none}
use Rattle.instantiation.specs.SubsetLaws.{subset-few}

pub record Prefix (es old out : List ℕ) (at i : ℕ) : Type 0 where
  -- what is written
  pub front : List ℕ
  pub up_to : i ≤ length es
  pub size : at ≡ length front
  pub written : out ≡ over front old
  pub whole : front ++ lists_bytes (lists_of (drop i es)) ≡ lists_bytes (lists_of es)

pub prefix-first : (es old : List ℕ) → Prefix es old old 0 0
prefix-first es old = record { front = []; up_to = omega arith; size = refl; written = sym (over_none old); whole = refl }

module _ (sorted : List ℕ) (count : ℕ) (by : BySubset sorted count) {old out : List ℕ} {at i : ℕ} (fits : 765 ≤ length old)
    (h : Prefix (take count sorted) old out at i) where
  all : length (take count sorted) ≡ count
  all = length-take-le count sorted by.fit.enough

  -- where the lists end
  few : length h.front + length (lists_bytes (lists_of (drop i (take count sorted)))) ≤ 765
  few =
      let most = lists-most (take count sorted) in
      let parts = sym (length-append h.front (lists_bytes (lists_of (drop i (take count sorted))))) ∙ ap length h.whole in
      let size = all in
      let least = by.few in
      omega arith

  pub same_size : length out ≡ length old
  same_size = let most = few in ap length h.written ∙ over-length h.front old (omega arith)

  pub prefix-at : at ≤ length out
  prefix-at = let most = few in let size = h.size in let same = same_size in omega arith

  module _ (inside : i < count) where
    run : lists_bytes (lists_of (drop i (take count sorted))) ≡ list_bytes (list_at (take count sorted) i)
        ++ lists_bytes (lists_of (drop (i + length (list_at (take count sorted) i)) (take count sorted)))
    run = let size = all in lists-run (take count sorted) i by.rising (omega arith)

    -- where the next list ends
    pub reach : at + length (list_bytes (list_at (take count sorted) i)) ≤ 765
    reach =
        let most = few in
        let parts = ap length run ∙ length-append (list_bytes (list_at (take count sorted) i))
        (lists_bytes (lists_of (drop (i + length (list_at (take count sorted) i)) (take count sorted)))) in
        let size = h.size in
        omega arith

    pub list-positive : 1 ≤ length (list_at (take count sorted) i)
    list-positive = let size = all in list-some (take count sorted) i (omega arith)

    pub list-size : length (list_bytes (list_at (take count sorted) i)) ≡ length (list_at (take count sorted) i) * 2 + 1
    list-size = bytes-length (list_at (take count sorted) i) list-positive

    -- there is room for it
    pub part_room : length (list_bytes (list_at (take count sorted) i)) ≤ length (mid_of at (length out - at) out)
    part_room =
        let end = reach in
        let same = same_size in
        let part = mid_len at (length out) out (le_refl (length out)) in
        omega arith

    -- it ends within the entries
    pub list-up_to : i + length (list_at (take count sorted) i) ≤ count
    list-up_to =
        let least = subset-few (subset_of (get_or (take count sorted) i 0)) (drop i (take count sorted)) in
        let left = length-drop i (take count sorted) in
        let size = all in
        omega arith

    pub prefix-next :
        {j : ℕ} {part : List ℕ}
        → j ≡ i + length (list_at (take count sorted) i)
        → part ≡ over (list_bytes (list_at (take count sorted) i)) (mid_of at (length out - at) out)
        → Prefix (take count sorted) old (put_mid at (length out - at) out part) (at + ((j - i) * 2 + 1)) j
    prefix-next {j} {part} j-is part-is =
        let size = h.size in
        let long = list-size in
        let both = length-append h.front (list_bytes (list_at (take count sorted) i)) in
        let end = list-up_to in
        let whole = all in
        record {
          front = h.front ++ list_bytes (list_at (take count sorted) i);
          up_to = omega arith;
          size = omega arith;
          written = rw (part-is, h.size) (over-more h.front (list_bytes (list_at (take count sorted) i)) old out h.written);
          whole =
              rw j-is
              (append_assoc h.front (list_bytes (list_at (take count sorted) i))
              (lists_bytes (lists_of (drop (i + length (list_at (take count sorted) i)) (take count sorted))))
              ∙ ap (λ (l : List ℕ). h.front ++ l) (sym run)
              ∙ h.whole);
        }

  -- all lists
  pub prefix-end : count ≤ i → (at ≡ length (lists_bytes (lists_of (take count sorted)))) × (out ≡ over (lists_bytes (lists_of (take count sorted))) old)
  prefix-end last =
      let size = all in
      let none = ap (λ (l : List ℕ). lists_bytes (lists_of l)) (drop_of_length-le (take count sorted) {i = i} (omega arith)) ∙ lists-none in
      let whole : h.front ≡ lists_bytes (lists_of (take count sorted)) = sym (append-nil h.front) ∙ ap (λ (l : List ℕ). h.front ++ l) (sym none) ∙ h.whole in
      (h.size ∙ ap length whole, h.written ∙ ap (λ (l : List ℕ). over l old) whole)
