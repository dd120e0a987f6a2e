-- The second reading of an instantiation's lists, for attributes that are in two of them: what is marked when it is resumed at subset s and byte `at`.
use Prim.Native.Nat.{ℕ, ◌+◌, ◌-◌, ◌*◌, ◌≤◌, ◌<◌}
use mathlib.Core.Path.{◌≡◌, refl, sym, ap, ap₂, ◌∙◌}
use mathlib.Core.Bool.{Bool, true, false, ◌||◌}
use mathlib.Core.List.{List, [], ◌∷◌, ◌++◌, append-nil}
use native.Mathlib.Omega.{arith}
use lib.ListN.{length, take, drop, replicate, length-replicate}
use Rattle.bits.specs.Rising.{member, member-append}
use Rattle.bits.specs.Tab.{tab}
use Rattle.bits.specs.Word.{word, Bytes}
use Rattle.refusal.specs.declared.Refusal.{Refusal}
use Rattle.refusal.specs.Several.{several_read as lists_read}
use Rattle.type_record.specs.Lists.{listed}
use Rattle.instantiation.specs.Instantiation.{standing, read_lists, all_listed}
use Rattle.instantiation.specs.Seen.{nothing_seen, repeated_in, seen_in, Marked}
use Rattle.instantiation.specs.SeenLaws.{repeated-same, repeated-append, marks-none}
use Rattle.instantiation.specs.OneMoreList.{listed_more}
use Rattle.instantiation.specs.ListsResumed.{Walk, walk_start, walk-clear, Reads, walk_refused, attributes-are, walk-next, walk-read}
use Rattle.std.specs.Prelude.{Ok, Err}

pub record Repeats (bytes seen : List ℕ) (repeated : Bool) (at s : ℕ) : Type 0 where
  pub walk : Walk bytes at s
  pub size : length seen ≡ 8192
  pub marks : (a : ℕ) → seen_in seen a ≡ member a (all_listed walk.done)
  pub repeats : repeated_in nothing_seen (all_listed walk.done) ≡ repeated

pub repeats-start : (bytes : List ℕ) → 47 ≤ length bytes → Repeats bytes (replicate 8192 0) false 47 0
repeats-start bytes enough = record { walk = walk_start bytes enough; size = length-replicate {A = ℕ} 8192 0; marks = λ a. marks-none 8192 a; repeats = refl }

module _ {bytes seen : List ℕ} {repeated : Bool} {at s : ℕ} (h : Repeats bytes seen repeated at s) where
  pub repeats-clear : s < 256 → standing bytes s ≡ false → Repeats bytes seen repeated at (s + 1)
  repeats-clear more clear =
      let same = listed_more [] h.walk.done ∙ append-nil (all_listed h.walk.done) in
      record {
        walk = walk-clear h.walk more clear;
        size = h.size;
        marks = λ a. h.marks a ∙ ap (member a) (sym same);
        repeats = ap (repeated_in nothing_seen) same ∙ h.repeats;
      }

  -- a refusal does not come where the lists are read
  pub repeats-refused :
      {x : Refusal} {r : Bool}
      → s < 256
      → standing bytes s ≡ true
      → Reads h.walk (Err x)
      → (ls : List (List ℕ))
      → read_lists bytes 256 0 (drop 47 bytes) ≡ lists_read ls
      → r ≡ repeated_in nothing_seen (all_listed ls)
  repeats-refused more stands e ls read = let same = sym (walk_refused h.walk more stands e) ∙ read in absurd (let z : ◌≡◌ {A = ℕ} 0 1 = cc in omega arith)

  module _ {n : ℕ} (below : Bytes bytes) (e : Reads h.walk (Ok n)) where
    -- its attributes, as the code has them
    abbrev attributes : List ℕ
    attributes = tab n (λ x. word (take (length bytes - at) (drop at bytes)) (x * 2 + 1))

    are : attributes ≡ listed n (drop at bytes)
    are = attributes-are h.walk below e

    marks-more : (marks : List ℕ) → Marked attributes seen marks → (a : ℕ) →
        seen_in marks a ≡ member a (all_listed (h.walk.done ++ (listed n (drop at bytes) ∷ [])))
    marks-more marks marked a =
        marked.marks a
        ∙ ap₂ (λ (b : Bool) (l : List ℕ). b || member a l) (h.marks a) are
        ∙ sym (ap (member a) (listed_more (listed n (drop at bytes)) h.walk.done) ∙ member-append a (all_listed h.walk.done) (listed n (drop at bytes)))

    repeats-more : {again next : Bool} → again ≡ repeated_in (seen_in seen) attributes → next ≡ repeated || again →
        repeated_in nothing_seen (all_listed (h.walk.done ++ (listed n (drop at bytes) ∷ []))) ≡ next
    repeats-more {again} {next} again-is next-is =
        ap (repeated_in nothing_seen) (listed_more (listed n (drop at bytes)) h.walk.done)
        ∙ repeated-append nothing_seen (all_listed h.walk.done) (listed n (drop at bytes))
        ∙ ap₂ ◌||◌ h.repeats
        (repeated-same (λ a. nothing_seen a || member a (all_listed h.walk.done)) (seen_in seen) (listed n (drop at bytes)) (λ a. sym (h.marks a))
        ∙ ap (repeated_in (seen_in seen)) (sym are)
        ∙ sym again-is)
        ∙ sym next-is

    pub repeats-next :
        {marks : List ℕ} {again twice : Bool}
        → s < 256
        → standing bytes s ≡ true
        → again ≡ repeated_in (seen_in seen) (tab n (λ x. word (take (length bytes - at) (drop at bytes)) (x * 2 + 1)))
        → Marked (tab n (λ x. word (take (length bytes - at) (drop at bytes)) (x * 2 + 1))) seen marks
        → twice ≡ repeated || again
        → Repeats bytes marks twice (at + (n * 2 + 1)) (s + 1)
    repeats-next {marks} more stands again-is marked twice-is =
        record {
          walk = walk-next h.walk below e more stands;
          size = marked.size ∙ h.size;
          marks = marks-more marks marked;
          repeats = repeats-more again-is twice-is;
        }

  pub repeats-end : 256 ≤ s → (ls : List (List ℕ)) → read_lists bytes 256 0 (drop 47 bytes) ≡ lists_read ls → repeated ≡ repeated_in nothing_seen (all_listed ls)
  repeats-end last ls read = sym h.repeats ∙ ap (λ (l : List (List ℕ)). repeated_in nothing_seen (all_listed l)) (walk-read h.walk last read)
