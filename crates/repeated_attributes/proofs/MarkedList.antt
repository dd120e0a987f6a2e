-- A list that is being marked: i of its n attributes are.
use Prim.Native.Nat.{ℕ, suc, ◌+◌, ◌-◌, ◌*◌, ◌/◌, ◌%◌, ◌^◌, ◌≤◌, ◌<◌}
use mathlib.Core.Path.{◌≡◌, refl, sym, ap, ◌∙◌}
use mathlib.Core.Bool.{Bool, false, ◌||◌, or_assoc, or-false}
use mathlib.Core.List.{List, [], ◌∷◌}
use native.Mathlib.Nat.{zero-add, sub-zero}
use native.Mathlib.Numerals.{add-one}
use native.Mathlib.Omega.{arith}
use lib.Bits.{bit_or}
use lib.Dec.{eqb}
use lib.ListN.{length, get_or, length-set}
use Rattle.bits.specs.Rising.{member, member-append}
use Rattle.bits.specs.Tab.{tab, tab-none, tab-from, tab-more}
use Rattle.instantiation.specs.Seen.{repeated_in, seen_in, Marked}
use Rattle.instantiation.specs.SeenLaws.{repeated-same, with_mark, mark-one}

-- what is marked, and what the whole list gives: a repeat so far, or one to come
pub record Marking (n : ℕ) (f : ℕ → ℕ) (before now : List ℕ) (repeated : Bool) (i : ℕ) : Type 0 where
  pub most : i ≤ n
  pub size : length now ≡ length before
  pub marks : (a : ℕ) → seen_in now a ≡ seen_in before a || member a (tab i f)
  pub rest : repeated_in (seen_in before) (tab n f) ≡ repeated || repeated_in (seen_in now) (tab (n - i) (λ j. f (i + j)))

pub marking-first : (n : ℕ) (f : ℕ → ℕ) (before : List ℕ) → Marking n f before before false 0
marking-first n f before =
    record {
      most = omega arith;
      size = refl;
      marks = λ a. sym (ap (λ (l : List ℕ). seen_in before a || member a l) (tab-none f) ∙ or-false (seen_in before a));
      rest = simp (sub-zero, zero-add);
    }

module _ {n : ℕ} {f : ℕ → ℕ} {before now : List ℕ} {repeated : Bool} {i : ℕ} (m : Marking n f before now repeated i) where
  pub marking-next : {x : ℕ} {next : Bool} → i < n → x / 8 < length now → x ≡ f i → next ≡ repeated || seen_in now x →
      Marking n f before (with_mark now x) next (i + 1)
  marking-next {x} {next} more inside x-is next-is =
      record {
        most = omega arith;
        size = length-set now (x / 8) (bit_or (get_or now (x / 8) 0) (1 * 2 ^ (x % 8) % 256)) ∙ m.size;
        marks = λ a.
            mark-one now x inside a
            ∙ ap (λ (b : Bool). b || eqb a x) (m.marks a)
            ∙ or_assoc (seen_in before a) (member a (tab i f)) (eqb a x)
            ∙ ap (λ (b : Bool). seen_in before a || b) (sym (tab-member a));
        rest =
            m.rest
            ∙ ap (λ (b : Bool). repeated || b) rest-is
            ∙ sym (or_assoc repeated (seen_in now x) to-come)
            ∙ ap (λ (b : Bool). b || to-come) (sym next-is);
      }
    where
      -- what the attributes after x give
      to-come : Bool
      to-come = repeated_in (seen_in (with_mark now x)) (tab (n - (i + 1)) (λ j. f (i + 1 + j)))

      tab-member : (a : ℕ) → member a (tab (i + 1) f) ≡ member a (tab i f) || eqb a x
      tab-member a =
          ap (λ (k : ℕ). member a (tab k f)) (add-one i) ∙ ap (member a) (tab-more i f) ∙ member-append a (tab i f) (f i ∷ [])
          ∙ ap (λ (b : Bool). member a (tab i f) || b) (or-false (eqb a (f i)) ∙ ap (eqb a) (sym x-is))

      rest-is : repeated_in (seen_in now) (tab (n - i) (λ j. f (i + j))) ≡ seen_in now x || to-come
      rest-is =
          let left : n - i ≡ suc (n - (i + 1)) = omega arith in
          rw (left, tab-from (n - (i + 1)) i f, ← x-is)
          (ap (λ (b : Bool). seen_in now x || b)
          (repeated-same (λ a. seen_in now a || eqb a x) (seen_in (with_mark now x)) (tab (n - (i + 1)) (λ j. f (i + 1 + j)))
          (λ a. sym (mark-one now x inside a))))

  pub marking-end : n ≤ i → (repeated ≡ repeated_in (seen_in before) (tab n f)) × Marked (tab n f) before now
  marking-end all =
      let most = m.most in
      let none : n - i ≡ 0 = omega arith in
      let same : i ≡ n = omega arith in
      (sym (m.rest ∙ rw (none, tab-none (λ j. f (i + j))) (or-false repeated)), record { size = m.size; marks = λ a. rw same at (m.marks a) })
