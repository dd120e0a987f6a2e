-- The relations that have one of the entries, gathered entry by entry.
use Prim.Native.Nat.{ℕ, suc, ◌+◌, ◌%◌, ◌≤◌, ◌<◌}
use mathlib.Core.Path.{◌≡◌, sym, ap, ◌∙◌}
use mathlib.Core.Bool.{Bool, ◌||◌, or_assoc, or-false}
use mathlib.Core.List.{List, ◌∷◌}
use native.Mathlib.Numerals.{add-one}
use native.Mathlib.Omega.{arith}
use lib.Bits.{bit_or}
use lib.ListN.{length, get_or, take, drop, drop_of_length-le}
use lib.Seq.{drop-cons, get_or-take, length-take-le}
use Rattle.bits.specs.Bit.{bit, bit-none, bit-or, bit-low}
use Rattle.filled_schema.specs.FilledSchema.{holds_some, SomeHeld}

-- those of the entries before i are gathered, and the others are to come
abbrev pub Gathered : List ℕ → ℕ → ℕ → ℕ → Type 0
Gathered items count s i = (r : ℕ) → r < 8 → bit s r || holds_some r (drop i (take count items)) ≡ holds_some r (take count items)

module _ (items : List ℕ) (count : ℕ) where
  pub gathered_none : Gathered items count 0 0
  gathered_none r h = ap (λ (b : Bool). b || holds_some r (take count items)) (bit-none r)

  module _ (enough : count ≤ length items) (s i : ℕ) (h : Gathered items count s i) where
    pub gathered_next : i < count → Gathered items count (bit_or s (get_or items i 0 % 256)) (i + 1)
    gathered_next less r small =
        let size = length-take-le count items enough in
        let here : drop i (take count items)
        ≡ get_or items i 0 ∷ drop (suc i) (take count items) = drop-cons (take count items) i 0 (omega arith)
        ∙ ap (λ (e : ℕ). e ∷ drop (suc i) (take count items)) (get_or-take count items i 0 less) in
        ap (λ (j : ℕ). bit (bit_or s (get_or items i 0 % 256)) r || holds_some r (drop j (take count items))) (add-one i)
        ∙ ap (λ (b : Bool). b || holds_some r (drop (suc i) (take count items)))
        (bit-or s (get_or items i 0 % 256) r ∙ ap (λ (b : Bool). bit s r || b) (bit-low 8 (get_or items i 0) r small))
        ∙ or_assoc (bit s r) (bit (get_or items i 0) r) (holds_some r (drop (suc i) (take count items)))
        ∙ ap (λ (l : List ℕ). bit s r || holds_some r l) (sym here)
        ∙ h r small

    pub gathered-all : count ≤ i → SomeHeld s (take count items)
    gathered-all last r small =
        let size = length-take-le count items enough in
        sym (or-false (bit s r))
        ∙ ap (λ (l : List ℕ). bit s r || holds_some r l) (sym (drop_of_length-le (take count items) {i = i} (omega arith)))
        ∙ h r small
