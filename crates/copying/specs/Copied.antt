-- A list with a run of elements replaced by the first n of another, element by element.
use Rattle.std.specs.Prelude.{ℕ, ◌+◌, ◌-◌, ◌≤◌, ◌<◌, ◌≡◌, List, ◌++◌, ◌⊎◌, length, get_or, take, drop}
use Rattle.std.proofs.Common.{sym, ap, ◌∙◌, append-nil, inl, inr, arith, length-append, drop_of_length-le, length-take-le, get_or-take, get_or-drop, get_or-append-add}
use Rattle.std.proofs.Math.ListN.{get_or-append}
use Rattle.std.proofs.Math.Seq.{paste}

module _ (old source : List ℕ) (at n : ℕ) (fits : at + n ≤ length old) (enough : n ≤ length source) where
  front_length : length (take at old ++ take n source) ≡ at + n
  front_length =
      let a = length-take-le at old (omega arith) in
      let b = length-take-le n source enough in
      length-append (take at old) (take n source) ∙ omega arith

  pub paste-inside : (i : ℕ) → i < n → get_or (paste old at source n) (at + i) 0 ≡ get_or source i 0
  paste-inside i h =
      let before = length-take-le at old (omega arith) in
      let front = front_length in
      get_or-append (take at old ++ take n source) (drop (at + n) old) 0 (at + i) (omega arith)
      ∙ ap (λ (k : ℕ). get_or (take at old ++ take n source) (k + i) 0) (sym before)
      ∙ get_or-append-add (take at old) (take n source) i 0
      ∙ get_or-take n source i 0 h

  pub paste-outside : (i : ℕ) → (i < at) ⊎ (at + n ≤ i) → get_or (paste old at source n) i 0 ≡ get_or old i 0
  paste-outside i (inl h) =
      let before = length-take-le at old (omega arith) in
      let front = front_length in
      get_or-append (take at old ++ take n source) (drop (at + n) old) 0 i (omega arith)
      ∙ get_or-append (take at old) (take n source) 0 i (omega arith)
      ∙ get_or-take at old i 0 h
  paste-outside i (inr h) =
      let front = front_length in
      let place : i ≡ length (take at old ++ take n source) + (i - (at + n)) = omega arith in
      let back : at + n + (i - (at + n)) ≡ i = omega arith in
      ap (λ (k : ℕ). get_or (paste old at source n) k 0) place
      ∙ get_or-append-add (take at old ++ take n source) (drop (at + n) old) (i - (at + n)) 0
      ∙ get_or-drop (at + n) old (i - (at + n)) 0
      ∙ ap (λ (k : ℕ). get_or old k 0) back

-- from the front
pub paste-front : (old source : List ℕ) (n : ℕ) → n ≤ length old → n ≤ length source → (i : ℕ) → i < n → get_or (paste old 0 source n) i 0 ≡ get_or source i 0
paste-front old source n fits enough i h =
    let place : 0 + i ≡ i = omega arith in
    rw place at (paste-inside old source 0 n (omega arith) enough i h)

-- all elements replaced
pub paste-whole : (old source : List ℕ) (n : ℕ) → length old ≡ n → paste old 0 source n ≡ take n source
paste-whole old source n size =
    let none = drop_of_length-le old {i = 0 + n} (omega arith) in
    rw none (append-nil (take n source))
