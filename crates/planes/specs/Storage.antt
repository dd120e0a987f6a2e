-- A work space of columns of w bytes each, for any w, and columns that are written one after the other.
use Rattle.std.specs.Prelude.{ℕ, ◌+◌, ◌*◌, ◌≤◌, ◌<◌, ◌≡◌, List, ◌⊎◌, length, get_or, take, drop}
use Rattle.std.proofs.Math.Path.{refl}
use Rattle.std.proofs.Common.{sym, ap, ◌∙◌, inl, inr, eq-or-lt_of_le, add-mul, one-mul, arith, ext_get_or}
use Rattle.std.proofs.Math.Arith.{digits_lt}
use Rattle.std.proofs.Math.ListN.{length-drop}
use Rattle.std.proofs.Math.Seq.{length-take-le, get_or-take, get_or-drop, paste}
use Rattle.std.proofs.lemmas.List.Edits.{length-paste}
use Rattle.copying.specs.Copied.{paste-inside, paste-outside}

-- column q of all columns of w bytes in the work space
unfoldable pub column_at : ℕ → List ℕ → ℕ → List ℕ
column_at w work q = take w (drop (q * w) work)

-- the first c columns of those that start at `start` are these; every other byte is as it was
pub record Columns (w : ℕ) (column : ℕ → List ℕ) (start c : ℕ) (old work : List ℕ) : Type 0 where
  pub size : length work ≡ length old
  pub inside : (d i : ℕ) → d < c → i < w → get_or work (start + d * w + i) 0 ≡ get_or (column d) i 0
  pub outside : (i : ℕ) → (i < start) ⊎ (start + c * w ≤ i) → get_or work i 0 ≡ get_or old i 0

module _ (w : ℕ) where
  -- columns do not overlap
  apart : (d c i : ℕ) → i < w → d < c → d * w + i < c * w
  apart d c i hi h = digits_lt h hi

  one_more : (c : ℕ) → (c + 1) * w ≡ c * w + w
  one_more c = rw (add-mul c 1 w, one-mul w)

  pub column-part : (work : List ℕ) (q : ℕ) → column_at w work q ≡ take w (drop (q * w) work)
  unfolding column_at
  column-part work q = refl

  pub column-byte : (work : List ℕ) (q i : ℕ) → i < w → get_or (column_at w work q) i 0 ≡ get_or work (q * w + i) 0
  unfolding column_at
  column-byte work q i h = get_or-take w (drop (q * w) work) i 0 h ∙ get_or-drop (q * w) work i 0

  pub column-size : (work : List ℕ) (q : ℕ) → q * w + w ≤ length work → length (column_at w work q) ≡ w
  unfolding column_at
  column-size work q h = let rest = length-drop (q * w) work in length-take-le w (drop (q * w) work) (omega arith)

  -- a column is known by its bytes
  pub column-is : (work : List ℕ) (q : ℕ) (column : List ℕ) → q * w + w ≤ length work → length column ≡ w → ((i : ℕ) → i < w → get_or work (q * w + i) 0 ≡ get_or column i 0) → column_at w work q ≡ column
  column-is work q column fits long same =
      let size = column-size work q fits in
      ext_get_or 0 (column_at w work q) column (size ∙ sym long)
      (λ i h. let below : i < w = omega arith in column-byte work q i below ∙ same i below)

  -- ---- columns one after the other

  module _ (column : ℕ → List ℕ) (start : ℕ) (old : List ℕ) where
    pub columns-none : Columns w column start 0 old old
    columns-none = record { size = refl; inside = λ d i h below. absurd (omega arith); outside = λ i h. refl }

    -- one column more
    pub columns-more :
        (c : ℕ) (work next : List ℕ)
        → start + c * w + w ≤ length work
        → length next ≡ w
        → next ≡ column c
        → Columns w column start c old work
        → Columns w column start (c + 1) old (paste work (start + c * w) next w)
    columns-more c work next fits long is f =
        record {
          size = length-paste work (start + c * w) next w (omega arith) (omega arith) ∙ f.size;
          inside = λ d i h below. at d i below (eq-or-lt_of_le (le_of d h));
          outside = λ i h. paste-outside work next (start + c * w) w fits (omega arith) i (away i h) ∙ f.outside i (before i h);
        }
      where
        le_of : (d : ℕ) → d < c + 1 → d ≤ c
        le_of d h = omega arith

        away : (i : ℕ) → (i < start) ⊎ (start + (c + 1) * w ≤ i) → (i < start + c * w) ⊎ (start + c * w + w ≤ i)
        away i (inl h) = inl (omega arith)
        away i (inr h) = inr (let e = one_more c in omega arith)

        before : (i : ℕ) → (i < start) ⊎ (start + (c + 1) * w ≤ i) → (i < start) ⊎ (start + c * w ≤ i)
        before i (inl h) = inl h
        before i (inr h) = inr (let e = one_more c in omega arith)

        at : (d i : ℕ) → i < w → (d ≡ c) ⊎ (d < c) → get_or (paste work (start + c * w) next w) (start + d * w + i) 0 ≡ get_or (column d) i 0
        at d i below (inl e) =
            ap (λ (k : ℕ). get_or (paste work (start + c * w) next w) (start + k * w + i) 0) e
            ∙ paste-inside work next (start + c * w) w fits (omega arith) i below
            ∙ ap (λ (l : List ℕ). get_or l i 0) is
            ∙ ap (λ (k : ℕ). get_or (column k) i 0) (sym e)
        at d i below (inr h) = paste-outside work next (start + c * w) w fits (omega arith) (start + d * w + i) (inl (let l = apart d c i below h in omega arith)) ∙ f.inside d i h below

    -- a column before them is as it was
    pub columns-before : (c q : ℕ) (work : List ℕ) → q * w + w ≤ start → start ≤ length old → Columns w column start c old work → column_at w work q ≡ column_at w old q
    columns-before c q work below fits f =
        let size = f.size in
        column-is work q (column_at w old q) (omega arith) (column-size old q (omega arith))
        (λ i h. f.outside (q * w + i) (inl (omega arith)) ∙ sym (column-byte old q i h))
