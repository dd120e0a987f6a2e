-- A formula that is written column by column.
use Rattle.std.specs.Prelude.{ℕ, ◌+◌, ◌-◌, ◌*◌, ◌≤◌, ◌<◌, ◌≡◌, List, length}
use Rattle.std.proofs.Common.{sym, ◌∙◌, le_refl, arith}
use borrow.Rule.Slice.PartMut.{put_mid, mid_of, mid_len}
use Rattle.std.proofs.Math.Seq.{paste}
use Rattle.planes.specs.Storage.{Columns as ColumnsOfWidth, columns-none as none-of-width, columns-more as more-of-width, columns-before as before-of-width}
use Rattle.stored_formula.specs.ColumnPlace.{column_at}
use Rattle.stored_formula.specs.ColumnPlaceLaws.{lent-paste, column-number}
use Rattle.admission.specs.Admission.{formula_size}

-- the first c columns of the formula that starts there are these; every other byte is as it was
abbrev pub Columns : (ℕ → List ℕ) → ℕ → ℕ → List ℕ → List ℕ → Type 0
Columns column start c old work = ColumnsOfWidth 64 column start c old work

module _ (column : ℕ → List ℕ) (start : ℕ) (old : List ℕ) where
  pub columns-none : Columns column start 0 old old
  columns-none = none-of-width 64 column start old

  -- one column more, in the part of the work space that starts with the node
  columns-more : (c : ℕ) (work next part : List ℕ) → c < 16 → start + formula_size ≤ length work → length next ≡ 64 → next ≡ column c
      → part ≡ paste (mid_of start (length work - start) work) (c * 64) next 64 → Columns column start c old work → Columns column start (c + 1) old (put_mid start (length work - start) work part)
  columns-more c work next part few fits long is written w =
      rw (written, lent-paste work next start (c * 64) 64 (omega arith))
      (more-of-width 64 column start old c work next (omega arith) long is w)

  -- the formulas before it are as they were
  columns-before : (c l d : ℕ) (work : List ℕ) → l * formula_size + formula_size ≤ start → start ≤ length old → d < 16 → Columns column start c old work → column_at work l d ≡ column_at old l d
  columns-before c l d work below fits few w =
      column-number work l d
      ∙ before-of-width 64 column start old c (l * 16 + d) work (omega arith) fits w
      ∙ sym (column-number old l d)

-- ---- a loop over the columns of node k, whatever its operator

-- it stands at column c: those before it are written
pub record ColumnLoop (column : ℕ → List ℕ) (k c : ℕ) (old work : List ℕ) : Type 0 where
  pub most : c ≤ 16
  pub room : k * formula_size + formula_size ≤ length old
  pub written : Columns column (k * formula_size) c old work

pub columns-first : (column : ℕ → List ℕ) (k : ℕ) (old : List ℕ) → k * formula_size + formula_size ≤ length old → ColumnLoop column k 0 old old
columns-first column k old room = record { most = omega arith; room = room; written = columns-none column (k * formula_size) old }

module _ {column : ℕ → List ℕ} {k c : ℕ} {old work : List ℕ} (at : ColumnLoop column k c old work) where
  -- what it leaves has the same length
  pub columns-size : length work ≡ length old
  columns-size = at.written.size

  -- column c of an operand, an earlier node, can be read
  pub columns-read : (l : ℕ) → l < k → c < 16 → l * formula_size + c * 64 + 64 ≤ length work
  columns-read l below few = let size = columns-size in let room = at.room in omega arith

  -- the part that starts with the node can be lent, and column c written in it
  pub columns-start : k * formula_size ≤ length work
  columns-start = let size = columns-size in let room = at.room in omega arith

  pub columns-write : c < 16 → c * 64 + 64 ≤ length (mid_of (k * formula_size) (length work - k * formula_size) work)
  columns-write few =
      let part = mid_len (k * formula_size) (length work) work (le_refl (length work)) in
      let size = columns-size in
      let room = at.room in
      omega arith

  -- one column more: the operator makes column c, where its operands' columns, of earlier nodes, are as they were
  pub columns-next :
      (next part : List ℕ)
      → c < 16
      → length next ≡ 64
      → (((l : ℕ) → l < k → column_at work l c ≡ column_at old l c) → next ≡ column c)
      → part ≡ paste (mid_of (k * formula_size) (length work - k * formula_size) work) (c * 64) next 64
      → ColumnLoop column k (c + 1) old (put_mid (k * formula_size) (length work - k * formula_size) work part)
  columns-next next part few long made writes =
      let size = columns-size in
      let room = at.room in
      record {
        most = omega arith;
        room = room;
        written = columns-more column (k * formula_size) old c work next part few (omega arith) long
            (made λ l below. columns-before column (k * formula_size) old c l c work (omega arith) (omega arith) few at.written) writes at.written;
      }

  -- all are written
  pub columns-end : 16 ≤ c → Columns column (k * formula_size) 16 old work
  columns-end past =
      let most = at.most in
      let all : c ≡ 16 = omega arith in
      rw all at at.written
