-- Laws of columns in the work space: column c of node k is column k * 16 + c of all, and a run of bytes replaced in the
-- part that starts with a node.
use Rattle.std.specs.Prelude.{ℕ, ◌+◌, ◌-◌, ◌*◌, ◌≤◌, ◌<◌, ◌≡◌, List, length, get_or, drop}
use Rattle.std.proofs.Common.{sym, ◌∙◌, append_assoc, append-nil, add_assoc, arith, length-drop, drop_of_length-le, take-add, drop-drop}
use borrow.Rule.Slice.PartMut.{put_mid, mid_of}
use Rattle.std.proofs.Math.Seq.{paste}
use Rattle.bits.specs.Part.{part-from}
use Rattle.planes.specs.Storage.{column_at as column_of_width, column-part, column-byte as byte-of-width, column-size as size-of-width, column-is as is-of-width}
use Rattle.stored_formula.specs.ColumnPlace.{column_at}
use Rattle.admission.specs.Admission.{formula_size}

-- in the part from `start` on: in the whole
pub lent-paste :
    (work column : List ℕ) (start at n : ℕ)
    → start + (at + n) ≤ length work
    → put_mid start (length work - start) work (paste (mid_of start (length work - start) work) at column n)
    ≡ paste work (start + at) column n
lent-paste work column start at n fits =
    let rest = length-drop start work in
    let tail = drop_of_length-le (drop start work) {i = length work - start} (omega arith) in
    rw (part-from work start, tail) (simp (append-nil, append_assoc, take-add start at work, drop-drop (at + n) start work, add_assoc))

-- ---- column c of node k, and its byte i

place : (k c : ℕ) → (k * 16 + c) * 64 ≡ k * formula_size + c * 64
place k c = omega arith

pub column-number : (work : List ℕ) (k c : ℕ) → column_at work k c ≡ column_of_width 64 work (k * 16 + c)
unfolding column_at
column-number work k c = sym (column-part 64 work (k * 16 + c) ∙ rw (place k c))

pub column-byte : (work : List ℕ) (k c i : ℕ) → i < 64 → get_or (column_at work k c) i 0 ≡ get_or work (k * formula_size + c * 64 + i) 0
column-byte work k c i h = rw (column-number work k c, ← place k c) (byte-of-width 64 work (k * 16 + c) i h)

pub column-size : (work : List ℕ) (k c : ℕ) → k * formula_size + c * 64 + 64 ≤ length work → length (column_at work k c) ≡ 64
column-size work k c h = rw (column-number work k c) (size-of-width 64 work (k * 16 + c) (omega arith))

-- a column is known by its bytes
pub column-is :
    (work : List ℕ) (k c : ℕ) (column : List ℕ)
    → k * formula_size + c * 64 + 64 ≤ length work
    → length column ≡ 64
    → ((i : ℕ) → i < 64 → get_or work (k * formula_size + c * 64 + i) 0 ≡ get_or column i 0)
    → column_at work k c ≡ column
column-is work k c column fits long same = column-number work k c ∙ is-of-width 64 work (k * 16 + c) column (omega arith) long (λ i h. rw (place k c) (same i h))
