-- Where a column lies in the work space (FORMAT 3.3, 3.4).
use Rattle.std.specs.Prelude.{ℕ, ◌+◌, ◌-◌, ◌*◌, ◌≡◌, List, length, take, drop}
use Rattle.std.proofs.Common.{ap, ◌∙◌}
use Rattle.std.proofs.Math.Seq.{paste}
use Rattle.bits.specs.Part.{part-from}
use Rattle.copying.specs.Copied.{paste-whole}
use Rattle.admission.specs.Admission.{formula_size}

-- FORMAT 3.3, 3.4: column c of node k, the 64 bytes from 1,024 k + 64 c on
unfoldable pub column_at : List ℕ → ℕ → ℕ → List ℕ
column_at work k c = take 64 (drop (k * formula_size + c * 64) work)

-- a copy of its bytes, from the part of the work space that starts with them
pub column-copied : (old work : List ℕ) (k c : ℕ) → length old ≡ 64 → paste old 0 (take (length work - (k * formula_size + c * 64)) (drop (k * formula_size + c * 64) work)) 64 ≡ column_at work k c
unfolding column_at
column-copied old work k c size =
    let at = k * formula_size + c * 64 in
    paste-whole old (take (length work - at) (drop at work)) 64 size ∙ ap (take 64) (part-from work at)
