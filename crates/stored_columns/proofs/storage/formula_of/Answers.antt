use Rattle.std.proofs.Common.{◌≡◌, ℕ, ◌+◌, ◌*◌, ◌-◌, ◌<◌, List, take, drop, replicate, length, length-drop, le_of_eq, take_all, arith, ap, sym, ◌∙◌}
use Rattle.std.proofs.lemmas.List.{take-take, drop-take, drop-drop, length-replicate}
use Rattle.copying.specs.Copied.{paste-whole}
use Rattle.stored_formula.specs.ColumnPlace.{column_at, column-copied}
use Rattle.stored_columns.proofs.storage.formula_of.Goals as goal

-- a column's bytes
column-is : (work : List ℕ) (k c : ℕ) → column_at work k c ≡ take 64 (drop (k * 1024 + c * 64) work)
column-is work k c =
    let none = replicate {A = ℕ} 64 0 in
    let size = length-replicate {A = ℕ} 64 0 in
    let start = k * 1024 + c * 64 in
    let rest = take (length work - start) (drop start work) in
    sym (column-copied none work k c size)
    ∙ paste-whole none rest 64 size
    ∙ ap (take 64) (take_all (length work - start) (drop start work) (le_of_eq (length-drop start work)))

-- a column of a node's formula, taken by itself, is the node's
alone : (work : List ℕ) (k c : ℕ) → c < 16 → column_at (take 1024 (drop (k * 1024) work)) 0 c ≡ column_at work k c
alone work k c h =
    let rest : c * 64 + (1024 - c * 64) ≡ 1024 = omega arith in
    let first : 0 + c * 64 ≡ c * 64 = omega arith in
    column-is (take 1024 (drop (k * 1024) work)) 0 c
    ∙ ap (λ (n : ℕ). take 64 (drop n (take 1024 (drop (k * 1024) work)))) first
    ∙ ap (λ (n : ℕ). take 64 (drop (c * 64) (take n (drop (k * 1024) work)))) (sym rest)
    ∙ ap (take 64) (drop-take (c * 64) (1024 - c * 64) (drop (k * 1024) work))
    ∙ take-take 64 (1024 - c * 64) (drop (c * 64) (drop (k * 1024) work)) (omega arith)
    ∙ ap (take 64) (drop-drop (c * 64) (k * 1024) work)
    ∙ sym (column-is work k c)

pub returns : goal.returns
returns c =
    let work = c.args.work.now in
    let start = c.args.node * 1024 in
    let fits = c.requires in
    let is = (rw c.unwrap.ensures at c.first_chunk.ensures.cases).same ∙ take-take 1024 (length work - start) (drop start work) (omega arith) in
    λ i h. ap (λ (l : List ℕ). column_at l 0 i) is ∙ alone c.args.work.now c.args.node i h
