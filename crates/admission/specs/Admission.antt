-- The tests after a file is accepted, one after the other: 11, 12, 13 (FORMAT 8.5).
use Rattle.std.specs.Prelude.{ℕ, ◌*◌, Bool, List, ltb, leb, Result, Err, Ok}
use Rattle.refusal.specs.Chain.{refuse}
use Rattle.refusal.specs.declared.Refusal.{Refusal}
use Rattle.refusal.specs.declared.Refusal.TheVariants.{NodeNumber, WorkSpace, ResultSlice}
use Rattle.expression_file.specs.ReadFile.{acceptance, Accepted}
use Rattle.expression_file.specs.declared.files.Header.{Header}

-- FORMAT 9.6: the bytes of a node's formula: 16 columns
abbrev pub formula_size : ℕ
formula_size = 1024

-- FORMAT 8.2: one more test after those before it: by the node count, whether refusal q applies
unfoldable pub tested : Result Header Refusal → (ℕ → Bool) → Refusal → Result Header Refusal
tested (Err r) test q = Err r
tested (Ok h) test q = refuse Err (test h.nodes) q (Accepted h.relations h.nodes)

-- what an operation gives: the refusal, or what comes with m relations and n nodes
abbrev pub after : {A : Type 0} → Result Header Refusal → (Refusal → A) → (ℕ → ℕ → A) → A
after (Err r) stop go = stop r
after (Ok h) stop go = go h.relations h.nodes

-- FORMAT 8.5: 1 to 11; the node asked for is below n
unfoldable pub asked : List ℕ → ℕ → Result Header Refusal
asked file k = tested (acceptance file) (λ n. leb n k) NodeNumber

-- FORMAT 8.5: 12; a work space of so many bytes has at least 1,024 n
unfoldable pub spaced : Result Header Refusal → ℕ → Result Header Refusal
spaced a space = tested a (λ n. ltb space (n * formula_size)) WorkSpace

-- FORMAT 8.5: 1 to 12, for the operations that take a node
unfoldable pub admitted : List ℕ → ℕ → ℕ → Result Header Refusal
admitted file k space = spaced (asked file k) space

-- FORMAT 8.5: 13; a result slice of so many bytes has at least that many
unfoldable pub sliced : Result Header Refusal → ℕ → ℕ → Result Header Refusal
sliced a size least = tested a (λ n. ltb size least) ResultSlice
