-- The edited file (FORMAT 1.8): a file with the record of one node exchanged. It is accepted, with the same counts; its
-- other nodes and their records are the old ones.
use Rattle.std.specs.Prelude.{ℕ, suc, ◌+◌, ◌<◌, ◌≡◌, set, take}
use Rattle.std.proofs.Math.Path.{sym, ap, ap₂}
use Rattle.std.proofs.Common.{◌∙◌, zero-add, take-append-drop, drop_at, length-take-le, take-add, drop-drop}
use mathlib.Core.List.{List, ◌++◌, append_assoc}
use native.Mathlib.Omega.{arith}
use Rattle.std.proofs.Math.ListN.{length, get_or, drop}
use Rattle.std.proofs.Math.Seq.{get_or-set_same, get_or-set_other}
use Rattle.node.specs.declared.nodes.Node.{Node}
use Rattle.node.specs.ReadNode.{read_node, Read}
use Rattle.expression_file.specs.ReadFile.{PlacedNode, read_nodes, header, acceptance, placed_nodes, placed_at, total, start_at, Accepted}
use Rattle.expression_file.specs.Accepted.{accepted-file, FileRead, read-file}
use Rattle.expression_file.specs.Enough.{header-enough}
use Rattle.expression_file.specs.Walk.{no_node, total-more}
use Rattle.expression_file.specs.Exchanged.{exchange-read, exchanged}

-- ---- the file

-- node k of an accepted file, and a record that is read whole as a node in its place
module _
    (file : List ℕ) (m n : ℕ) (accepted : acceptance file ≡ Accepted m n)
    (k : ℕ) (below : k < n)
    (replacement : List ℕ) (node : Node) (reads : read_node m k replacement ≡ Read node (length replacement))
  where
    -- the counts, and what follows them
    after-counts :
        exchanged file k replacement
        ≡ take 2 file ++ (take (total (take k (placed_nodes file))) (drop 2 file) ++ (replacement ++ drop (total (take (suc k) (placed_nodes file))) (drop 2 file)))
    unfolding exchanged start_at placed_at
    after-counts =
        let before = total (take k (placed_nodes file)) in
        let all = (accepted-file file m n accepted).count in
        let more = total-more (placed_nodes file) k no_node (omega arith) in
        let place : 2 + before + length (get_or (placed_nodes file) k no_node).bytes ≡ 2 + total (take (suc k) (placed_nodes file)) = omega arith in
        ap₂ (λ (a b : List ℕ). a ++ (replacement ++ b)) (take-add 2 before file) (ap (λ (i : ℕ). drop i file) place ∙ sym (drop-drop (total (take (suc k) (placed_nodes file))) 2 file))
        ∙ append_assoc (take 2 file) (take before (drop 2 file)) (replacement ++ drop (total (take (suc k) (placed_nodes file))) (drop 2 file))

    exchanged-file : FileRead (exchanged file k replacement) m n (set (placed_nodes file) k (record { node = node; bytes = replacement }))
    exchanged-file =
        let whole = accepted-file file m n accepted in
        let two = length-take-le 2 file whole.counts.header in
        let nodes = take (total (take k (placed_nodes file))) (drop 2 file) ++ (replacement ++ drop (total (take (suc k) (placed_nodes file))) (drop 2 file)) in
        let here : read_node m (0 + k) replacement ≡ Read node (length replacement) = rw (zero-add k) reads in
        let counts = header-enough (take 2 file) nodes (omega arith) ∙ sym (header-enough (take 2 file) (drop 2 file) (omega arith)) ∙ ap header (take-append-drop 2 file) ∙ whole.header_read in
        let exchange = ap (read_nodes m n 0) (drop_at (take 2 file) nodes 2 two) ∙ exchange-read m k n 0 (drop 2 file) replacement node (placed_nodes file) whole.nodes below here in
        rw after-counts (read-file (take 2 file ++ nodes) m n _ counts exchange)

    -- it is accepted, with the same counts
    pub exchanged-accepted : acceptance (exchanged file k replacement) ≡ Accepted m n
    exchanged-accepted = exchanged-file.accepted

    -- node k is the record's
    pub exchanged-here : placed_at (exchanged file k replacement) k ≡ record { node = node; bytes = replacement }
    unfolding placed_at
    exchanged-here =
        let all = (accepted-file file m n accepted).count in
        ap (λ (es : List PlacedNode). get_or es k no_node) exchanged-file.nodes ∙ get_or-set_same (placed_nodes file) k (record { node = node; bytes = replacement }) no_node (omega arith)

    -- every other is as it was
    pub exchanged-other : (j : ℕ) → (j ≡ k → ⊥) → placed_at (exchanged file k replacement) j ≡ placed_at file j
    unfolding placed_at
    exchanged-other j other = ap (λ (es : List PlacedNode). get_or es j no_node) exchanged-file.nodes ∙ get_or-set_other (placed_nodes file) k j (record { node = node; bytes = replacement }) no_node other
