-- The edited file (FORMAT 1.8): a file with the record of one node exchanged. It is accepted, with the same counts; its
-- other nodes and their records are the old ones.
use Rattle.std.specs.Prelude.{ℕ, zero, suc, ◌+◌, ◌<◌, ◌≡◌, refl, set, take}
use Rattle.std.proofs.Math.Path.{sym, ap, ap₂}
use Rattle.std.proofs.Common.{◌∙◌, add-zero, take-add, drop-drop}
use mathlib.Core.List.{List, ◌++◌, append_assoc}
use native.Mathlib.Omega.{arith}
use Rattle.std.proofs.Math.ListN.{length, drop}
use Rattle.refusal.specs.Several.{several_read as nodes_read}
use Rattle.node.specs.declared.nodes.Node.{Node}
use Rattle.node.specs.ReadNode.{read_node, Read}
use Rattle.node.proofs.Enough.{node-part}
use Rattle.expression_file.specs.ReadFile.{PlacedNode, read_nodes, size_at, total, start_at}
use Rattle.expression_file.specs.Accepted.{first-node, front-node}

-- FORMAT 1.8: the bytes before node k, the record, the bytes after node k
unfoldable pub exchanged : List ℕ → ℕ → List ℕ → List ℕ
exchanged file k replacement = take (start_at file k) file ++ (replacement ++ drop (start_at file k + size_at file k) file)

pub exchanged-parts : (file : List ℕ) (k : ℕ) (replacement : List ℕ) → exchanged file k replacement ≡ take (start_at file k) file ++ (replacement ++ drop (start_at file k + size_at file k) file)
unfolding exchanged
exchanged-parts file k replacement = refl

-- ---- nodes one after the other

-- node i of nodes from node k on, exchanged
pub exchange-read :
    (m i count k : ℕ) (bytes replacement : List ℕ) (node : Node) (es : List PlacedNode)
    → read_nodes m count k bytes ≡ nodes_read es
    → i < count
    → read_node m (k + i) replacement ≡ Read node (length replacement)
    → read_nodes m count k (take (total (take i es)) bytes ++ (replacement ++ drop (total (take (suc i) es)) bytes))
    ≡ nodes_read (set es i (record { node = node; bytes = replacement }))
exchange-read m i zero k bytes replacement node es e h reads = absurd (omega arith)
exchange-read m zero (suc count) k bytes replacement node es e h reads =
    let f = first-node m count k bytes es e in
    let size : length f.first.bytes + 0 ≡ length f.first.bytes = omega arith in
    rw (f.entries, size) (front-node m count k replacement (drop (length f.first.bytes) bytes) node f.others (rw (add-zero k) at reads) f.rest)
exchange-read m (suc i) (suc count) k bytes replacement node es e h reads =
    let f = first-node m count k bytes es e in
    let size = length f.first.bytes in
    let before = total (take i f.others) in
    let after = total (take (suc i) f.others) in
    let place : k + suc i ≡ k + 1 + i = omega arith in
    let others = exchange-read m i count (k + 1) (drop size bytes) replacement node f.others f.rest (omega arith) (rw place at reads) in
    let own : read_node m k f.first.bytes ≡ Read f.first.node size = ap (read_node m k) f.part ∙ node-part m k bytes f.first.node size f.reading in
    let apart : take (size + before) bytes ++ (replacement ++ drop (size + after) bytes) ≡ f.first.bytes ++ (take before (drop size bytes) ++ (replacement ++ drop after (drop size bytes))) =
    ap₂ (λ (a b : List ℕ). a ++ (replacement ++ b)) (take-add size before bytes ∙ ap (λ (a : List ℕ). a ++ take before (drop size bytes)) (sym f.part)) (sym (drop-drop after size bytes))
    ∙ append_assoc f.first.bytes (take before (drop size bytes)) (replacement ++ drop after (drop size bytes)) in
    rw f.entries (ap (read_nodes m (suc count) k) apart ∙ front-node m count k f.first.bytes _ f.first.node _ own others)
