-- How much of a file its acceptance depends on: its first 323 bytes.
use Rattle.std.specs.Prelude.{ℕ, zero, suc, ◌+◌, ◌*◌, ◌≤◌, ◌<◌, ◌≡◌, refl, Bool, not, List, [], ◌∷◌, ◌++◌, length, take, drop, Result, Err, Ok}
use Rattle.std.proofs.Common.{sym, ap, ◌∙◌, arith, le-ltb, length-drop, take-append-drop, length-take-le, take_all}
use Rattle.std.proofs.Math.Decide.{dec_le}
use Rattle.std.proofs.lemmas.List.{drop-append-le}
use Rattle.bits.specs.Range.{in_range}
use Rattle.refusal.specs.Chain.{refuse}
use Rattle.refusal.specs.declared.Refusal.TheVariants.{HeaderTruncated, RelationCount, NodeCount}
use Rattle.refusal.specs.Several.{several_read as nodes_read, several_refused as nodes_refused, precede}
use Rattle.node.specs.ReadNode.{read_node, Read}
use Rattle.expression_file.specs.ReadFile.{PlacedNode, Nodes, follow, read_nodes, header, collect, after_header, parse, answer, acceptance, Accepted}
use Rattle.node.specs.Reading.{node-legal}
use Rattle.node.proofs.Enough.{node-enough}
use Rattle.expression_file.specs.Accepted.{header-counts}
use Rattle.refusal.specs.declared.Refusal.{Refusal}
use Rattle.node.specs.declared.nodes.Decoding.{Decoding}
use Rattle.expression_file.specs.declared.files.Header.{Header}

-- ---- so many nodes: more than five bytes each are enough

-- the answer does not depend on the entries
pub answer-precede : (m n : ℕ) (e : PlacedNode) (ns : Nodes) → answer (collect m n (precede e ns)) ≡ answer (collect m n ns)
answer-precede m n e (nodes_refused r) = refl
answer-precede m n e (nodes_read es) = refl

nodes-enough : (m n count k : ℕ) (a b : List ℕ) → 5 * count < length a → answer (collect m n (read_nodes m count k (a ++ b))) ≡ answer (collect m n (read_nodes m count k a))
unfolding read_nodes
nodes-enough m n zero k [] b h = absurd (omega arith)
nodes-enough m n zero k (x ∷ a) b h = refl
nodes-enough m n (suc count) k a b h =
    ap (λ (reading : Result Decoding Refusal). answer (collect m n (follow reading (a ++ b) (λ rest. read_nodes m count (k + 1) rest)))) (node-enough m k a b (omega arith))
    ∙ go (nodes-enough m n count (k + 1)) (read_node m k a) refl
  where
    go :
        ((a b : List ℕ)
        → 5 * count < length a
        → answer (collect m n (read_nodes m count (k + 1) (a ++ b))) ≡ answer (collect m n (read_nodes m count (k + 1) a)))
        → (reading : Result Decoding Refusal)
        → read_node m k a ≡ reading
        → answer (collect m n (follow reading (a ++ b) (λ rest. read_nodes m count (k + 1) rest)))
        ≡ answer (collect m n (follow reading a (λ rest. read_nodes m count (k + 1) rest)))
    go rest (Err r) e = refl
    go rest (Ok d) e =
        let most = (node-legal m k a d.node d.size e).most in
        let left = length-drop d.size a in
        answer-precede m n _ (read_nodes m count (k + 1) (drop d.size (a ++ b)))
        ∙ ap (λ (bytes : List ℕ). answer (collect m n (read_nodes m count (k + 1) bytes))) (drop-append-le d.size a b (omega arith))
        ∙ rest (drop d.size a) b (omega arith)
        ∙ sym (answer-precede m n _ (read_nodes m count (k + 1) (drop d.size a)))

-- ---- the file

-- the counts do not depend on what follows them
pub header-enough : (a b : List ℕ) → 2 ≤ length a → header (a ++ b) ≡ header a
unfolding header
header-enough [] b h = absurd (omega arith)
header-enough (x ∷ []) b h = absurd (omega arith)
header-enough (x ∷ y ∷ a) b h =
    let next =
    refuse Err (not (in_range 1 8 x)) RelationCount (refuse Err (not (in_range 1 64 y)) NodeCount (Accepted x y))
    in
    ap (λ (t : Bool). refuse Err t HeaderTruncated next) (le-ltb (length (x ∷ y ∷ (a ++ b))) 2 (omega arith) ∙ sym (le-ltb (length (x ∷ y ∷ a)) 2 (omega arith)))

long-enough : (a b : List ℕ) → 323 ≤ length a → acceptance (a ++ b) ≡ acceptance a
unfolding acceptance parse
long-enough a b h =
    ap (λ (x : Result Header Refusal). answer (after_header x (a ++ b))) (header-enough a b (omega arith)) ∙ go (header a) refl
  where
    go : (x : Result Header Refusal) → header a ≡ x → answer (after_header x (a ++ b)) ≡ answer (after_header x a)
    go (Err r) e = refl
    go (Ok counts) e =
        let most = (header-counts a counts.relations counts.nodes e).nodes.1 in
        let left = length-drop 2 a in
        ap (λ (bytes : List ℕ). answer (collect counts.relations counts.nodes (read_nodes counts.relations counts.nodes 0 bytes))) (drop-append-le 2 a b (omega arith))
        ∙ nodes-enough counts.relations counts.nodes counts.nodes 0 (drop 2 a) b (omega arith)

-- no acceptance and no refusal depends on later bytes
pub enough : (file : List ℕ) → acceptance (take 323 file) ≡ acceptance file
enough file = go (dec_le (length file) 323)
  where
    go : Dec (length file ≤ 323) → acceptance (take 323 file) ≡ acceptance file
    go (yes h) = ap acceptance (take_all 323 file h)
    go (no h) =
        let size = length-take-le 323 file (omega arith) in
        sym (long-enough (take 323 file) (drop 323 file) (omega arith)) ∙ ap acceptance (take-append-drop 323 file)
