-- The law of the walk over the nodes of an accepted file, for every loop over nodes: where it begins, what the next
-- step reads, where it ends.
use Rattle.std.specs.Prelude.{ℕ, zero, suc, ◌+◌, ◌-◌, ◌*◌, ◌≤◌, ◌<◌, true, ◌≡◌, refl, List, [], ◌∷◌, length, get_or, take, drop}
use Rattle.std.proofs.Common.{sym, ap, subst, ◌∙◌, le_refl, add-one, arith, length-drop, drop-drop, get_or-drop}
use Rattle.std.proofs.Math.Nat.{sub-zero, sub_self}
use Rattle.bits.specs.Part.{part-from, At, at_head}
use Rattle.node.specs.declared.nodes.Node.TheVariants.{Relation}
use Rattle.node.specs.ReadNode.{size_of, legal, Checked, node_of, read_node, Read}
use Rattle.expression_file.specs.ReadFile.{PlacedNode, read_nodes, acceptance, placed_nodes, placed_at, node_at, size_at, total, start_at, Accepted}
use Rattle.node.specs.Legal.{LegalNode}
use Rattle.node.specs.Reading.{checked-some, read-checked, node-legal}
use Rattle.expression_file.specs.Accepted.{FirstNode, first-node, accepted-file}
use Rattle.refusal.specs.Several.{several_read as nodes_read, at_end}
use Rattle.refusal.specs.declared.Refusal.TheVariants.{NodesFollowed}

-- FORMAT 9.1: no accepted file has more bytes
abbrev pub longest_file : ℕ
longest_file = 322

-- past the last node
abbrev pub no_node : PlacedNode
no_node = record { node = Relation 0; bytes = [] }

-- the walk stands before node k, at byte `at`
pub record Walk (file : List ℕ) (m n k at : ℕ) : Type 0 where
  pub inside : at ≤ length file
  pub place : at ≡ start_at file k
  pub rest : read_nodes m (n - k) k (drop at file) ≡ nodes_read (drop k (placed_nodes file))

pub walk_first : (file : List ℕ) (m n : ℕ) → acceptance file ≡ Accepted m n → Walk file m n 0 2
unfolding start_at
walk_first file m n e =
    let accepted = accepted-file file m n e in
    record {
      inside = accepted.counts.header;
      place = refl;
      rest = rw sub-zero accepted.nodes;
    }

-- ---- one step

-- the step from node k, whose entry is e: its reading, in the words of a call on the file from `at` on, its
-- bytes, and the walk after it
pub record Step (file : List ℕ) (m n k at : ℕ) (e : PlacedNode) : Type 0 where
  pub reading : read_node m k (take (length file - at) (drop at file)) ≡ Read e.node (length e.bytes)
  pub legal : LegalNode m k e.node
  pub part : e.bytes ≡ take (length e.bytes) (drop at file)
  pub least : 2 ≤ length e.bytes
  pub most : length e.bytes ≤ 5
  pub next : Walk file m n (k + 1) (at + length e.bytes)

pub total-more : (es : List PlacedNode) (k : ℕ) (d : PlacedNode) → k < length es → total (take (suc k) es) ≡ total (take k es) + length (get_or es k d).bytes
total-more [] k d h = absurd (omega arith)
total-more (e ∷ es) zero d h = omega arith
total-more (e ∷ es) (suc k) d h = let more = total-more es k d (omega arith) in rw more (omega arith)

next-walk :
    (file : List ℕ) (m n k at : ℕ) (e : PlacedNode) (others : List PlacedNode)
    → Walk file m n k at
    → At (placed_nodes file) k no_node e others
    → length e.bytes ≤ length (drop at file)
    → read_nodes m (n - (k + 1)) (k + 1) (drop (length e.bytes) (drop at file)) ≡ nodes_read others
    → Walk file m n (k + 1) (at + length e.bytes)
unfolding start_at
next-walk file m n k at e others w here fits rest =
    let more = total-more (placed_nodes file) k no_node here.below in
    let size = ap (λ (x : PlacedNode). length x.bytes) here.here in
    let place = w.place in
    record {
      inside = let l = length-drop at file in let i = w.inside in omega arith;
      place = rw (add-one k) (omega arith);
      rest = rw (← drop-drop) (rest ∙ ap nodes_read (sym here.rest ∙ ap (λ (j : ℕ). drop j (placed_nodes file)) (sym (add-one k))));
    }

step_from : (file : List ℕ) (m n k at : ℕ) → Walk file m n k at → FirstNode m (n - (k + 1)) k (drop at file) (drop k (placed_nodes file)) → Step file m n k at (placed_at file k)
unfolding placed_at
step_from file m n k at w node =
    let e = node.first in
    let here = at_head (placed_nodes file) k no_node e node.others node.entries in
    let legal = node-legal m k (drop at file) e.node (length e.bytes) node.reading in
    subst (Step file m n k at) (sym here.here)
    (record {
      reading = rw part-from node.reading;
      legal = legal.legal;
      part = node.part;
      least = legal.least;
      most = legal.most;
      next = next-walk file m n k at e node.others w here node.fits node.rest;
    })

pub walk-next : (file : List ℕ) (m n k at : ℕ) → Walk file m n k at → k < n → Step file m n k at (placed_at file k)
walk-next file m n k at w h =
    let left : n - k ≡ suc (n - (k + 1)) = omega arith in
    step_from file m n k at w (first-node m (n - (k + 1)) k (drop at file) (drop k (placed_nodes file)) (rw left at w.rest))

-- node k at byte `at`, in the words of its decoding
pub record Decoded (file : List ℕ) (k at : ℕ) : Type 0 where
  pub checked : Checked (take (length file - at) (drop at file))
  pub node-is : node_of (take (length file - at) (drop at file)) ≡ node_at file k
  pub decoding-size : size_of (get_or (take (length file - at) (drop at file)) 0 0) ≡ size_at file k
  pub below : at < length file
  pub map-legal : legal (get_or file at 0) ≡ true
  pub size_is : size_of (get_or file at 0) ≡ size_at file k

pub read-decoded : (file : List ℕ) (m k at : ℕ) → read_node m k (take (length file - at) (drop at file)) ≡ Read (node_at file k) (size_at file k) → Decoded file k at
read-decoded file m k at e =
    let check = read-checked m k _ (node_at file k) (size_at file k) e in
    let here : at + 0 ≡ at = omega arith in
    let first : get_or (take (length file - at) (drop at file)) 0 0 ≡ get_or file at 0 = ap (λ (bytes : List ℕ). get_or bytes 0 0) (part-from file at) ∙ get_or-drop at file 0 0 ∙ ap (λ (i : ℕ). get_or file i 0) here in
    let checked : Checked (take (length file - at) (drop at file)) = record { m = m; k = k; size = size_at file k; passed = check.0 } in
    let some = checked-some _ checked in
    let l = ap length (part-from file at) ∙ length-drop at file in
    record {
      checked = checked;
      node-is = sym check.1;
      decoding-size = sym check.2;
      below = omega arith;
      map-legal = subst (λ (map : ℕ). legal map ≡ true) first check.3;
      size_is = sym (check.2 ∙ ap size_of first);
    }

pub walk-decoded : (file : List ℕ) (m n k at : ℕ) → Walk file m n k at → k < n → Decoded file k at
walk-decoded file m n k at w h = read-decoded file m k at (walk-next file m n k at w h).reading

-- ---- the end, and each node

at-end : (bytes : List ℕ) (es : List PlacedNode) → at_end NodesFollowed bytes ≡ nodes_read es → length bytes ≡ 0
at-end [] es e = refl
at-end (b ∷ bs) es e = absurd (let z : ◌≡◌ {A = ℕ} 0 1 = cc in omega arith)

pub walk_end : (file : List ℕ) (m n at : ℕ) → Walk file m n n at → at ≡ length file
unfolding read_nodes
walk_end file m n at w =
    let none_left = at-end (drop at file) (drop n (placed_nodes file)) (rw sub_self at w.rest) in
    let l = length-drop at file in
    let i = w.inside in
    omega arith

placed : {file : List ℕ} {m n k at : ℕ} → Walk file m n k at → Walk file m n k (start_at file k)
placed {file} {m} {n} {k} {at} w = subst (Walk file m n k) w.place w

-- the walk comes to each node, at its start
pub walk-to : (file : List ℕ) (m n : ℕ) → acceptance file ≡ Accepted m n → (k : ℕ) → k ≤ n → Walk file m n k (start_at file k)
walk-to file m n e zero h = placed (walk_first file m n e)
walk-to file m n e (suc k) h =
    let next = (walk-next file m n k (start_at file k) (walk-to file m n e k (omega arith)) (omega arith)).next in
    placed (rw (add-one k) at next)

pub step-at : (file : List ℕ) (m n : ℕ) → acceptance file ≡ Accepted m n → (k : ℕ) → k < n → Step file m n k (start_at file k) (placed_at file k)
step-at file m n e k h = walk-next file m n k (start_at file k) (walk-to file m n e k (omega arith)) h

-- every node of an accepted file is legal
pub nodes-legal : (file : List ℕ) (m n : ℕ) → acceptance file ≡ Accepted m n → (k : ℕ) → k < n → LegalNode m k (node_at file k)
nodes-legal file m n e k h = (step-at file m n e k h).legal

start-most : (file : List ℕ) (m n : ℕ) → acceptance file ≡ Accepted m n → (k : ℕ) → k ≤ n → start_at file k ≤ 2 + 5 * k
start-most file m n e zero h = let w = (walk_first file m n e).place in omega arith
start-most file m n e (suc k) h =
    let step = step-at file m n e k (omega arith) in
    let before = start-most file m n e k (omega arith) in
    let here = rw (add-one k) at step.next.place in
    let most = step.most in
    omega arith

-- an accepted file has at most 322 bytes
pub file-most : (file : List ℕ) (m n : ℕ) → acceptance file ≡ Accepted m n → length file ≤ longest_file
file-most file m n e =
    let whole = walk_end file m n (start_at file n) (walk-to file m n e n (le_refl n)) in
    let most = start-most file m n e n (le_refl n) in
    let nodes = (accepted-file file m n e).counts.nodes.1 in
    omega arith

-- ---- one node of an accepted file

-- node k stands at byte `at` of the file: what the walk over an accepted file's nodes gives
pub record Here (file : List ℕ) (m k at : ℕ) : Type 0 where
  pub relations : m ≤ 8
  pub inside : at ≤ length file
  pub fits : at + size_at file k ≤ length file
  pub reading : read_node m k (take (length file - at) (drop at file)) ≡ Read (node_at file k) (size_at file k)
  pub legal : LegalNode m k (node_at file k)

-- what its decoding gives
pub here-decoded : (file : List ℕ) (m k at : ℕ) → Here file m k at → Decoded file k at
here-decoded file m k at here = read-decoded file m k at here.reading

-- the walk over an accepted file's nodes is there
pub walk_here : (file : List ℕ) (m n k at : ℕ) → acceptance file ≡ Accepted m n → k < n → Walk file m n k at → Here file m k at
walk_here file m n k at e h w =
    let step = walk-next file m n k at w h in
    record {
      relations = (accepted-file file m n e).counts.relations.1;
      inside = w.inside;
      fits = step.next.inside;
      reading = step.reading;
      legal = step.legal;
    }
