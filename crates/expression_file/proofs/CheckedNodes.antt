-- The reading of a file's nodes by their check: where one of them is refused, where bytes follow them and where they end the file.
use Prim.Native.Nat.{ℕ, zero, suc, ◌+◌, ◌≤◌, ◌<◌}
use mathlib.Core.Path.{◌≡◌, refl, sym, ap, ◌∙◌}
use mathlib.Core.Bool.{Bool, true, false}
use mathlib.Core.List.{List}
use native.Mathlib.Omega.{arith}
use borrow.Author.Tests.{ltb-true, ltb-false, lt-ltb, le-ltb}
use lib.Dec.{ltb}
use lib.ListN.{length, drop, length-drop, drop_of_length-le}
use lib.Seq.{drop-drop, drop-cons}
use Rattle.refusal.specs.Chain.{refuse, refuse-stops, refuse-passes}
use Rattle.refusal.specs.declared.Refusal.{Refusal}
use Rattle.refusal.specs.declared.Refusal.TheVariants.{NodesFollowed}
use Rattle.refusal.specs.Several.{at_end}
use Rattle.node.specs.ReadNode.{check_node, read_node, after_node, check_nodes}
use Rattle.node.specs.Reading.{checked-read, checked_refused}
use Rattle.node.specs.NodeSequence.{check-none, check-more, nodes-fit}
use Rattle.expression_file.specs.ReadFile.{Nodes, follow, read_nodes, collect, answer, Accepted}
use Rattle.expression_file.specs.Enough.{answer-precede}
use Rattle.std.specs.Prelude.{Result, ℕ, Ok, Err}
use Rattle.node.specs.declared.nodes.Decoding.{Decoding}
use Rattle.expression_file.specs.declared.files.Header.{Header}

-- what a reading of all the nodes answers
abbrev pub answered : ℕ → ℕ → Nodes → Result Header Refusal
answered m n nodes = answer (collect m n nodes)

-- what a check of all the nodes in these bytes answers
abbrev ended : ℕ → ℕ → List ℕ → Result ℕ Refusal → Result Header Refusal
ended m n bytes (Err r) = Err r
ended m n bytes (Ok end) = refuse Err (ltb end (length bytes)) NodesFollowed (Accepted m n)

module _ (m n : ℕ) (bytes : List ℕ) where
  end-ended : (at : ℕ) → answered m n (at_end NodesFollowed (drop at bytes)) ≡ ended m n bytes (Ok at)
  end-ended at = go (ltb at (length bytes)) refl
    where
      go : (t : Bool) → ltb at (length bytes) ≡ t → answered m n (at_end NodesFollowed (drop at bytes)) ≡ ended m n bytes (Ok at)
      go true e =
          ap (λ (rest : List ℕ). answered m n (at_end NodesFollowed rest)) (drop-cons bytes at 0 (ltb-true at (length bytes) e))
          ∙ sym (refuse-stops _ _ _ _ e)
      go false e =
          ap (λ (rest : List ℕ). answered m n (at_end NodesFollowed rest)) (drop_of_length-le bytes (ltb-false at (length bytes) e))
          ∙ sym (refuse-passes _ _ _ _ e)

  -- so many nodes from node k on, the first of which begins at byte `at`, are read as they are checked
  abbrev Alike : ℕ → ℕ → ℕ → Type 0
  Alike count k at = answered m n (read_nodes m count k (drop at bytes)) ≡ ended m n bytes (check_nodes m count k at bytes)

  nodes-ended : (count k at : ℕ) → Alike count k at
  unfolding read_nodes
  nodes-ended zero k at = rw (check-none m k at bytes) (end-ended at)
  nodes-ended (suc count) k at = rw (check-more m k at bytes count) (go (nodes-ended count (k + 1)) (check_node m k (drop at bytes)) refl)
    where
      followed : Result Decoding Refusal → Result Header Refusal
      followed reading = answered m n (follow reading (drop at bytes) (λ rest. read_nodes m count (k + 1) rest))

      go :
          ((at : ℕ) → Alike count (k + 1) at)
          → (check : Result ℕ Refusal)
          → check_node m k (drop at bytes) ≡ check
          → followed (read_node m k (drop at bytes))
          ≡ ended m n bytes (after_node check (λ size. check_nodes m count (k + 1) (at + size) bytes))
      go rest (Err r) e = ap followed (checked_refused m k (drop at bytes) r e)
      go rest (Ok size) e =
          ap followed (checked-read m k (drop at bytes) size e)
          ∙ answer-precede m n _ (read_nodes m count (k + 1) (drop size (drop at bytes)))
          ∙ ap (λ (more : List ℕ). answered m n (read_nodes m count (k + 1) more)) (drop-drop size at bytes)
          ∙ rest (at + size)

-- ---- the nodes of a file, from byte 2 on

module _ (file : List ℕ) (m n : ℕ) where
  outcome : (check : Result ℕ Refusal) → check_nodes m n 0 0 (drop 2 file) ≡ check → answered m n (read_nodes m n 0 (drop 2 file)) ≡ ended m n (drop 2 file) check
  outcome check e = nodes-ended m n (drop 2 file) n 0 0 ∙ ap (ended m n (drop 2 file)) e

  pub outcome-refused : (r : Refusal) → check_nodes m n 0 0 (drop 2 file) ≡ Err r → answered m n (read_nodes m n 0 (drop 2 file)) ≡ Err r
  outcome-refused r e = outcome (Err r) e

  module _ (size : ℕ) (e : check_nodes m n 0 0 (drop 2 file) ≡ Ok size) where
    pub outcome-followed : 2 + size < length file → answered m n (read_nodes m n 0 (drop 2 file)) ≡ Err NodesFollowed
    outcome-followed h =
        let left = length-drop 2 file in
        outcome (Ok size) e ∙ refuse-stops _ _ _ _ (lt-ltb size (length (drop 2 file)) (omega arith))

    pub outcome-end : length file ≤ 2 + size → answered m n (read_nodes m n 0 (drop 2 file)) ≡ Accepted m n
    outcome-end h =
        let left = length-drop 2 file in
        outcome (Ok size) e ∙ refuse-passes _ _ _ _ (le-ltb size (length (drop 2 file)) (omega arith))

    -- the nodes lie in the file
    pub outcome_fits : 2 ≤ length file → 2 + size ≤ length file
    outcome_fits h =
        let left = length-drop 2 file in
        let fits = nodes-fit m (drop 2 file) size n 0 0 (omega arith) e in
        omega arith
