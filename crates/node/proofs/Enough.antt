-- How much of the bytes a node's reading depends on: its own bytes, so at most the first five.
use Rattle.std.specs.Prelude.{ℕ, ◌≤◌, ◌≡◌, Bool, get_or, take, drop, [], Err}
use Rattle.std.proofs.Math.Path.{refl, sym, ap}
use Rattle.std.proofs.Common.{subst, ◌∙◌, arith, take-append-drop, length-take-le, get_or-take}
use Rattle.std.proofs.Math.Bool.{true, false, not}
use mathlib.Core.List.{List, ◌∷◌, ◌++◌}
use borrow.Author.Tests.{le-ltb}
use Rattle.std.proofs.Math.ListN.{length}
use Rattle.refusal.specs.Chain.{refuse, refuse-stops, refuse-passes}
use Rattle.refusal.specs.declared.Refusal.TheVariants.{NodeMap}
use Rattle.node.specs.declared.nodes.Node.{Node}
use Rattle.node.specs.ReadNode.{size_of, value_of, legal, check_fields, check_node, node_with, node_of, with_node, read_node, Read}
use Rattle.node.specs.Legal.{legal-cases}
use Rattle.node.specs.Reading.{read-checked, node-legal}
use Rattle.node.specs.Enough.{fields_read, legal-size}

-- bytes a, and bytes b that follow them
module _ (m k : ℕ) (b : List ℕ) where
  two_bytes : (a : List ℕ) → 2 ≤ length a → fields_read m k 1 (a ++ b) ≡ fields_read m k 1 a
  unfolding check_fields size_of
  two_bytes (x ∷ y ∷ r) h = ap (with_node _) (refuse-passes _ _ _ _ (le-ltb (length (x ∷ y ∷ (r ++ b))) 2 (omega arith)) ∙ sym (refuse-passes _ _ _ _ (le-ltb (length (x ∷ y ∷ r)) 2 (omega arith))))
  two_bytes (x ∷ []) h = absurd (omega arith)
  two_bytes [] h = absurd (omega arith)

  three-bytes : (a : List ℕ) → 3 ≤ length a → fields_read m k 34 (a ++ b) ≡ fields_read m k 34 a
  unfolding check_fields size_of
  three-bytes (x ∷ y ∷ z ∷ r) h = ap (with_node _) (refuse-passes _ _ _ _ (le-ltb (length (x ∷ y ∷ z ∷ (r ++ b))) 3 (omega arith)) ∙ sym (refuse-passes _ _ _ _ (le-ltb (length (x ∷ y ∷ z ∷ r)) 3 (omega arith))))
  three-bytes (x ∷ y ∷ []) h = absurd (omega arith)
  three-bytes (x ∷ []) h = absurd (omega arith)
  three-bytes [] h = absurd (omega arith)

  -- of map 14 or 98
  four_bytes : (a : List ℕ) → 4 ≤ length a → (fields_read m k 14 (a ++ b) ≡ fields_read m k 14 a) × (fields_read m k 98 (a ++ b) ≡ fields_read m k 98 a)
  unfolding check_fields size_of
  four_bytes (x ∷ y ∷ z ∷ u ∷ r) h =
      let longer = le-ltb (length (x ∷ y ∷ z ∷ u ∷ (r ++ b))) 4 (omega arith) in
      let long = le-ltb (length (x ∷ y ∷ z ∷ u ∷ r)) 4 (omega arith) in (
        ap (with_node _) (refuse-passes _ _ _ _ longer ∙ sym (refuse-passes _ _ _ _ long)),
        ap (with_node _) (refuse-passes _ _ _ _ longer ∙ sym (refuse-passes _ _ _ _ long)),
      )
  four_bytes (x ∷ y ∷ z ∷ []) h = absurd (omega arith)
  four_bytes (x ∷ y ∷ []) h = absurd (omega arith)
  four_bytes (x ∷ []) h = absurd (omega arith)
  four_bytes [] h = absurd (omega arith)

  five-bytes : (a : List ℕ) → 5 ≤ length a → fields_read m k 26 (a ++ b) ≡ fields_read m k 26 a
  unfolding check_fields size_of
  five-bytes (x ∷ y ∷ z ∷ u ∷ v ∷ r) h = ap (with_node _) (refuse-passes _ _ _ _ (le-ltb (length (x ∷ y ∷ z ∷ u ∷ v ∷ (r ++ b))) 5 (omega arith)) ∙ sym (refuse-passes _ _ _ _ (le-ltb (length (x ∷ y ∷ z ∷ u ∷ v ∷ r)) 5 (omega arith))))
  five-bytes (x ∷ y ∷ z ∷ u ∷ []) h = absurd (omega arith)
  five-bytes (x ∷ y ∷ z ∷ []) h = absurd (omega arith)
  five-bytes (x ∷ y ∷ []) h = absurd (omega arith)
  five-bytes (x ∷ []) h = absurd (omega arith)
  five-bytes [] h = absurd (omega arith)

  fields-local : (map : ℕ) (a : List ℕ) → legal map ≡ true → size_of map ≤ length a → fields_read m k map (a ++ b) ≡ fields_read m k map a
  unfolding size_of
  fields-local map a =
      legal-cases map (λ (c : ℕ). size_of c ≤ length a → fields_read m k c (a ++ b) ≡ fields_read m k c a)
      (two_bytes a) (λ h. (four_bytes a h).0) (five-bytes a) (λ h. (four_bytes a h).1) (three-bytes a)

  -- with a byte for the map, and all bytes of the node if the map is legal
  own-bytes : (a : List ℕ) → 1 ≤ length a → (legal (get_or a 0 0) ≡ true → size_of (get_or a 0 0) ≤ length a) → read_node m k (a ++ b) ≡ read_node m k a
  unfolding read_node check_node node_of
  own-bytes [] some whole = absurd (omega arith)
  own-bytes (x ∷ r) some whole =
      ap (with_node _) (refuse-passes _ _ _ _ (le-ltb (length (x ∷ (r ++ b))) 1 (omega arith)))
      ∙ go (legal x) refl
      ∙ sym (ap (with_node _) (refuse-passes _ _ _ _ (le-ltb (length (x ∷ r)) 1 (omega arith))))
    where
      go :
          (t : Bool)
          → legal x ≡ t
          → with_node (node_with x (value_of x (x ∷ (r ++ b))))
          (refuse Err (not (legal x)) NodeMap (check_fields m k x (x ∷ (r ++ b))))
          ≡ with_node (node_with x (value_of x (x ∷ r)))
          (refuse Err (not (legal x)) NodeMap (check_fields m k x (x ∷ r)))
      go true e =
          ap (with_node _) (refuse-passes _ _ _ _ (ap not e))
          ∙ fields-local x (x ∷ r) e (whole e)
          ∙ sym (ap (with_node _) (refuse-passes _ _ _ _ (ap not e)))
      go false e = ap (with_node _) (refuse-stops _ _ _ _ (ap not e)) ∙ sym (ap (with_node _) (refuse-stops _ _ _ _ (ap not e)))

-- a node that has five bytes or more is read the same, whatever follows
pub node-enough : (m k : ℕ) (a b : List ℕ) → 5 ≤ length a → read_node m k (a ++ b) ≡ read_node m k a
node-enough m k a b h = own-bytes m k b a (omega arith) (λ e. let most = legal-size (get_or a 0 0) e in omega arith)

-- and so is one in which nothing is refused
pub node-local : (m k : ℕ) (a b : List ℕ) (node : Node) (size : ℕ) → read_node m k a ≡ Read node size → read_node m k (a ++ b) ≡ Read node size
node-local m k a b node size e =
    let check = read-checked m k a node size e in
    let legal-node = node-legal m k a node size e in
    let least = legal-node.least in
    let fits = legal-node.fits in
    own-bytes m k b a (omega arith) (λ ok. subst (λ (n : ℕ). n ≤ length a) check.2 fits) ∙ e

-- and from its own bytes alone
pub node-part : (m k : ℕ) (bytes : List ℕ) (node : Node) (size : ℕ) → read_node m k bytes ≡ Read node size → read_node m k (take size bytes) ≡ Read node size
node-part m k bytes node size e =
    let check = read-checked m k bytes node size e in
    let legal-node = node-legal m k bytes node size e in
    let least = legal-node.least in
    let length-is = length-take-le size bytes legal-node.fits in
    let map_is : get_or (take size bytes) 0 0 ≡ get_or bytes 0 0 = get_or-take size bytes 0 0 (omega arith) in
    let own = own-bytes m k (drop size bytes) (take size bytes) (omega arith) (λ ok. let is = check.2 ∙ ap size_of (sym map_is) in omega arith) in
    sym own ∙ ap (read_node m k) (take-append-drop size bytes) ∙ e
