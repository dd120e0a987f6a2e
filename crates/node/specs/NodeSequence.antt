-- Nodes checked one after the other: one node, one more of them, the end, and that they lie in the bytes.
use Prim.Native.Nat.{ℕ, zero, suc, ◌+◌, ◌-◌, ◌≤◌, ◌<◌}
use Rattle.std.proofs.Math.Path.{◌≡◌, refl}
use Rattle.std.proofs.Common.{ap, zero-add, length-drop}
use Rattle.std.specs.Prelude.{List, drop, Result, ℕ, Ok, Err}
use native.Mathlib.Omega.{arith}
use Rattle.std.proofs.Math.ListN.{length}
use Rattle.refusal.specs.declared.Refusal.{Refusal}
use Rattle.node.specs.ReadNode.{check_node, after_node, check_nodes}
use Rattle.node.specs.Legal.{node-passed}

module _ (m k at : ℕ) (bytes : List ℕ) where
  pub check-none : check_nodes m 0 k at bytes ≡ Ok at
  unfolding check_nodes
  check-none = refl

  pub check-more : (count : ℕ) → check_nodes m (suc count) k at bytes ≡ after_node (check_node m k (drop at bytes)) (λ size. check_nodes m count (k + 1) (at + size) bytes)
  unfolding check_nodes
  check-more count = refl

pub check-one : (m k : ℕ) (bytes : List ℕ) → check_nodes m 1 k 0 bytes ≡ check_node m k bytes
unfolding check_nodes
check-one m k bytes = go (check_node m k bytes)
  where
    go : (c : Result ℕ Refusal) → after_node c (λ size. Ok (0 + size)) ≡ c
    go (Err r) = refl
    go (Ok size) = ap Ok (zero-add size)

-- ---- node i of `count` from node k on

module _ (m k count i at : ℕ) (bytes : List ℕ) where
  one_more : (c : Result ℕ Refusal) → i < count → check_node m (k + i) (drop at bytes) ≡ c → check_nodes m (count - i) (k + i) at bytes ≡ after_node c (λ size. check_nodes m (count - (i + 1)) (k + (i + 1)) (at + size) bytes)
  unfolding check_nodes
  one_more c h e =
      let left : count - i ≡ suc (count - (i + 1)) = omega arith in
      let next : k + (i + 1) ≡ k + i + 1 = omega arith in
      rw (left, next, e)

  pub check-next : (size : ℕ) → i < count → check_node m (k + i) (drop at bytes) ≡ Ok size → check_nodes m (count - i) (k + i) at bytes ≡ check_nodes m (count - (i + 1)) (k + (i + 1)) (at + size) bytes
  check-next size h e = one_more (Ok size) h e

  pub check-stops : (r : Refusal) → i < count → check_node m (k + i) (drop at bytes) ≡ Err r → check_nodes m (count - i) (k + i) at bytes ≡ Err r
  check-stops r h e = one_more (Err r) h e

  pub check-end : count ≤ i → check_nodes m (count - i) (k + i) at bytes ≡ Ok at
  unfolding check_nodes
  check-end h = let none : count - i ≡ 0 = omega arith in rw none

-- ---- the nodes lie in the bytes

module _ (m : ℕ) (bytes : List ℕ) where
  pub node-fits : (k at size : ℕ) → at ≤ length bytes → check_node m k (drop at bytes) ≡ Ok size → at + size ≤ length bytes
  node-fits k at size h e =
      let fits = (node-passed m k (drop at bytes) size e).reading.fits in
      let left = length-drop at bytes in
      omega arith

  pub nodes-fit : (end count k at : ℕ) → at ≤ length bytes → check_nodes m count k at bytes ≡ Ok end → end ≤ length bytes
  unfolding check_nodes
  nodes-fit end zero k at h e = let same : at ≡ end = cc in omega arith
  nodes-fit end (suc count) k at h e = go (nodes-fit end count (k + 1)) (check_node m k (drop at bytes)) refl e
    where
      go :
          ((at : ℕ) → at ≤ length bytes → check_nodes m count (k + 1) at bytes ≡ Ok end → end ≤ length bytes)
          → (c : Result ℕ Refusal)
          → check_node m k (drop at bytes) ≡ c
          → after_node c (λ size. check_nodes m count (k + 1) (at + size) bytes) ≡ Ok end
          → end ≤ length bytes
      go rest (Err r) e f = absurd (let z : ◌≡◌ {A = ℕ} 0 1 = cc in omega arith)
      go rest (Ok size) e f = rest (at + size) (node-fits k at size h e) f
