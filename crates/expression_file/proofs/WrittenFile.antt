-- Files made of nodes: they are accepted, and their nodes are those that they were made of.
use Prim.Native.Nat.{ℕ, zero, suc}
use Rattle.std.specs.Prelude.{◌≡◌, []}
use Rattle.std.proofs.Math.Path.{refl, ap}
use Rattle.std.proofs.Common.{◌∙◌, arith, le-ltb}
use Rattle.std.proofs.Math.Bool.{not}
use mathlib.Core.List.{List, ◌∷◌}
use Rattle.std.proofs.Math.ListN.{length, get_or}
use Rattle.bits.specs.Range.{range-in}
use Rattle.refusal.specs.Chain.{refuse-passes}
use Rattle.node.specs.declared.nodes.Node.{Node}
use Rattle.node.specs.declared.nodes.Node.TheVariants.{Relation}
use Rattle.expression_file.specs.ReadFile.{PlacedNode, header, acceptance, placed_at, node_at, Accepted}
use Rattle.expression_file.specs.Accepted.{FileRead, read-file}
use Rattle.expression_file.specs.WrittenFile.{FileNodes, file_of, nodes-read, nodes_bytes, placed_of}

-- ---- the file

module _ (m : ℕ) (ns : List Node) (nodes : FileNodes m ns) where
  file-header : header (file_of m ns) ≡ Accepted m (length ns)
  unfolding header file_of
  file-header =
      refuse-passes _ _ _ _ (le-ltb (length (m ∷ length ns ∷ nodes_bytes ns)) 2 (omega arith))
      ∙ refuse-passes _ _ _ _ (ap not (range-in 1 8 m nodes.relations.0 nodes.relations.1))
      ∙ refuse-passes _ _ _ _ (ap not (range-in 1 64 (length ns) nodes.count.0 nodes.count.1))

  file-read : FileRead (file_of m ns) m (length ns) (placed_of ns)
  unfolding file_of
  file-read = read-file (file_of m ns) m (length ns) (placed_of ns) file-header (nodes-read m 0 ns nodes.legal)

  -- it is accepted
  pub file-accepted : acceptance (file_of m ns) ≡ Accepted m (length ns)
  file-accepted = file-read.accepted

  -- its nodes are these
  pub file-node : (k : ℕ) → node_at (file_of m ns) k ≡ get_or ns k (Relation 0)
  unfolding placed_at placed_of
  file-node k = ap (λ (es : List PlacedNode). (get_or es k (record { node = Relation 0; bytes = [] })).node) file-read.nodes ∙ go ns k
    where
      go : (ns : List Node) (k : ℕ) → (get_or (placed_of ns) k (record { node = Relation 0; bytes = [] })).node ≡ get_or ns k (Relation 0)
      go [] k = refl
      go (n ∷ ns) zero = refl
      go (n ∷ ns) (suc k) = go ns k
