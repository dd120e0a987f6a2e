-- Checked bytes, and what reading a node gives.
use Rattle.std.specs.Prelude.{ℕ, ◌<◌, ◌≤◌, true, false, List, length, get_or, Result, Ok, Err}
use Rattle.std.proofs.Math.Path.{◌≡◌, refl, ap}
use Rattle.std.proofs.Common.{sym, subst, ◌∙◌, arith}
use Rattle.bits.specs.Bit.{bit}
use Rattle.attribute_set.specs.Laws.{clear-lacks, has-set}
use Rattle.refusal.specs.Number.{number_of}
use Rattle.refusal.specs.declared.Refusal.{Refusal}
use Rattle.node.specs.declared.nodes.Node.{Node}
use Rattle.node.specs.declared.nodes.Decoding.{Decoding}
use Rattle.node.specs.ReadNode.{attributes, size_of, value_of, legal, check_node, Checked, node_with, node_of, with_node, read_node, Read}
use Rattle.node.specs.Legal.{LegalNode, LegalReading, node-passed, refused-number, SoundCheck, check_sound}

pub checked-legal : (bytes : List ℕ) → Checked bytes → legal (get_or bytes 0 0) ≡ true
checked-legal bytes c = (node-passed _ _ bytes _ c.passed).map-legal

pub checked-some : (bytes : List ℕ) → Checked bytes → 0 < length bytes
checked-some bytes c =
    let p = (node-passed _ _ bytes _ c.passed).reading in
    let fits = p.fits in
    let least = p.least in
    omega arith

-- the bytes of a node of each map (FORMAT 1.4)

pub relation-size : size_of 1 ≡ 2
unfolding size_of
relation-size = refl

pub binary-size : size_of 14 ≡ 4
unfolding size_of
binary-size = refl

pub set-size : size_of 26 ≡ 5
unfolding size_of
set-size = refl

pub renaming-size : size_of 98 ≡ 4
unfolding size_of
renaming-size = refl

pub out-size : size_of 34 ≡ 3
unfolding size_of
out-size = refl

module _ (bytes : List ℕ) (map : ℕ) (is : get_or bytes 0 0 ≡ map) where
  -- they are as many as a node with their map has
  pub checked-long : Checked bytes → size_of map ≤ length bytes
  checked-long c =
      let p = node-passed _ _ bytes _ c.passed in
      subst (λ (size : ℕ). size ≤ length bytes) (p.size_is ∙ ap size_of is) p.reading.fits

  -- their node, by their map
  pub node-is : node_with map (value_of map bytes) ≡ node_of bytes
  unfolding node_of
  node-is = ap (λ (x : ℕ). node_with x (value_of x bytes)) (sym is)

-- their set has bit 0 clear
pub checked-set : (bytes : List ℕ) → get_or bytes 0 0 ≡ 26 → Checked bytes → bit (value_of 26 bytes attributes) 0 ≡ false
checked-set bytes is c =
    let ok = subst (LegalNode c.m c.k) (sym (node-is bytes 26 is)) (node-passed _ _ bytes _ c.passed).reading.legal in
    sym (has-set _ 0) ∙ clear-lacks _ ok.1

-- ---- check and reading

-- one reading has one node and one size
pub read-parts : {node other : Node} {size length : ℕ} → Read node size ≡ Read other length → (node ≡ other) × (size ≡ length)
read-parts {node} {other} {size} {length} e =
    let same : ◌≡◌ {A = Decoding} (record { node = node; size = size }) (record { node = other; size = length }) = cc in
    (ap (λ (d : Decoding). d.node) same, ap (λ (d : Decoding). d.size) same)

module _ (m k : ℕ) (bytes : List ℕ) where
  pub checked-read : (size : ℕ) → check_node m k bytes ≡ Ok size → read_node m k bytes ≡ Read (node_of bytes) size
  unfolding read_node
  checked-read size e = ap (with_node (node_of bytes)) e

  pub checked_refused : (r : Refusal) → check_node m k bytes ≡ Err r → read_node m k bytes ≡ Err r
  unfolding read_node
  checked_refused r e = ap (with_node (node_of bytes)) e

  pub read-checked : (node : Node) (size : ℕ) → read_node m k bytes ≡ Read node size → (check_node m k bytes ≡ Ok size) × (node ≡ node_of bytes) × (size ≡ size_of (get_or bytes 0 0)) × (legal (get_or bytes 0 0) ≡ true)
  unfolding read_node
  read-checked node size = go (check_node m k bytes) refl
    where
      go :
          (c : Result ℕ Refusal)
          → check_node m k bytes ≡ c
          → with_node (node_of bytes) c ≡ Read node size
          → (check_node m k bytes ≡ Ok size) × (node ≡ node_of bytes) × (size ≡ size_of (get_or bytes 0 0)) × (legal (get_or bytes 0 0) ≡ true)
      go (Err r) e h = absurd (let z : ◌≡◌ {A = ℕ} 0 1 = cc in omega arith)
      go (Ok s) e h =
          let parts = read-parts h in
          let same : s ≡ size = parts.1 in
          let check : check_node m k bytes ≡ Ok size = e ∙ ap Ok same in
          let p = node-passed m k bytes size check in
          (check, sym parts.0, p.size_is, p.map-legal)

  pub read-refused : (r : Refusal) → read_node m k bytes ≡ Err r → check_node m k bytes ≡ Err r
  unfolding read_node
  read-refused r = go (check_node m k bytes) refl
    where
      go : (c : Result ℕ Refusal) → check_node m k bytes ≡ c → with_node (node_of bytes) c ≡ Err r → check_node m k bytes ≡ Err r
      go (Err q) e h = let same : q ≡ r = cc in e ∙ ap Err same
      go (Ok s) e h = absurd (let z : ◌≡◌ {A = ℕ} 0 1 = cc in omega arith)

pub node-legal : (m k : ℕ) (bytes : List ℕ) (node : Node) (size : ℕ) → read_node m k bytes ≡ Read node size → LegalReading m k bytes node size
node-legal m k bytes node size e =
    let c = read-checked m k bytes node size e in
    subst (λ (x : Node). LegalReading m k bytes x size) (sym c.1) (node-passed m k bytes size c.0).reading

pub node-refused : (m k : ℕ) (bytes : List ℕ) (r : Refusal) → read_node m k bytes ≡ Err r → number_of r ≤ 10
node-refused m k bytes r e = refused-number (subst (SoundCheck m k (get_or bytes 0 0) bytes) (read-refused m k bytes r e) (check_sound m k bytes))
