-- The bytes of a node (FORMAT 1.4): reading them gives the node back, and what is read is made of them.
use Rattle.std.specs.Prelude.{ℕ, ◌+◌, ◌*◌, ◌/◌, ◌%◌, ◌≤◌, ◌<◌, ◌≡◌, refl, Bool, true, false, cond, not, List, ◌∷◌, ◌++◌, eqb, length, get_or, take, [], Result, Ok, Err}
use Rattle.std.proofs.Common.{sym, ap, ap₂, subst, ◌∙◌, arith, lit≤}
use borrow.Author.Tests.{le-ltb, lt-leb, eqb-true, eqb-false, not-false}
use Rattle.bits.specs.Bit.{bit}
use Rattle.bits.specs.Range.{in_range, in-range, range-in}
use Rattle.bits.specs.Word.{Bytes}
use Rattle.refusal.specs.Chain.{refuse, refuse-passes, refuse-past}
use Rattle.refusal.specs.declared.Refusal.{Refusal}
use Rattle.attribute_set.specs.AttrSet.{set_of, bits_of}
use Rattle.attribute_set.specs.declared.AttrSet.{AttrSet}
use Rattle.attribute_set.specs.Laws.{clear-lacks, has-bit, bits-set, set-bits}
use Rattle.node.specs.declared.nodes.BinaryOp.{BinaryOp}
use Rattle.node.specs.declared.nodes.BinaryOp.TheVariants.{Union, Difference, Join, Product}
use Rattle.node.specs.declared.nodes.SetOp.{SetOp}
use Rattle.node.specs.declared.nodes.SetOp.TheVariants.{Selection, Projection}
use Rattle.node.specs.declared.nodes.Node.{Node}
use Rattle.node.specs.declared.nodes.Node.TheVariants.{Relation, Binary, WithSet, Renaming, ProjectingOut}
use Rattle.node.specs.Operators.{binary_of, set_op_of, binary_code, set_code}
use Rattle.node.specs.ReadNode.{size_of, value_of, check_fields, check_node, node_with, node_of, read_node, Read}
use Rattle.node.specs.Legal.{legal-cases, LegalNode, node-passed}
use Rattle.node.specs.Reading.{read-checked}

-- FORMAT 1.4: the map and the fields
abbrev pub node_bytes : Node → List ℕ
node_bytes (Relation r) = 1 ∷ r ∷ []
node_bytes (Binary op l r) = 14 ∷ l ∷ r ∷ binary_code op ∷ []
node_bytes (WithSet op k s) = 26 ∷ k ∷ set_code op ∷ (bits_of s % 256) ∷ (bits_of s / 256) ∷ []
node_bytes (Renaming k old new) = 98 ∷ k ∷ old ∷ new ∷ []
node_bytes (ProjectingOut k old) = 34 ∷ k ∷ old ∷ []

-- at most five of them
pub bytes_most : (node : Node) → length (node_bytes node) ≤ 5
bytes_most (Relation r) = lit≤ tt
bytes_most (Binary op l r) = lit≤ tt
bytes_most (WithSet op k s) = lit≤ tt
bytes_most (Renaming k old new) = lit≤ tt
bytes_most (ProjectingOut k old) = lit≤ tt

-- ---- reading gives the node back

code-known : (op : BinaryOp) → (in_range 1 4 (binary_code op) ≡ true) × (binary_of (binary_code op) ≡ op)
unfolding binary_of
code-known Union = (range-in 1 4 1 (lit≤ tt) (lit≤ tt), refl)
code-known Difference = (range-in 1 4 2 (lit≤ tt) (lit≤ tt), refl)
code-known Join = (range-in 1 4 3 (lit≤ tt) (lit≤ tt), refl)
code-known Product = (range-in 1 4 4 (lit≤ tt) (lit≤ tt), refl)

set-code-known : (op : SetOp) → (in_range 5 6 (set_code op) ≡ true) × (set_op_of (set_code op) ≡ op)
unfolding set_op_of
set-code-known Selection = (range-in 5 6 5 (lit≤ tt) (lit≤ tt), refl)
set-code-known Projection = (range-in 5 6 6 (lit≤ tt) (lit≤ tt), refl)

-- the bytes of a legal node, whatever follows them, pass the check
pub bytes-checked : (m k : ℕ) (node : Node) (rest : List ℕ) → LegalNode m k node → check_node m k (node_bytes node ++ rest) ≡ Ok (length (node_bytes node))
unfolding check_node check_fields size_of
bytes-checked m k (Relation r) rest h =
    let bytes : List ℕ = 1 ∷ r ∷ rest in
    refuse-passes _ _ _ _ (le-ltb (length bytes) 1 (omega arith))
    ∙ refuse-passes _ _ _ _ refl
    ∙ refuse-passes _ _ _ _ (le-ltb (length bytes) 2 (omega arith))
    ∙ refuse-passes _ _ _ _ (lt-leb m r h)
bytes-checked m k (Binary op l r) rest h =
    let bytes : List ℕ = 14 ∷ l ∷ r ∷ binary_code op ∷ rest in
    refuse-passes _ _ _ _ (le-ltb (length bytes) 1 (omega arith))
    ∙ refuse-passes _ _ _ _ refl
    ∙ refuse-passes _ _ _ _ (le-ltb (length bytes) 4 (omega arith))
    ∙ refuse-passes _ _ _ _ (lt-leb k l h.0)
    ∙ refuse-passes _ _ _ _ (lt-leb k r h.1)
    ∙ refuse-passes _ _ _ _ (ap not (code-known op).0)
bytes-checked m k (WithSet op o s) rest h =
    let bytes : List ℕ = 26 ∷ o ∷ set_code op ∷ (bits_of s % 256) ∷ (bits_of s / 256) ∷ rest in
    let value : bits_of s % 256 + bits_of s / 256 * 256 ≡ bits_of s = omega arith in
    let clear : bit (bits_of s % 256 + bits_of s / 256 * 256) 0 ≡ false = ap (λ (v : ℕ). bit v 0) value ∙ sym (has-bit s 0) ∙ clear-lacks s h.1 in
    refuse-passes _ _ _ _ (le-ltb (length bytes) 1 (omega arith))
    ∙ refuse-passes _ _ _ _ refl
    ∙ refuse-passes _ _ _ _ (le-ltb (length bytes) 5 (omega arith))
    ∙ refuse-passes _ _ _ _ (lt-leb k o h.0)
    ∙ refuse-passes _ _ _ _ (ap not (set-code-known op).0)
    ∙ refuse-passes _ _ _ _ clear
bytes-checked m k (Renaming o old new) rest h =
    let bytes : List ℕ = 98 ∷ o ∷ old ∷ new ∷ rest in
    refuse-passes _ _ _ _ (le-ltb (length bytes) 1 (omega arith))
    ∙ refuse-passes _ _ _ _ refl
    ∙ refuse-passes _ _ _ _ (le-ltb (length bytes) 4 (omega arith))
    ∙ refuse-passes _ _ _ _ (lt-leb k o h.0)
    ∙ refuse-passes _ _ _ _ (ap not h.1)
    ∙ refuse-passes _ _ _ _ (ap not h.2)
bytes-checked m k (ProjectingOut o old) rest h =
    let bytes : List ℕ = 34 ∷ o ∷ old ∷ rest in
    refuse-passes _ _ _ _ (le-ltb (length bytes) 1 (omega arith))
    ∙ refuse-passes _ _ _ _ refl
    ∙ refuse-passes _ _ _ _ (le-ltb (length bytes) 3 (omega arith))
    ∙ refuse-passes _ _ _ _ (lt-leb k o h.0)
    ∙ refuse-passes _ _ _ _ (ap not h.1)

-- they are those of that node
pub bytes-node : (node : Node) (rest : List ℕ) → node_of (node_bytes node ++ rest) ≡ node
unfolding node_of
bytes-node (Relation r) rest = refl
bytes-node (Binary op l r) rest = ap (λ (o : BinaryOp). Binary o l r) (code-known op).1
bytes-node (WithSet op k s) rest =
    let value : bits_of s % 256 + bits_of s / 256 * 256 ≡ bits_of s = omega arith in
    ap₂ (λ (o : SetOp) (t : AttrSet). WithSet o k t) (set-code-known op).1 (ap set_of value ∙ set-bits s)
bytes-node (Renaming k old new) rest = refl
bytes-node (ProjectingOut k old) rest = refl

-- ---- and back: what is read is made of its node's bytes

-- a code of map 14 is that of its operator
code-back : (c : ℕ) → in_range 1 4 c ≡ true → binary_code (binary_of c) ≡ c
unfolding binary_of
code-back c e = let range = in-range 1 4 c e in go range.0 range.1 (eqb c 1) refl (eqb c 2) refl (eqb c 3) refl
  where
    fourth : (c : ℕ) → 1 ≤ c → c ≤ 4 → (c ≡ 1 → ⊥) → (c ≡ 2 → ⊥) → (c ≡ 3 → ⊥) → 4 ≡ c
    fourth c l h a b d = omega arith

    go :
        1 ≤ c
        → c ≤ 4
        → (s : Bool)
        → eqb c 1 ≡ s
        → (t : Bool)
        → eqb c 2 ≡ t
        → (u : Bool)
        → eqb c 3 ≡ u
        → binary_code (cond s Union (cond t Difference (cond u Join Product))) ≡ c
    go l h true i t j u k = sym (eqb-true c 1 i)
    go l h false i true j u k = sym (eqb-true c 2 j)
    go l h false i false j true k = sym (eqb-true c 3 k)
    go l h false i false j false k = fourth c l h (eqb-false c 1 i) (eqb-false c 2 j) (eqb-false c 3 k)

-- and so is one of map 26
set-code-back : (c : ℕ) → in_range 5 6 c ≡ true → set_code (set_op_of c) ≡ c
unfolding set_op_of
set-code-back c e = let range = in-range 5 6 c e in go range.0 range.1 (eqb c 5) refl
  where
    sixth : (c : ℕ) → 5 ≤ c → c ≤ 6 → (c ≡ 5 → ⊥) → 6 ≡ c
    sixth c l h a = omega arith

    go : 5 ≤ c → c ≤ 6 → (s : Bool) → eqb c 5 ≡ s → set_code (cond s Selection Projection) ≡ c
    go l h true i = sym (eqb-true c 5 i)
    go l h false i = sixth c l h (eqb-false c 5 i)

module _ (m k : ℕ) (bytes : List ℕ) (size : ℕ) where
  never : (r : Refusal) → Err r ≡ Ok size → ⊥
  never r e = let z : ◌≡◌ {A = ℕ} 0 1 = cc in omega arith

  -- a test that did not refuse, and what comes after it
  past : (t : Bool) (r : Refusal) (next : Result ℕ Refusal) → refuse Err t r next ≡ Ok size → (t ≡ false) × (next ≡ Ok size)
  past t r next e = refuse-past Err t r next (never r) e

  -- the code of a node of map 14 that passed
  binary-code : check_fields m k 14 bytes ≡ Ok size → in_range 1 4 (get_or bytes 3 0) ≡ true
  unfolding check_fields size_of
  binary-code e =
      let enough = past _ _ _ e in
      let left = past _ _ _ enough.1 in
      let right = past _ _ _ left.1 in
      not-false _ (past _ _ _ right.1).0

  -- and of map 26
  set-code : check_fields m k 26 bytes ≡ Ok size → in_range 5 6 (get_or bytes 2 0) ≡ true
  unfolding check_fields size_of
  set-code e =
      let enough = past _ _ _ e in
      let operand = past _ _ _ enough.1 in
      not-false _ (past _ _ _ operand.1).0

  -- the fields passed
  fields-passed : check_node m k bytes ≡ Ok size → check_fields m k (get_or bytes 0 0) bytes ≡ Ok size
  unfolding check_node
  fields-passed e = (past _ _ _ (past _ _ _ e).1).1

-- the first bytes, one by one

front-2 : (bytes : List ℕ) → 2 ≤ length bytes → take 2 bytes ≡ get_or bytes 0 0 ∷ get_or bytes 1 0 ∷ []
front-2 (a ∷ b ∷ r) h = refl
front-2 (a ∷ []) h = absurd (omega arith)
front-2 [] h = absurd (omega arith)

front-3 : (bytes : List ℕ) → 3 ≤ length bytes → take 3 bytes ≡ get_or bytes 0 0 ∷ get_or bytes 1 0 ∷ get_or bytes 2 0 ∷ []
front-3 [] h = absurd (omega arith)
front-3 (a ∷ r) h = ap (λ (l : List ℕ). a ∷ l) (front-2 r (omega arith))

front-4 : (bytes : List ℕ) → 4 ≤ length bytes → take 4 bytes ≡ get_or bytes 0 0 ∷ get_or bytes 1 0 ∷ get_or bytes 2 0 ∷ get_or bytes 3 0 ∷ []
front-4 [] h = absurd (omega arith)
front-4 (a ∷ r) h = ap (λ (l : List ℕ). a ∷ l) (front-3 r (omega arith))

front-5 : (bytes : List ℕ) → 5 ≤ length bytes → take 5 bytes ≡ get_or bytes 0 0 ∷ get_or bytes 1 0 ∷ get_or bytes 2 0 ∷ get_or bytes 3 0 ∷ get_or bytes 4 0 ∷ []
front-5 [] h = absurd (omega arith)
front-5 (a ∷ r) h = ap (λ (l : List ℕ). a ∷ l) (front-4 r (omega arith))

-- two bytes of a set, from its bits
set-parts : (low high : ℕ) → low < 256 → (bits_of (set_of (low + high * 256)) % 256 ≡ low) × (bits_of (set_of (low + high * 256)) / 256 ≡ high)
set-parts low high h = rw (bits-set (low + high * 256)) (omega arith, omega arith)

-- what is read as a node is that node's bytes, and no other bytes are read as it
pub read-bytes : (m k : ℕ) (bytes : List ℕ) (node : Node) (size : ℕ) → Bytes bytes → read_node m k bytes ≡ Read node size → take size bytes ≡ node_bytes node
unfolding size_of node_of
read-bytes m k bytes node size small e =
    let c = read-checked m k bytes node size e in
    let p = node-passed m k bytes size c.0 in
    let fits = subst (λ (n : ℕ). n ≤ length bytes) p.size_is p.reading.fits in
    let set = set-parts (get_or bytes 3 0) (get_or bytes 4 0) (small 3) in
    let cases =
    legal-cases (get_or bytes 0 0) (λ (map : ℕ). get_or bytes 0 0 ≡ map → check_fields m k map bytes ≡ Ok size → size_of map ≤ length bytes → take (size_of map) bytes ≡ node_bytes (node_with map (value_of map bytes)))
    (λ is f h. front-2 bytes h ∙ ap (λ (x : ℕ). x ∷ get_or bytes 1 0 ∷ []) is)
    (λ is f h. front-4 bytes h ∙ ap₂ (λ (x y : ℕ). x ∷ get_or bytes 1 0 ∷ get_or bytes 2 0 ∷ y ∷ []) is (sym (code-back (get_or bytes 3 0) (binary-code m k bytes size f))))
    (λ is f h. front-5 bytes h
    ∙ ap₂ (λ (x y : ℕ). x ∷ get_or bytes 1 0 ∷ y ∷ get_or bytes 3 0 ∷ get_or bytes 4 0 ∷ []) is (sym (set-code-back (get_or bytes 2 0) (set-code m k bytes size f)))
    ∙ ap₂ (λ (x y : ℕ). 26 ∷ get_or bytes 1 0 ∷ set_code (set_op_of (get_or bytes 2 0)) ∷ x ∷ y ∷ []) (sym set.0) (sym set.1))
    (λ is f h. front-4 bytes h ∙ ap (λ (x : ℕ). x ∷ get_or bytes 1 0 ∷ get_or bytes 2 0 ∷ get_or bytes 3 0 ∷ []) is)
    (λ is f h. front-3 bytes h ∙ ap (λ (x : ℕ). x ∷ get_or bytes 1 0 ∷ get_or bytes 2 0 ∷ []) is)
    c.3
    in
    ap (λ (n : ℕ). take n bytes) c.2 ∙ cases refl (fields-passed m k bytes size c.0) fits ∙ ap node_bytes (sym c.1)
