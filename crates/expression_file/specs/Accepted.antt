-- What an accepted file is made of: the counts in their ranges, and as many entries as the second count says.
use Rattle.std.specs.Prelude.{ℕ, zero, suc, ◌+◌, ◌≤◌, ◌≡◌, refl, Bool, false, List, [], ◌∷◌, ◌++◌, length, get_or, take, drop, Result, Err, Ok}
use Rattle.std.proofs.Common.{sym, ap, ap₂, subst, ◌∙◌, arith, ltb-false, lit≤, length-take-le, take_at, drop_at}
use Rattle.std.proofs.lemmas.Bool.{not-false}
use Rattle.bits.specs.Range.{in_range, in-range}
use Rattle.refusal.specs.declared.Refusal.{Refusal}
use Rattle.refusal.specs.Chain.{refuse, refuse-has, refuse-past}
use Rattle.refusal.specs.Number.{number_of}
use Rattle.refusal.specs.Several.{several_refused as nodes_refused, several_read as nodes_read, precede}
use Rattle.node.specs.declared.nodes.Node.{Node}
use Rattle.node.specs.ReadNode.{read_node, Read}
use Rattle.expression_file.specs.ReadFile.{PlacedNode, Nodes, follow, read_nodes, collect, after_header, header, parse, answer, acceptance, nodes_in, placed_nodes, Accepted}
use Rattle.node.proofs.Enough.{node-local}
use Rattle.node.specs.Reading.{node-legal, node-refused}
use Rattle.node.specs.declared.nodes.Decoding.{Decoding}
use Rattle.expression_file.specs.declared.files.Header.{Header}

-- ---- the counts

-- one acceptance has one m and one n
pub accepted-parts : {m n m' n' : ℕ} → Accepted m n ≡ Accepted m' n' → (m ≡ m') × (n ≡ n')
accepted-parts {m} {n} {m'} {n'} e =
    let same : ◌≡◌ {A = Header} (record { relations = m; nodes = n }) (record { relations = m'; nodes = n' }) = cc in
    (ap (λ (h : Header). h.relations) same, ap (λ (h : Header). h.nodes) same)

-- FORMAT 1.1: m and n are the first two bytes, and in their ranges
pub record Counts (file : List ℕ) (m n : ℕ) : Type 0 where
  pub header : 2 ≤ length file
  pub first : get_or file 0 0 ≡ m
  pub second : get_or file 1 0 ≡ n
  pub relations : (1 ≤ m) × (m ≤ 8)
  pub nodes : (1 ≤ n) × (n ≤ 64)

passed : (t : Bool) (r : Refusal) {next : Result Header Refusal} {m n : ℕ} → refuse Err t r next ≡ Accepted m n → (t ≡ false) × (next ≡ Accepted m n)
passed t r {next} = refuse-past Err t r next (λ e. let z : ◌≡◌ {A = ℕ} 0 1 = cc in omega arith)

pub header-counts : (file : List ℕ) (m n : ℕ) → header file ≡ Accepted m n → Counts file m n
unfolding header
header-counts file m n e =
    let long = passed _ _ e in
    let relations = passed _ _ long.1 in
    let nodes = passed _ _ relations.1 in
    let parts = accepted-parts nodes.1 in
    let m-is : get_or file 0 0 ≡ m = parts.0 in
    let n-is : get_or file 1 0 ≡ n = parts.1 in
    record {
      header = ltb-false _ _ long.0;
      first = m-is;
      second = n-is;
      relations = rw m-is at (in-range 1 8 (get_or file 0 0) (not-false (in_range 1 8 (get_or file 0 0)) relations.0));
      nodes = rw n-is at (in-range 1 64 (get_or file 1 0) (not-false (in_range 1 64 (get_or file 1 0)) nodes.0));
    }

-- ---- the nodes

-- the first of the nodes that were read, and the rest
pub record FirstNode (m count k : ℕ) (bytes : List ℕ) (es : List PlacedNode) : Type 0 where
  pub first : PlacedNode
  pub others : List PlacedNode
  pub entries : es ≡ first ∷ others
  pub reading : read_node m k bytes ≡ Read first.node (length first.bytes)
  pub part : first.bytes ≡ take (length first.bytes) bytes
  pub fits : length first.bytes ≤ length bytes
  pub rest : read_nodes m count (k + 1) (drop (length first.bytes) bytes) ≡ nodes_read others

pub first-node : (m count k : ℕ) (bytes : List ℕ) (es : List PlacedNode) → read_nodes m (suc count) k bytes ≡ nodes_read es → FirstNode m count k bytes es
unfolding read_nodes
first-node m count k bytes es = read (read_node m k bytes) refl
  where
    made :
        (node : Node) (size : ℕ) (others : List PlacedNode)
        → read_node m k bytes ≡ Read node size
        → read_nodes m count (k + 1) (drop size bytes) ≡ nodes_read others
        → es ≡ record { node = node; bytes = take size bytes } ∷ others
        → FirstNode m count k bytes es
    made node size others e rest entries =
        let fits = (node-legal m k bytes node size e).fits in
        let size_is : length (take size bytes) ≡ size = length-take-le size bytes fits in
        record {
          first = record { node = node; bytes = take size bytes };
          others = others;
          entries = entries;
          reading = rw size_is e;
          part = rw size_is;
          fits = rw size_is fits;
          rest = rw size_is rest;
        }

    follows :
        (node : Node) (size : ℕ) (rest : Nodes)
        → read_node m k bytes ≡ Read node size
        → read_nodes m count (k + 1) (drop size bytes) ≡ rest
        → precede (record { node = node; bytes = take size bytes }) rest ≡ nodes_read es
        → FirstNode m count k bytes es
    follows node size (nodes_refused r) e rest h = absurd (let z : ◌≡◌ {A = ℕ} 0 1 = cc in omega arith)
    follows node size (nodes_read others) e rest h = made node size others e rest (cc)

    read : (r : Result Decoding Refusal) → read_node m k bytes ≡ r → follow r bytes (λ rest. read_nodes m count (k + 1) rest) ≡ nodes_read es → FirstNode m count k bytes es
    read (Err r) e h = absurd (let z : ◌≡◌ {A = ℕ} 0 1 = cc in omega arith)
    read (Ok d) e h = follows d.node d.size _ e refl h

-- the other way: a node at the front, and the nodes that follow it
pub front-node :
    (m count k : ℕ) (own rest : List ℕ) (node : Node) (es : List PlacedNode)
    → read_node m k own ≡ Read node (length own)
    → read_nodes m count (k + 1) rest ≡ nodes_read es
    → read_nodes m (suc count) k (own ++ rest) ≡ nodes_read (record { node = node; bytes = own } ∷ es)
unfolding read_nodes
front-node m count k own rest node es reads follows =
    ap (λ (r : Result Decoding Refusal). follow r (own ++ rest) (λ bytes. read_nodes m count (k + 1) bytes)) (node-local m k own rest node (length own) reads)
    ∙ ap₂ (λ (a b : List ℕ). precede (record { node = node; bytes = a }) (read_nodes m count (k + 1) b)) (take_at own rest (length own) refl) (drop_at own rest (length own) refl)
    ∙ ap (precede (record { node = node; bytes = own })) follows

count-nodes : (m count k : ℕ) (bytes : List ℕ) (es : List PlacedNode) → read_nodes m count k bytes ≡ nodes_read es → length es ≡ count
unfolding read_nodes
count-nodes m zero k [] es e = let z : [] ≡ es = cc in ap length (sym z)
count-nodes m zero k (b ∷ bs) es e = absurd (let z : ◌≡◌ {A = ℕ} 0 1 = cc in omega arith)
count-nodes m (suc count) k bytes es e =
    let node = first-node m count k bytes es e in
    let others = count-nodes m count (k + 1) (drop (length node.first.bytes) bytes) node.others node.rest in
    rw node.entries (ap suc others)

-- ---- the file

-- an accepted file: its counts, and n nodes that were read
pub record AcceptedFile (file : List ℕ) (m n : ℕ) : Type 0 where
  pub header_read : header file ≡ Accepted m n
  pub counts : Counts file m n
  pub nodes : read_nodes m n 0 (drop 2 file) ≡ nodes_read (placed_nodes file)
  pub count : length (placed_nodes file) ≡ n

pub accepted-file : (file : List ℕ) (m n : ℕ) → acceptance file ≡ Accepted m n → AcceptedFile file m n
unfolding acceptance placed_nodes parse
accepted-file file m n = from (header file) refl
  where
    made :
        (m' n' : ℕ)
        → header file ≡ Accepted m' n'
        → (ns : Nodes)
        → read_nodes m' n' 0 (drop 2 file) ≡ ns
        → answer (collect m' n' ns) ≡ Accepted m n
        → placed_nodes file ≡ nodes_in (collect m' n' ns)
        → AcceptedFile file m n
    made m' n' h (nodes_refused r) e a i = absurd (let z : ◌≡◌ {A = ℕ} 0 1 = cc in omega arith)
    made m' n' h (nodes_read es) e a i =
        let parts = accepted-parts a in
        let m-is : m' ≡ m = parts.0 in
        let n-is : n' ≡ n = parts.1 in
        let whole : AcceptedFile file m' n' = record {
          header_read = h;
          counts = header-counts file m' n' h;
          nodes = e ∙ ap nodes_read (sym i);
          count = ap length i ∙ count-nodes m' n' 0 (drop 2 file) es e;
        } in
        rw (m-is, n-is) at whole

    from : (h : Result Header Refusal) → header file ≡ h → answer (after_header h file) ≡ Accepted m n → AcceptedFile file m n
    from (Err r) h a = absurd (let z : ◌≡◌ {A = ℕ} 0 1 = cc in omega arith)
    from (Ok counts) h a = made counts.relations counts.nodes h _ refl a (ap (λ (x : Result Header Refusal). nodes_in (after_header x file)) h)

-- the other way: a file with these counts, whose nodes are read
pub record FileRead (file : List ℕ) (m n : ℕ) (es : List PlacedNode) : Type 0 where
  pub accepted : acceptance file ≡ Accepted m n
  pub nodes : placed_nodes file ≡ es

pub read-file : (file : List ℕ) (m n : ℕ) (es : List PlacedNode) → header file ≡ Accepted m n → read_nodes m n 0 (drop 2 file) ≡ nodes_read es → FileRead file m n es
unfolding acceptance placed_nodes parse
read-file file m n es counts nodes =
    let whole : after_header (header file) file ≡ collect m n (nodes_read es) = ap (λ (h : Result Header Refusal). after_header h file) counts ∙ ap (collect m n) nodes in
    record { accepted = ap answer whole; nodes = ap nodes_in whole }

-- ---- a refused file's number is one of 1 to 10

-- an acceptance, or a refusal of 1 to 10
data SmallNumber : Result Header Refusal → Type 0 where
  accepted : {m n : ℕ} → SmallNumber (Accepted m n)
  refused : {r : Refusal} → number_of r ≤ 10 → SmallNumber (Err r)

small-refuse : (t : Bool) (r : Refusal) {next : Result Header Refusal} → number_of r ≤ 10 → SmallNumber next → SmallNumber (refuse Err t r next)
small-refuse t r {next} h s = refuse-has SmallNumber Err t r next (refused h) (λ e. s)

small-header : (file : List ℕ) → SmallNumber (header file)
unfolding header
small-header file = small-refuse _ _ (lit≤ tt) (small-refuse _ _ (lit≤ tt) (small-refuse _ _ (lit≤ tt) accepted))

small-follow :
    (m n k : ℕ) (bytes : List ℕ) (rest : List ℕ → Nodes)
    → ((bs : List ℕ) → SmallNumber (answer (collect m n (rest bs))))
    → (r : Result Decoding Refusal)
    → read_node m k bytes ≡ r
    → SmallNumber (answer (collect m n (follow r bytes rest)))
small-follow m n k bytes rest h (Err r) e = refused (node-refused m k bytes r e)
small-follow m n k bytes rest h (Ok d) e = preceded (rest (drop d.size bytes)) (h (drop d.size bytes))
  where
    preceded : (ns : Nodes) → SmallNumber (answer (collect m n ns)) → SmallNumber (answer (collect m n (precede (record { node = d.node; bytes = take d.size bytes }) ns)))
    preceded (nodes_refused r) s = s
    preceded (nodes_read es) s = s

small-nodes : (m n count k : ℕ) (bytes : List ℕ) → SmallNumber (answer (collect m n (read_nodes m count k bytes)))
unfolding read_nodes
small-nodes m n zero k [] = accepted
small-nodes m n zero k (b ∷ bs) = refused (lit≤ tt)
small-nodes m n (suc count) k bytes =
    small-follow m n k bytes (λ rest. read_nodes m count (k + 1) rest) (small-nodes m n count (k + 1)) (read_node m k bytes) refl

small-file : (file : List ℕ) → SmallNumber (acceptance file)
unfolding acceptance parse
small-file file = go (header file) (small-header file)
  where
    go : (h : Result Header Refusal) → SmallNumber h → SmallNumber (answer (after_header h file))
    go (Err r) s = s
    go (Ok h) s = small-nodes h.relations h.nodes h.nodes 0 (drop 2 file)

small-number : {r : Refusal} → SmallNumber (Err r) → number_of r ≤ 10
small-number (refused h) = h

pub file-refused : (file : List ℕ) (r : Refusal) → acceptance file ≡ Err r → number_of r ≤ 10
file-refused file r e = small-number (subst SmallNumber e (small-file file))
