-- Queries typed as text (FORMAT 11.1 to 11.6): the tree of a query, what can be written, and the text of a tree.
use Rattle.std.specs.Prelude.{ℕ, ◌+◌, ◌/◌, ◌%◌, ◌≤◌, ◌<◌, ◌≡◌, cond, List, [], ◌∷◌, ltb}
use Rattle.node.specs.declared.nodes.BinaryOp.{BinaryOp}
use Rattle.node.specs.declared.nodes.BinaryOp.TheVariants.{Union, Difference, Join, Product}
use Rattle.node.specs.declared.nodes.SetOp.{SetOp}
use Rattle.node.specs.declared.nodes.SetOp.TheVariants.{Selection, Projection}

-- FORMAT 11.3: what stands before an operand
pub data Prefix : Type 0 where
  with_set : SetOp → List ℕ → Prefix
  -- old, then new
  renaming : ℕ → ℕ → Prefix
  projecting_out : ℕ → Prefix

-- FORMAT 11.1: a relation, a pair of operands, or an operand after a prefix
pub data Query : Type 0 where
  relation : ℕ → Query
  pair : BinaryOp → Query → Query → Query
  prefixed : Prefix → Query → Query

-- ---- the text of each, before what follows it

-- FORMAT 11.2: + union, - difference, * join, # product
abbrev pub sign_byte : BinaryOp → ℕ
sign_byte Union = 43
sign_byte Difference = 45
sign_byte Join = 42
sign_byte Product = 35

-- FORMAT 11.3: S selection, P projection
abbrev pub letter_byte : SetOp → ℕ
letter_byte Selection = 83
letter_byte Projection = 80

-- FORMAT 11.4: one or two digits, no leading zero but 0 itself
unfoldable pub number_before : ℕ → List ℕ → List ℕ
number_before n rest = cond (ltb n 10) ((48 + n) ∷ rest) ((48 + n / 10) ∷ (48 + n % 10) ∷ rest)

-- FORMAT 11.3: a number, after each comma one more, and the bracket that closes the list
unfoldable pub items_before : ℕ → List ℕ → List ℕ → List ℕ
items_before n [] rest = number_before n (93 ∷ rest)
items_before n (k ∷ ks) rest = number_before n (44 ∷ items_before k ks rest)

-- FORMAT 11.3: a list after the bracket that opens it; it may be empty
unfoldable pub list_before : List ℕ → List ℕ → List ℕ
list_before [] rest = 93 ∷ rest
list_before (n ∷ ns) rest = items_before n ns rest

-- FORMAT 11.3: S[..], P[..], N[old>new], D[old]
unfoldable pub prefix_before : Prefix → List ℕ → List ℕ
prefix_before (with_set op ns) rest = letter_byte op ∷ 91 ∷ list_before ns rest
prefix_before (renaming old new) rest = 78 ∷ 91 ∷ number_before old (62 ∷ number_before new (93 ∷ rest))
prefix_before (projecting_out old) rest = 68 ∷ 91 ∷ number_before old (93 ∷ rest)

-- FORMAT 11.1, 11.2: r and a digit; a pair in parentheses around its sign; a prefix and its operand
unfoldable pub query_before : Query → List ℕ → List ℕ
query_before (relation r) rest = 114 ∷ (48 + r) ∷ rest
query_before (pair op l r) rest = 40 ∷ query_before l (sign_byte op ∷ query_before r (41 ∷ rest))
query_before (prefixed p q) rest = prefix_before p (query_before q rest)

-- FORMAT 11.1: the text of a query
abbrev pub query_text : Query → List ℕ
query_text q = query_before q []

-- ---- what can be written

-- FORMAT 11.3, 11.4: numbers of at most two digits, rising, none below `low`
abbrev pub RisingFrom : ℕ → List ℕ → Type 0
RisingFrom low [] = Unit {0}
RisingFrom low (n ∷ ns) = (low ≤ n) × (n < 100) × RisingFrom (n + 1) ns

-- FORMAT 11.3, 11.4: a rising list, numbers of at most two digits
abbrev pub WrittenPrefix : Prefix → Type 0
WrittenPrefix (with_set op ns) = RisingFrom 0 ns
WrittenPrefix (renaming old new) = (old < 100) × (new < 100)
WrittenPrefix (projecting_out old) = old < 100

-- FORMAT 11.1: relations of one digit, and prefixes that can be written
abbrev pub Written : Query → Type 0
Written (relation r) = r < 10
Written (pair op l r) = Written l × Written r
Written (prefixed p q) = WrittenPrefix p × Written q

-- FORMAT 11.5: in the language, as the text of this tree
pub record InLanguage (text : List ℕ) (q : Query) : Type 0 where
  pub written : Written q
  pub text-is : text ≡ query_text q

-- ---- nodes

-- FORMAT 11.6: each relation, each pair and each prefix is a node
abbrev pub node_count : Query → ℕ
node_count (relation r) = 1
node_count (pair op l r) = node_count l + node_count r + 1
node_count (prefixed p q) = node_count q + 1
