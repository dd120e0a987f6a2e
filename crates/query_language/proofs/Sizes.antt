-- The length of a query's text.
use Rattle.std.specs.Prelude.{ℕ, ◌+◌, ◌≤◌, ◌≡◌, List, ◌∷◌, ◌++◌, length, drop, []}
use Rattle.std.proofs.Common.{ap, ◌∙◌, arith, length-append, length-drop}
use Rattle.node.specs.declared.nodes.BinaryOp.{BinaryOp}
use Rattle.query_language.specs.Query.{Query, pair, sign_byte, query_before, query_text, node_count}
use Rattle.query_language.specs.OperandLaws.{OperandRead, count-least, count-some}
use Rattle.query_language.specs.Language.{query-append}
use Rattle.query_language.specs.Sizes.{query_size}

-- ---- a text and what follows it

pub before_text : (q : Query) (rest : List ℕ) → query_before q rest ≡ query_text q ++ rest
before_text q rest = query-append q [] rest

before-size : (q : Query) (rest : List ℕ) → length (query_before q rest) ≡ query_size q + length rest
before-size q rest = ap length (before_text q rest) ∙ length-append (query_text q) rest

pub pair_size : (op : BinaryOp) (l r : Query) → query_size (pair op l r) ≡ 1 + (query_size l + (1 + (query_size r + 1)))
unfolding query_before
pair_size op l r =
    let a = before-size l (sign_byte op ∷ query_before r (41 ∷ [])) in
    let b = before-size r (41 ∷ []) in
    omega arith

-- ---- laws of sizes

-- a node has two bytes or more
pub count-size : (q : Query) → node_count q + node_count q ≤ query_size q
count-size q = let h = count-least q [] in omega arith

pub query-some : (q : Query) → 1 ≤ query_size q
query-some q = let a = count-size q in let b = count-some q in omega arith

-- the place after what was read
pub operand-end : (text : List ℕ) (at : ℕ) (q : Query) (next : ℕ) → at ≤ length text → OperandRead text at q next → next ≡ at + query_size q
operand-end text at q next h read =
    let long = before-size q (drop next text) in
    let left = length-drop at text in
    let right = length-drop next text in
    let same : length (drop at text) ≡ length (query_before q (drop next text)) = ap length read.text-is in
    let within = read.within in
    omega arith
