-- The length of a query's text.
use Rattle.std.specs.Prelude.{ℕ, ◌+◌, ◌≤◌, ◌≡◌, refl, List, ◌∷◌, ◌++◌, length, drop, []}
use Rattle.std.proofs.Common.{sym, ap, ◌∙◌, arith, length-append, length-drop, drop-drop, drop_at}
use Rattle.node.specs.declared.nodes.BinaryOp.{BinaryOp}
use Rattle.query_language.specs.Query.{Prefix, Query, relation, pair, prefixed, sign_byte, prefix_before, query_before, query_text}
use Rattle.query_language.specs.PrefixLaws.{PrefixRead, prefix-least}
use Rattle.query_language.specs.Language.{prefix-append}

-- the bytes of a query's text
abbrev pub query_size : Query → ℕ
query_size q = length (query_text q)

-- the bytes of a prefix's text
abbrev pub prefix_size : Prefix → ℕ
prefix_size p = length (prefix_before p [])

-- ---- a text and what follows it

pub before-prefix : (p : Prefix) (rest : List ℕ) → prefix_before p rest ≡ prefix_before p [] ++ rest
before-prefix p rest = prefix-append p [] rest

pub prefixed-size : (p : Prefix) (q : Query) → query_size (prefixed p q) ≡ prefix_size p + query_size q
unfolding query_before
prefixed-size p q = ap length (before-prefix p (query_before q [])) ∙ length-append (prefix_before p []) (query_before q [])

pub pair-before : (op : BinaryOp) (l r : Query) (rest : List ℕ) → query_before (pair op l r) rest ≡ 40 ∷ query_before l (sign_byte op ∷ query_before r (41 ∷ rest))
unfolding query_before
pair-before op l r rest = refl

pub prefixed-before : (p : Prefix) (q : Query) (rest : List ℕ) → query_before (prefixed p q) rest ≡ prefix_before p (query_before q rest)
unfolding query_before
prefixed-before p q rest = refl

-- what comes after a piece of text
pub past : (text : List ℕ) (at : ℕ) (a b : List ℕ) → drop at text ≡ a ++ b → drop (at + length a) text ≡ b
past text at a b e = sym (drop-drop (length a) at text) ∙ ap (drop (length a)) e ∙ drop_at a b (length a) refl

-- ---- laws of sizes

pub relation-size : (r : ℕ) → query_size (relation r) ≡ 2
unfolding query_before
relation-size r = refl

pub prefix-some : (p : Prefix) → 3 ≤ prefix_size p
prefix-some p = let h = prefix-least p [] in omega arith

pub prefix-end : (text : List ℕ) (at : ℕ) (p : Prefix) (next : ℕ) → at ≤ length text → PrefixRead text at p next → next ≡ at + prefix_size p
prefix-end text at p next h read =
    let long = ap length (before-prefix p (drop next text)) ∙ length-append (prefix_before p []) (drop next text) in
    let left = length-drop at text in
    let right = length-drop next text in
    let same : length (drop at text) ≡ length (prefix_before p (drop next text)) = ap length read.text-is in
    let within = read.within in
    omega arith
