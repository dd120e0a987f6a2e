-- How a text is read (FORMAT 11.1 to 11.5): each reader knows by the byte at its place what stands there.
use Rattle.std.specs.Prelude.{ℕ, zero, suc, ◌+◌, ◌-◌, ◌*◌, Bool, cond, List, [], ◌∷◌, eqb, leb, length, get_or}
use Rattle.bits.specs.Range.{in_range}
use Rattle.node.specs.declared.nodes.BinaryOp.{BinaryOp}
use Rattle.node.specs.declared.nodes.BinaryOp.TheVariants.{Union, Difference, Join, Product}
use Rattle.node.specs.declared.nodes.SetOp.{SetOp}
use Rattle.node.specs.declared.nodes.SetOp.TheVariants.{Selection, Projection}
use Rattle.query_language.specs.Parsed.{Parsed, missing, found, and_then, provided}
use Rattle.query_language.specs.Query.{Prefix, with_set, renaming, projecting_out, Query, relation, pair, prefixed}

-- a byte 0 to 9
unfoldable pub is_digit : ℕ → Bool
is_digit b = in_range 48 57 b

-- ---- numbers

-- FORMAT 11.4: the number that begins with byte b, where byte c comes after it
unfoldable pub number_of : ℕ → ℕ → ℕ → Parsed ℕ
number_of b c at =
    provided (is_digit b)
    (cond (eqb b 48) (found 0 (at + 1)) (cond (is_digit c) (found ((b - 48) * 10 + (c - 48)) (at + 2)) (found (b - 48) (at + 1))))

-- FORMAT 11.4: the number at a place
unfoldable pub number_at : List ℕ → ℕ → Parsed ℕ
number_at text at = number_of (get_or text at 0) (get_or text (at + 1) 0) at

-- a number and the byte that ends it
unfoldable pub ended_number : List ℕ → ℕ → ℕ → Parsed ℕ
ended_number text b at = and_then (number_at text at) λ n next. provided (eqb (get_or text next 0) b) (found n (next + 1))

-- ---- lists

-- FORMAT 11.3: items at a place, none below `low`, where `rest` reads those after a comma
unfoldable pub items_with : (ℕ → ℕ → Parsed (List ℕ)) → List ℕ → ℕ → ℕ → Parsed (List ℕ)
items_with rest text low at =
    and_then (number_at text at) λ n next.
    provided (leb low n)
    (cond (eqb (get_or text next 0) 93) (found (n ∷ []) (next + 1))
    (provided (eqb (get_or text next 0) 44) (and_then (rest (n + 1) (next + 1)) λ ns end. found (n ∷ ns) end)))

-- at most so many of them
unfoldable pub items_within : ℕ → List ℕ → ℕ → ℕ → Parsed (List ℕ)
items_within zero text low at = missing
items_within (suc most) text low at = items_with (items_within most text) text low at

-- each has a byte, so no more than there are bytes
unfoldable pub items_at : List ℕ → ℕ → ℕ → Parsed (List ℕ)
items_at text = items_within (length text) text

-- FORMAT 11.3: the list at a place, after the bracket that opens it
unfoldable pub list_at : List ℕ → ℕ → Parsed (List ℕ)
list_at text at = cond (eqb (get_or text at 0) 93) (found [] (at + 1)) (items_at text 0 at)

-- ---- prefixes, each after the bracket that opens it

unfoldable pub set_at : SetOp → List ℕ → ℕ → Parsed Prefix
set_at op text at = and_then (list_at text at) λ ns next. found (with_set op ns) next

unfoldable pub renaming_at : List ℕ → ℕ → Parsed Prefix
renaming_at text at = and_then (ended_number text 62 at) λ old a. and_then (ended_number text 93 a) λ new b. found (renaming old new) b

unfoldable pub projecting_out_at : List ℕ → ℕ → Parsed Prefix
projecting_out_at text at = and_then (ended_number text 93 at) λ old next. found (projecting_out old) next

-- FORMAT 11.3: a letter, a bracket, and what the letter asks for
unfoldable pub prefix_at : List ℕ → ℕ → Parsed Prefix
prefix_at text at =
    provided (eqb (get_or text (at + 1) 0) 91)
    (cond (eqb (get_or text at 0) 83) (set_at Selection text (at + 2))
    (cond (eqb (get_or text at 0) 80) (set_at Projection text (at + 2))
    (cond (eqb (get_or text at 0) 78) (renaming_at text (at + 2))
    (provided (eqb (get_or text at 0) 68) (projecting_out_at text (at + 2))))))

-- ---- operands and pairs

-- FORMAT 11.2: the operator of a sign
unfoldable pub sign_of : ℕ → ℕ → Parsed BinaryOp
sign_of b next =
    cond (eqb b 43) (found Union next)
    (cond (eqb b 45) (found Difference next)
    (cond (eqb b 42) (found Join next)
    (provided (eqb b 35) (found Product next))))

-- FORMAT 11.2: the sign at a place
unfoldable pub sign_at : List ℕ → ℕ → Parsed BinaryOp
sign_at text at = sign_of (get_or text at 0) (at + 1)

-- FORMAT 11.1: the digit after r
unfoldable pub relation_at : List ℕ → ℕ → Parsed Query
relation_at text at = provided (is_digit (get_or text at 0)) (found (relation (get_or text at 0 - 48)) (at + 1))

-- FORMAT 11.2: a pair after its opening parenthesis, where `read` reads operands
unfoldable pub pair_with : (ℕ → Parsed Query) → List ℕ → ℕ → Parsed Query
pair_with read text at =
    and_then (read at) λ l a.
    and_then (sign_at text a) λ op b.
    and_then (read b) λ r c.
    provided (eqb (get_or text c 0) 41) (found (pair op l r) (c + 1))

-- FORMAT 11.3: a prefix and its operand
unfoldable pub prefixed_with : (ℕ → Parsed Query) → List ℕ → ℕ → Parsed Query
prefixed_with read text at = and_then (prefix_at text at) λ p a. and_then (read a) λ q b. found (prefixed p q) b

-- FORMAT 11.1: an operand, by its first byte
unfoldable pub operand_with : (ℕ → Parsed Query) → List ℕ → ℕ → Parsed Query
operand_with read text at =
    cond (eqb (get_or text at 0) 114) (relation_at text (at + 1))
    (cond (eqb (get_or text at 0) 40) (pair_with read text (at + 1)) (prefixed_with read text at))

-- an operand nested at most so deep
unfoldable pub operand_within : ℕ → List ℕ → ℕ → Parsed Query
operand_within zero text at = missing
operand_within (suc deep) text at = operand_with (operand_within deep text) text at

-- each level has a byte, so no deeper than there are bytes
unfoldable pub operand_at : List ℕ → ℕ → Parsed Query
operand_at text = operand_within (length text) text

-- FORMAT 11.5: the whole text is one operand
unfoldable pub parse_query : List ℕ → Parsed Query
parse_query text = and_then (operand_at text 0) λ q next. provided (eqb next (length text)) (found q next)
