-- The parts of a query's text (FORMAT 11.6): each relation, pair and prefixed operand with the place where its text
-- begins and the place after it, in the order in which they are numbered as nodes.
use Rattle.std.specs.Prelude.{ℕ, ◌+◌, ◌≤◌, ◌≡◌, List, ◌∷◌, ◌++◌, drop, []}
use Rattle.std.proofs.Common.{sym, ap, ◌∙◌, arith}
use Rattle.query_language.specs.Query.{Query, relation, pair, prefixed, sign_byte, prefix_before, query_before, query_text}
use Rattle.query_language.specs.PrefixLaws.{prefix-least}
use Rattle.query_language.specs.Sizes.{query_size, prefix_size, before-prefix, pair-before, prefixed-before, prefixed-size, past}
use Rattle.query_language.proofs.Sizes.{before_text, pair_size, query-some}
use Rattle.query_language.specs.Parts.{Each, Ordered, StandsIn, Within, all-earlier, before-whole, each-one, each_append, earlier-both, ordered-append, ordered-one, parts_from, whole_part, wider}

-- ---- a part lies in the text of the whole

whole-within : (at low : ℕ) (q : Query) → low ≤ at → Within low (at + query_size q) (whole_part at q)
whole-within at low q h = let some = query-some q in record { from = h; some = omega arith; upto = omega arith }

parts_within : (at : ℕ) (q : Query) → Each (Within at (at + query_size q)) (parts_from at q)
unfolding parts_from
parts_within at (relation r) = each-one (Within at (at + query_size (relation r))) (whole_part at (relation r)) (whole-within at at (relation r) (omega arith))
parts_within at (pair op l r) =
    let size = pair_size op l r in
    let high = at + query_size (pair op l r) in
    let rights = at + 1 + query_size l + 1 in
    let left = wider (at + 1) (at + 1 + query_size l) at high (parts_from (at + 1) l) (omega arith) (omega arith) (parts_within (at + 1) l) in
    let right = wider rights (rights + query_size r) at high (parts_from rights r) (omega arith) (omega arith) (parts_within rights r) in
    let last = each-one (Within at high) (whole_part at (pair op l r)) (whole-within at at (pair op l r) (omega arith)) in
    each_append (Within at high) (parts_from (at + 1) l) _ left (each_append (Within at high) (parts_from rights r) _ right last)
parts_within at (prefixed p q) =
    let size = prefixed-size p q in
    let high = at + query_size (prefixed p q) in
    let inner = wider (at + prefix_size p) (at + prefix_size p + query_size q) at high (parts_from (at + prefix_size p) q) (omega arith) (omega arith) (parts_within (at + prefix_size p) q) in
    each_append (Within at high) (parts_from (at + prefix_size p) q) _ inner (each-one (Within at high) (whole_part at (prefixed p q)) (whole-within at at (prefixed p q) (omega arith)))

-- ---- their order

-- FORMAT 11.6: the parts are in the order in which their texts end, an operand before the part that has it
pub parts-ordered : (at : ℕ) (q : Query) → Ordered (parts_from at q)
unfolding parts_from
parts-ordered at (relation r) = ordered-one (whole_part at (relation r))
parts-ordered at (pair op l r) =
    let size = pair_size op l r in
    let rights = at + 1 + query_size l + 1 in
    let lefts = parts_from (at + 1) l in
    let others = parts_from rights r in
    let last = whole_part at (pair op l r) ∷ [] in
    let left = parts_within (at + 1) l in
    let right = parts_within rights r in
    let high = at + query_size (pair op l r) in
    let left-last = before-whole (at + 1) at (pair op l r) lefts (omega arith) (wider (at + 1) (at + 1 + query_size l) (at + 1) high lefts (omega arith) (omega arith) left) in
    let right-last = before-whole (at + 1) at (pair op l r) others (omega arith) (wider rights (rights + query_size r) (at + 1) high others (omega arith) (omega arith) right) in
    let left-right = all-earlier (at + 1) rights (rights + query_size r) lefts others (wider (at + 1) (at + 1 + query_size l) (at + 1) rights lefts (omega arith) (omega arith) left) right in
    ordered-append lefts (others ++ last) (parts-ordered (at + 1) l)
    (ordered-append others last (parts-ordered rights r) (ordered-one (whole_part at (pair op l r))) right-last)
    (earlier-both lefts others last left-right left-last)
parts-ordered at (prefixed p q) =
    let size = prefixed-size p q in
    let least = prefix-least p [] in
    let inner = parts_from (at + prefix_size p) q in
    let high = at + query_size (prefixed p q) in
    ordered-append inner (whole_part at (prefixed p q) ∷ []) (parts-ordered (at + prefix_size p) q) (ordered-one (whole_part at (prefixed p q)))
    (before-whole (at + prefix_size p) at (prefixed p q) inner (omega arith) (wider (at + prefix_size p) (at + prefix_size p + query_size q) (at + prefix_size p) high inner (omega arith) (omega arith) (parts_within (at + prefix_size p) q)))

-- ---- their texts

whole-stands : (text : List ℕ) (at : ℕ) (q : Query) (rest : List ℕ) → drop at text ≡ query_before q rest → StandsIn text (whole_part at q)
unfolding StandsIn
whole-stands text at q rest e = e ∙ ap (query_before q) (sym (past text at (query_text q) rest (e ∙ before_text q rest)))

-- FORMAT 11.6: each part's text stands at its place
pub parts-stand : (text : List ℕ) (at : ℕ) (q : Query) (rest : List ℕ) → drop at text ≡ query_before q rest → Each (StandsIn text) (parts_from at q)
unfolding parts_from
parts-stand text at (relation r) rest e = each-one (StandsIn text) (whole_part at (relation r)) (whole-stands text at (relation r) rest e)
parts-stand text at (pair op l r) rest e =
    let whole = whole-stands text at (pair op l r) rest e in
    let right = query_before r (41 ∷ rest) in
    let left_is : drop (at + 1) text ≡ query_before l (sign_byte op ∷ right) = past text at (40 ∷ []) (query_before l (sign_byte op ∷ right)) (e ∙ pair-before op l r rest) in
    let sign-is : drop (at + 1 + query_size l) text ≡ sign_byte op ∷ right = past text (at + 1) (query_text l) (sign_byte op ∷ right) (left_is ∙ before_text l (sign_byte op ∷ right)) in
    let right_is : drop (at + 1 + query_size l + 1) text ≡ right = past text (at + 1 + query_size l) (sign_byte op ∷ []) right sign-is in
    each_append (StandsIn text) (parts_from (at + 1) l) _ (parts-stand text (at + 1) l (sign_byte op ∷ right) left_is)
    (each_append (StandsIn text) (parts_from (at + 1 + query_size l + 1) r) _ (parts-stand text (at + 1 + query_size l + 1) r (41 ∷ rest) right_is) (each-one (StandsIn text) (whole_part at (pair op l r)) whole))
parts-stand text at (prefixed p q) rest e =
    let whole = whole-stands text at (prefixed p q) rest e in
    let inner-is : drop (at + prefix_size p) text ≡ query_before q rest = past text at (prefix_before p []) (query_before q rest) (e ∙ prefixed-before p q rest ∙ before-prefix p (query_before q rest)) in
    each_append (StandsIn text) (parts_from (at + prefix_size p) q) _ (parts-stand text (at + prefix_size p) q rest inner-is) (each-one (StandsIn text) (whole_part at (prefixed p q)) whole)
