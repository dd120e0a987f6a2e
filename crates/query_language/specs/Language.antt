-- The language and its reader (FORMAT 11.5): what is read is in the language, all of it is read, each text as one
-- query, and no text of the language is the beginning of another.
use Rattle.std.specs.Prelude.{ℕ, ◌+◌, ◌/◌, ◌%◌, ◌≡◌, refl, Bool, true, false, cond, List, ◌∷◌, ◌++◌, ltb, []}
use Rattle.std.proofs.Common.{ap, ◌∙◌}
use Rattle.query_language.specs.Query.{Prefix, with_set, renaming, projecting_out, Query, relation, pair, prefixed, sign_byte, letter_byte, number_before, items_before, list_before, prefix_before, query_before}

-- ---- no text is the beginning of another

number_append : (n : ℕ) (rest more : List ℕ) → number_before n (rest ++ more) ≡ number_before n rest ++ more
unfolding number_before
number_append n rest more = go (ltb n 10)
  where
    go : (t : Bool) → cond t ((48 + n) ∷ (rest ++ more)) ((48 + n / 10) ∷ (48 + n % 10) ∷ (rest ++ more)) ≡ cond t ((48 + n) ∷ rest) ((48 + n / 10) ∷ (48 + n % 10) ∷ rest) ++ more
    go true = refl
    go false = refl

items-append : (n : ℕ) (ns rest more : List ℕ) → items_before n ns (rest ++ more) ≡ items_before n ns rest ++ more
unfolding items_before
items-append n [] rest more = number_append n (93 ∷ rest) more
items-append n (k ∷ ks) rest more = ap (λ (l : List ℕ). number_before n (44 ∷ l)) (items-append k ks rest more) ∙ number_append n (44 ∷ items_before k ks rest) more

pub prefix-append : (p : Prefix) (rest more : List ℕ) → prefix_before p (rest ++ more) ≡ prefix_before p rest ++ more
unfolding prefix_before list_before
prefix-append (with_set op []) rest more = refl
prefix-append (with_set op (n ∷ ns)) rest more = ap (λ (l : List ℕ). letter_byte op ∷ 91 ∷ l) (items-append n ns rest more)
prefix-append (renaming old new) rest more =
    ap (λ (l : List ℕ). 78 ∷ 91 ∷ number_before old (62 ∷ l)) (number_append new (93 ∷ rest) more)
    ∙ ap (λ (l : List ℕ). 78 ∷ 91 ∷ l) (number_append old (62 ∷ number_before new (93 ∷ rest)) more)
prefix-append (projecting_out old) rest more = ap (λ (l : List ℕ). 68 ∷ 91 ∷ l) (number_append old (93 ∷ rest) more)

pub query-append : (q : Query) (rest more : List ℕ) → query_before q (rest ++ more) ≡ query_before q rest ++ more
unfolding query_before
query-append (relation r) rest more = refl
query-append (pair op l r) rest more =
    ap (λ (x : List ℕ). 40 ∷ query_before l (sign_byte op ∷ x)) (query-append r (41 ∷ rest) more)
    ∙ ap (λ (x : List ℕ). 40 ∷ x) (query-append l (sign_byte op ∷ query_before r (41 ∷ rest)) more)
query-append (prefixed p q) rest more = ap (prefix_before p) (query-append q rest more) ∙ prefix-append p (query_before q rest) more
