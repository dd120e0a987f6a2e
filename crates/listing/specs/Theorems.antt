-- What the verdict in the listing promises about types, over the typing rules: demand 3. The listing gives a verdict in
-- its first line, for the last node of an accepted file, and it is untypable exactly when no filled assignment types the
-- node: none under which every relation has an attribute.
-- A reader needs, besides this page:
--   FilledTyping   an assignment of types in which every relation has an attribute, and the type that the rules derive
--                  under it                                                             (crate principal, Principal)
--   expression_at   the expression of a node                                             (crate node_expression, NodeExpression)
--   node_text       the line of a node with its verdict                                  (crate listing_lines, Lines)
--   listed_answer, listed_text, listed_space   what the listing leaves, by its contract    (Listing)
use Rattle.std.specs.Prelude.{ℕ, ◌-◌, ◌≤◌, ◌≡◌, ◌↔◌, Bool, true, false, List, ◌++◌, length, take, Ok}
use Rattle.std.proofs.Common.{sym, subst, ◌∙◌, arith}
use Rattle.bits.specs.Booleans.{is_false}
use Rattle.algebra.specs.Expression.{Legal}
use Rattle.principal.specs.Principal.{FilledTyping}
use Rattle.expression_file.specs.ReadFile.{acceptance, Accepted}
use Rattle.expression_file.specs.Accepted.{accepted-file}
use Rattle.node_expression.specs.NodeExpression.{expression_at, expression-legal}
use Rattle.stored_formula.specs.Formula.{formula_space}
use Rattle.verdict_theorems.specs.WitnessLaws.{untypable-is, typable-typed}
use Rattle.listing_lines.specs.Text.{is_untypable}
use Rattle.listing.specs.Listing.{listed_answer, listed_text, listed_space}
use Rattle.listing_lines.specs.Lines.{node_text}
use Rattle.listing_lines.specs.TextLaws.{text-accepted, listing_begins, one-verdict, untypable-says, typable-says}
use Rattle.listing.specs.ListingLaws.{checked-goes, listed_in, listed-whole}

-- the text begins with the line of node k and this verdict
abbrev pub Says : Bool → ℕ → List ℕ → Type 0
Says untypable k text = (rest : List ℕ) × (text ≡ node_text untypable k ++ rest)

-- ---- slices in which a file is listed

-- it leaves the work space as Formula does
pub listing-space : (file work text : List ℕ) (size : ℕ) → listed_answer file (length work) (length text) ≡ Ok size → listed_space file work (length text) ≡ formula_space file work
unfolding listed_space
listing-space file work text size listed =
    let passed = listed_in file (length work) (length text) size listed in
    checked-goes (length work) (length text) (λ r. work) (formula_space file work) passed.enough passed.room

-- an accepted file, and slices in which it is listed: what the text slice then holds
module _ (file work text : List ℕ) (m n : ℕ) (accepted : acceptance file ≡ Accepted m n) (size : ℕ) (listed : listed_answer file (length work) (length text) ≡ Ok size) where
  -- what the file's acceptance says of its last node
  few : m ≤ 8
  few = (accepted-file file m n accepted).counts.relations.1

  legal : Legal m (expression_at file (n - 1))
  legal = let some = (accepted-file file m n accepted).counts.nodes.0 in expression-legal file m n accepted (n - 1) (omega arith)

  -- it says the verdict found in the columns
  says : Says (is_untypable m (expression_at file (n - 1))) (n - 1) (take size (listed_text file (length work) text))
  says = rw (listed-whole file (length work) text size listed ∙ text-accepted file m n accepted) (listing_begins file m n)

  -- no other is said
  found : (untypable : Bool) → Says untypable (n - 1) (take size (listed_text file (length work) text)) → is_untypable m (expression_at file (n - 1)) ≡ untypable
  found untypable other = one-verdict (is_untypable m (expression_at file (n - 1))) untypable (n - 1) says.0 other.0 (sym says.1 ∙ other.1)

  -- and that one is said
  said : (untypable : Bool) → is_untypable m (expression_at file (n - 1)) ≡ untypable → Says untypable (n - 1) (take size (listed_text file (length work) text))
  said untypable e = subst (λ (b : Bool). Says b (n - 1) (take size (listed_text file (length work) text))) e says

  -- the listing says untypable exactly when no filled assignment types the last node
  pub listing-untypable : Says true (n - 1) (take size (listed_text file (length work) text)) ↔ (FilledTyping m (expression_at file (n - 1)) → ⊥)
  listing-untypable =
      let right = untypable-is m few (expression_at file (n - 1)) legal in
      let verdict = untypable-says m (expression_at file (n - 1)) in (
        (λ it. right.0 (verdict.0 (found true it))),
        (λ none. said true (verdict.1 (right.1 none))),
      )

  -- and typable exactly when one does
  pub listing-typable : Says false (n - 1) (take size (listed_text file (length work) text)) ↔ FilledTyping m (expression_at file (n - 1))
  listing-typable = (
    (λ it. typable-typed m few (expression_at file (n - 1)) legal (typable-says m (expression_at file (n - 1)) (found false it))),
    (λ typing. said false (is_false (is_untypable m (expression_at file (n - 1))) (λ e. listing-untypable.0 (said true e) typing))),
  )
