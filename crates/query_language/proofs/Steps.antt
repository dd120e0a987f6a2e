-- The ways through each reader, for the layers above: what is found, by the bytes at its place and by what the readers
-- below it find.
use Rattle.std.specs.Prelude.{ℕ, ◌+◌, ◌-◌, ◌≤◌, ◌<◌, ◌≡◌, refl, true, false, cond, List, ◌∷◌, eqb, leb, get_or, []}
use Rattle.std.proofs.Math.Path.{sym}
use Rattle.std.proofs.Common.{◌∙◌}
use borrow.Author.Tests.{ne_eqb, le-leb, lt-leb}
use Rattle.query_language.specs.Parsed.{missing, found, and_then, provided, then-of, then-missing, provided-true, provided-false}
use Rattle.query_language.specs.Query.{relation}
use Rattle.query_language.specs.Parse.{is_digit, number_at, items_with, items_at}
use Rattle.query_language.specs.Parse.{relation_at, pair_with, prefixed_with, operand_with, operand_at}
use Rattle.query_language.proofs.ListLaws.{items-step}
use Rattle.query_language.proofs.OperandLaws.{operand_step}

-- ---- lists

module _ (text : List ℕ) (low at : ℕ) where
  pub items-none : number_at text at ≡ missing → items_at text low at ≡ missing
  unfolding items_with
  items-none e = items-step text low at ∙ then-missing _ _ e

  module _ {n next : ℕ} (e : number_at text at ≡ found n next) where
    items-first :
        items_at text low at
        ≡ provided (leb low n) (cond (eqb (get_or text next 0) 93) (found (n ∷ []) (next + 1)) (provided (eqb (get_or text next 0) 44) (and_then (items_at text (n + 1) (next + 1)) λ ns end. found (n ∷ ns) end)))
    unfolding items_with
    items-first = items-step text low at ∙ then-of _ _ e

    pub items-below : n < low → items_at text low at ≡ missing
    items-below h = items-first ∙ provided-false _ _ (lt-leb low n h)

    module _ (h : low ≤ n) where
      pub items-last : get_or text next 0 ≡ 93 → items_at text low at ≡ found (n ∷ []) (next + 1)
      items-last b = items-first ∙ provided-true _ _ (le-leb low n h) ∙ rw b

      pub items-other : (get_or text next 0 ≡ 93 → ⊥) → (get_or text next 0 ≡ 44 → ⊥) → items_at text low at ≡ missing
      items-other b c = items-first ∙ provided-true _ _ (le-leb low n h) ∙ rw (ne_eqb (get_or text next 0) 93 b) (provided-false _ _ (ne_eqb (get_or text next 0) 44 c))

      pub items-next : get_or text next 0 ≡ 44 → items_at text low at ≡ and_then (items_at text (n + 1) (next + 1)) (λ ns end. found (n ∷ ns) end)
      items-next b = items-first ∙ provided-true _ _ (le-leb low n h) ∙ rw b (provided-true _ _ refl)

-- ---- operands

module _ (text : List ℕ) (at : ℕ) where
  pub by-relation : get_or text at 0 ≡ 114 → relation_at text (at + 1) ≡ operand_at text at
  unfolding operand_with
  by-relation e = sym (operand_step text at ∙ rw e)

  pub by-pair : get_or text at 0 ≡ 40 → pair_with (operand_at text) text (at + 1) ≡ operand_at text at
  unfolding operand_with
  by-pair e = sym (operand_step text at ∙ rw e)

  pub by-prefix : (get_or text at 0 ≡ 114 → ⊥) → (get_or text at 0 ≡ 40 → ⊥) → prefixed_with (operand_at text) text at ≡ operand_at text at
  unfolding operand_with
  by-prefix r p = sym (operand_step text at ∙ rw (ne_eqb (get_or text at 0) 114 r, ne_eqb (get_or text at 0) 40 p))

  pub relation-none : is_digit (get_or text at 0) ≡ false → relation_at text at ≡ missing
  unfolding relation_at
  relation-none d = provided-false _ _ d

  pub relation-there : is_digit (get_or text at 0) ≡ true → relation_at text at ≡ found (relation (get_or text at 0 - 48)) (at + 1)
  unfolding relation_at
  relation-there d = provided-true _ _ d
