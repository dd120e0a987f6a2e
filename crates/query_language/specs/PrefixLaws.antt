-- Prefixes: what their reader finds is their text, and it finds every prefix.
use Rattle.std.specs.Prelude.{ℕ, ◌+◌, ◌≤◌, ◌≡◌, false, List, ◌∷◌, eqb, length, get_or, drop}
use Rattle.std.proofs.Common.{sym, ap, ◌∙◌, add_assoc, arith}
use Rattle.query_language.specs.Query.{Prefix, with_set, renaming, projecting_out, number_before, prefix_before, WrittenPrefix}
use Rattle.query_language.specs.Parse.{prefix_at}
use Rattle.query_language.specs.Places.{byte_of, rest_of}
use Rattle.query_language.specs.NumberLaws.{number-least, Found}
use Rattle.query_language.specs.ListLaws.{list-least}

-- ---- what is found is there

pub record PrefixRead (text : List ℕ) (at : ℕ) (p : Prefix) (next : ℕ) : Type 0 where
  pub written : WrittenPrefix p
  pub text-is : drop at text ≡ prefix_before p (drop next text)
  pub within : next ≤ length text

-- ---- what is there is found

-- a prefix, and that its letter begins no relation and no pair
pub record PrefixFound (text : List ℕ) (at : ℕ) (p : Prefix) (rest : List ℕ) : Type 0 where
  pub reading : Found text (prefix_at text at) p rest
  pub no-relation : eqb (get_or text at 0) 114 ≡ false
  pub no-pair : eqb (get_or text at 0) 40 ≡ false

-- the place after the letter and the bracket
pub opened : (text : List ℕ) (at letter : ℕ) (rest : List ℕ) → drop at text ≡ letter ∷ 91 ∷ rest → (get_or text at 0 ≡ letter) × (get_or text (at + 1) 0 ≡ 91) × (drop (at + 2) text ≡ rest)
opened text at letter rest e =
    let tail = rest_of text at letter (91 ∷ rest) e in
    (byte_of text at letter (91 ∷ rest) e, byte_of text (at + 1) 91 rest tail, ap (λ (n : ℕ). drop n text) (sym (add_assoc at 1 1)) ∙ rest_of text (at + 1) 91 rest tail)

-- ---- its length

pub prefix-least : (p : Prefix) (rest : List ℕ) → 3 + length rest ≤ length (prefix_before p rest)
unfolding prefix_before
prefix-least (with_set op ns) rest = let h = list-least ns rest in omega arith
prefix-least (renaming old new) rest =
    let a = number-least old (62 ∷ number_before new (93 ∷ rest)) in
    let b = number-least new (93 ∷ rest) in
    omega arith
prefix-least (projecting_out old) rest = let a = number-least old (93 ∷ rest) in omega arith
