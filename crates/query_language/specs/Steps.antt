-- The ways through each reader, for the layers above: what is found, by the bytes at its place and by what the readers
-- below it find.
use Rattle.std.specs.Prelude.{ℕ, ◌+◌, ◌-◌, ◌*◌, ◌<◌, ◌≡◌, refl, true, false, List, length, get_or, []}
use Rattle.std.proofs.Math.Path.{sym, ap}
use Rattle.std.proofs.Common.{◌∙◌, arith}
use borrow.Author.Tests.{eq-eqb, ne_eqb}
use Rattle.bits.specs.Range.{in_range}
use Rattle.node.specs.declared.nodes.BinaryOp.{BinaryOp}
use Rattle.node.specs.declared.nodes.BinaryOp.TheVariants.{Union, Difference, Join, Product}
use Rattle.node.specs.declared.nodes.SetOp.{SetOp}
use Rattle.node.specs.declared.nodes.SetOp.TheVariants.{Selection, Projection}
use Rattle.query_language.specs.Parsed.{Parsed, missing, found, then-of, then-missing, provided-true, provided-false}
use Rattle.query_language.specs.Query.{Prefix, with_set, renaming, projecting_out, Query, pair, prefixed}
use Rattle.query_language.specs.Parse.{is_digit, number_at, ended_number, items_at, list_at, set_at, renaming_at, projecting_out_at, prefix_at}
use Rattle.query_language.specs.Parse.{sign_of, sign_at, pair_with, prefixed_with, operand_at, parse_query}
use Rattle.query_language.specs.NumberLaws.{digit-range, number-zero, number-one, number-two, number-none}

pub digit-is : (b : ℕ) → is_digit b ≡ in_range 48 57 b
unfolding is_digit
digit-is b = refl

-- ---- numbers

module _ (text : List ℕ) (at b : ℕ) (b-is : b ≡ get_or text at 0) where
  pub digit-none : is_digit b ≡ false → number_at text at ≡ missing
  unfolding number_at
  digit-none d = number-none (get_or text at 0) (get_or text (at + 1) 0) at (ap is_digit (sym b-is) ∙ d)

  pub digit-zero : b ≡ 48 → number_at text at ≡ found 0 (at + 1)
  unfolding number_at
  digit-zero e = number-zero (get_or text at 0) (get_or text (at + 1) 0) at (sym b-is ∙ e)

  module _ (c : ℕ) (c-is : c ≡ get_or text (at + 1) 0) (d : is_digit b ≡ true) (z : b ≡ 48 → ⊥) where
    pub digits-two : is_digit c ≡ true → number_at text at ≡ found ((b - 48) * 10 + (c - 48)) (at + 2)
    unfolding number_at
    digits-two f = let r = digit-range b d in rw (← b-is, ← c-is) (number-two b c at (omega arith) r.1 f)

    pub digits-one : is_digit c ≡ false → number_at text at ≡ found (b - 48) (at + 1)
    unfolding number_at
    digits-one f = let r = digit-range b d in rw (← b-is, ← c-is) (number-one b c at (omega arith) r.1 f)

module _ (text : List ℕ) (b at : ℕ) where
  pub ended-none : number_at text at ≡ missing → ended_number text b at ≡ missing
  unfolding ended_number
  ended-none e = then-missing _ _ e

  module _ {n next : ℕ} (e : number_at text at ≡ found n next) where
    pub ended-there : get_or text next 0 ≡ b → ended_number text b at ≡ found n (next + 1)
    unfolding ended_number
    ended-there h = then-of _ _ e ∙ provided-true _ _ (eq-eqb (get_or text next 0) b h)

    pub ended-not : (get_or text next 0 ≡ b → ⊥) → ended_number text b at ≡ missing
    unfolding ended_number
    ended-not h = then-of _ _ e ∙ provided-false _ _ (ne_eqb (get_or text next 0) b h)

-- ---- lists

module _ (text : List ℕ) (at : ℕ) where
  pub list-empty : get_or text at 0 ≡ 93 → list_at text at ≡ found [] (at + 1)
  unfolding list_at
  list-empty e = rw e

  pub list-items : (get_or text at 0 ≡ 93 → ⊥) → list_at text at ≡ items_at text 0 at
  unfolding list_at
  list-items e = rw (ne_eqb (get_or text at 0) 93 e)

-- ---- prefixes

module _ (op : SetOp) (text : List ℕ) (at : ℕ) where
  pub set-none : list_at text at ≡ missing → set_at op text at ≡ missing
  unfolding set_at
  set-none e = then-missing _ _ e

  pub set_there : {ns : List ℕ} {next : ℕ} → list_at text at ≡ found ns next → set_at op text at ≡ found (with_set op ns) next
  unfolding set_at
  set_there e = then-of _ _ e

module _ (text : List ℕ) (at : ℕ) where
  pub out_none : ended_number text 93 at ≡ missing → projecting_out_at text at ≡ missing
  unfolding projecting_out_at
  out_none e = then-missing _ _ e

  pub out-there : {old next : ℕ} → ended_number text 93 at ≡ found old next → projecting_out_at text at ≡ found (projecting_out old) next
  unfolding projecting_out_at
  out-there e = then-of _ _ e

  pub renaming-none : ended_number text 62 at ≡ missing → renaming_at text at ≡ missing
  unfolding renaming_at
  renaming-none e = then-missing _ _ e

  module _ {old middle : ℕ} (e : ended_number text 62 at ≡ found old middle) where
    pub renaming-half : ended_number text 93 middle ≡ missing → renaming_at text at ≡ missing
    unfolding renaming_at
    renaming-half f = then-of _ _ e ∙ then-missing _ _ f

    pub renaming-there : {new next : ℕ} → ended_number text 93 middle ≡ found new next → renaming_at text at ≡ found (renaming old new) next
    unfolding renaming_at
    renaming-there f = then-of _ _ e ∙ then-of _ _ f

  -- a prefix by its letter

  pub letter-none : (get_or text (at + 1) 0 ≡ 91 → ⊥) → prefix_at text at ≡ missing
  unfolding prefix_at
  letter-none o = provided-false _ _ (ne_eqb (get_or text (at + 1) 0) 91 o)

  module _ (o : get_or text (at + 1) 0 ≡ 91) where
    pub letter-selection : get_or text at 0 ≡ 83 → prefix_at text at ≡ set_at Selection text (at + 2)
    unfolding prefix_at
    letter-selection e = provided-true _ _ (eq-eqb _ _ o) ∙ rw e

    pub letter-projection : get_or text at 0 ≡ 80 → prefix_at text at ≡ set_at Projection text (at + 2)
    unfolding prefix_at
    letter-projection e = provided-true _ _ (eq-eqb _ _ o) ∙ rw e

    pub letter-renaming : get_or text at 0 ≡ 78 → prefix_at text at ≡ renaming_at text (at + 2)
    unfolding prefix_at
    letter-renaming e = provided-true _ _ (eq-eqb _ _ o) ∙ rw e

    pub letter-out : get_or text at 0 ≡ 68 → prefix_at text at ≡ projecting_out_at text (at + 2)
    unfolding prefix_at
    letter-out e = provided-true _ _ (eq-eqb _ _ o) ∙ rw e (provided-true _ _ refl)

    pub letter-other : (get_or text at 0 ≡ 83 → ⊥) → (get_or text at 0 ≡ 80 → ⊥) → (get_or text at 0 ≡ 78 → ⊥) → (get_or text at 0 ≡ 68 → ⊥) → prefix_at text at ≡ missing
    unfolding prefix_at
    letter-other a b c d =
        provided-true _ _ (eq-eqb _ _ o)
        ∙ rw (ne_eqb (get_or text at 0) 83 a, ne_eqb (get_or text at 0) 80 b, ne_eqb (get_or text at 0) 78 c) (provided-false _ _ (ne_eqb (get_or text at 0) 68 d))

-- ---- signs

module _ (text : List ℕ) (at b : ℕ) (b-is : b ≡ get_or text at 0) where
  sign-byte : sign_at text at ≡ sign_of b (at + 1)
  unfolding sign_at
  sign-byte = ap (λ (x : ℕ). sign_of x (at + 1)) (sym b-is)

  pub sign-union : b ≡ 43 → sign_at text at ≡ found Union (at + 1)
  unfolding sign_of
  sign-union e = sign-byte ∙ rw e

  pub sign-difference : b ≡ 45 → sign_at text at ≡ found Difference (at + 1)
  unfolding sign_of
  sign-difference e = sign-byte ∙ rw e

  pub sign-join : b ≡ 42 → sign_at text at ≡ found Join (at + 1)
  unfolding sign_of
  sign-join e = sign-byte ∙ rw e

  pub sign-product : b ≡ 35 → sign_at text at ≡ found Product (at + 1)
  unfolding sign_of
  sign-product e = sign-byte ∙ rw e (provided-true _ _ refl)

  pub sign-none : (b ≡ 43 → ⊥) → (b ≡ 45 → ⊥) → (b ≡ 42 → ⊥) → (b ≡ 35 → ⊥) → sign_at text at ≡ missing
  unfolding sign_of
  sign-none p d j x = sign-byte ∙ rw (ne_eqb b 43 p, ne_eqb b 45 d, ne_eqb b 42 j) (provided-false _ _ (ne_eqb b 35 x))

-- ---- operands

module _ (read : ℕ → Parsed Query) (text : List ℕ) (at : ℕ) where
  pub prefixed-none : prefix_at text at ≡ missing → prefixed_with read text at ≡ missing
  unfolding prefixed_with
  prefixed-none e = then-missing _ _ e

  module _ {p : Prefix} {next : ℕ} (l : prefix_at text at ≡ found p next) where
    pub prefixed-half : read next ≡ missing → prefixed_with read text at ≡ missing
    unfolding prefixed_with
    prefixed-half e = then-of _ _ l ∙ then-missing _ _ e

    pub prefixed-there : {q : Query} {after : ℕ} → read next ≡ found q after → prefixed_with read text at ≡ found (prefixed p q) after
    unfolding prefixed_with
    prefixed-there e = then-of _ _ l ∙ then-of _ _ e

  pub pair-no-left : read at ≡ missing → pair_with read text at ≡ missing
  unfolding pair_with
  pair-no-left e = then-missing _ _ e

  module _ {l : Query} {a : ℕ} (left : read at ≡ found l a) where
    pub pair-no-sign : sign_at text a ≡ missing → pair_with read text at ≡ missing
    unfolding pair_with
    pair-no-sign e = then-of _ _ left ∙ then-missing _ _ e

    module _ {op : BinaryOp} {b : ℕ} (sign : sign_at text a ≡ found op b) where
      pub pair-no-right : read b ≡ missing → pair_with read text at ≡ missing
      unfolding pair_with
      pair-no-right e = then-of _ _ left ∙ then-of _ _ sign ∙ then-missing _ _ e

      module _ {r : Query} {c : ℕ} (right : read b ≡ found r c) where
        pub pair-not-closed : (get_or text c 0 ≡ 41 → ⊥) → pair_with read text at ≡ missing
        unfolding pair_with
        pair-not-closed e = then-of _ _ left ∙ then-of _ _ sign ∙ then-of _ _ right ∙ provided-false _ _ (ne_eqb (get_or text c 0) 41 e)

        pub pair-there : get_or text c 0 ≡ 41 → pair_with read text at ≡ found (pair op l r) (c + 1)
        unfolding pair_with
        pair-there e = then-of _ _ left ∙ then-of _ _ sign ∙ then-of _ _ right ∙ provided-true _ _ (eq-eqb (get_or text c 0) 41 e)

-- ---- the whole text

module _ (text : List ℕ) where
  pub whole-none : operand_at text 0 ≡ missing → parse_query text ≡ missing
  unfolding parse_query
  whole-none e = then-missing _ _ e

  module _ {q : Query} {next : ℕ} (e : operand_at text 0 ≡ found q next) where
    pub whole-followed : next < length text → parse_query text ≡ missing
    unfolding parse_query
    whole-followed h = then-of _ _ e ∙ provided-false _ _ (ne_eqb next (length text) (λ same. omega arith))

    pub whole-there : next ≡ length text → parse_query text ≡ found q next
    unfolding parse_query
    whole-there h = then-of _ _ e ∙ provided-true _ _ (eq-eqb next (length text) h)
