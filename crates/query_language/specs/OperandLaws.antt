-- Operands: what their reader finds is the text of a query, and it finds every query.
use Rattle.std.specs.Prelude.{ℕ, ◌+◌, ◌-◌, ◌≤◌, ◌≡◌, Bool, length}
use Rattle.std.proofs.Math.Path.{refl, ap}
use Rattle.std.proofs.Common.{◌∙◌, lit≤}
use Rattle.std.proofs.Math.Bool.{true, false, cond}
use mathlib.Core.List.{List, ◌∷◌}
use native.Mathlib.Omega.{arith}
use borrow.Author.Tests.{eqb-true}
use Rattle.std.proofs.Math.Dec.{eqb}
use Rattle.std.proofs.Math.ListN.{get_or, drop}
use Rattle.node.specs.declared.nodes.BinaryOp.{BinaryOp}
use Rattle.node.specs.declared.nodes.BinaryOp.TheVariants.{Union, Difference, Join, Product}
use Rattle.query_language.specs.Parsed.{Parsed, found, provided, found_as, provided-found}
use Rattle.query_language.specs.Query.{Query, relation, pair, prefixed, sign_byte, query_before, Written, node_count}
use Rattle.query_language.specs.Parse.{sign_of, sign_at}
use Rattle.query_language.specs.Places.{byte-within, byte-there}
use Rattle.query_language.specs.PrefixLaws.{prefix-least}

-- ---- signs

-- a sign that was found: its byte, and the place after it
pub record SignRead (text : List ℕ) (at : ℕ) (op : BinaryOp) (next : ℕ) : Type 0 where
  pub byte-is : get_or text at 0 ≡ sign_byte op
  pub next-is : next ≡ at + 1
  pub within : next ≤ length text
  pub text-is : drop at text ≡ sign_byte op ∷ drop next text

sign-some : (op : BinaryOp) → 1 ≤ sign_byte op
sign-some Union = lit≤ tt
sign-some Difference = lit≤ tt
sign-some Join = lit≤ tt
sign-some Product = lit≤ tt

pub sign-sound : (text : List ℕ) (at : ℕ) (op : BinaryOp) (next : ℕ) → sign_at text at ≡ found op next → SignRead text at op next
unfolding sign_at sign_of
sign-sound text at op next = go (eqb (get_or text at 0) 43) refl (eqb (get_or text at 0) 45) refl (eqb (get_or text at 0) 42) refl
  where
    read : (o : BinaryOp) → get_or text at 0 ≡ sign_byte o → SignRead text at o (at + 1)
    read o b-is =
        let some = sign-some o in
        let inside = byte-within text at (rw b-is some) in
        record { byte-is = b-is; next-is = refl; within = omega arith; text-is = byte-there text at (sign_byte o) b-is some }

    go :
        (s : Bool)
        → eqb (get_or text at 0) 43 ≡ s
        → (t : Bool)
        → eqb (get_or text at 0) 45 ≡ t
        → (u : Bool)
        → eqb (get_or text at 0) 42 ≡ u
        → cond s (found Union (at + 1)) (cond t (found Difference (at + 1)) (cond u (found Join (at + 1)) (provided (eqb (get_or text at 0) 35) (found Product (at + 1))))) ≡ found op next
        → SignRead text at op next
    go true i t j u k e = found_as (SignRead text at) e (read Union (eqb-true _ _ i))
    go false i true j u k e = found_as (SignRead text at) e (read Difference (eqb-true _ _ j))
    go false i false j true k e = found_as (SignRead text at) e (read Join (eqb-true _ _ k))
    go false i false j false k e = let last = provided-found _ _ e in found_as (SignRead text at) last.1 (read Product (eqb-true _ _ last.0))

byte-sign : (op : BinaryOp) (next : ℕ) → sign_of (sign_byte op) next ≡ found op next
unfolding sign_of provided
byte-sign Union next = refl
byte-sign Difference next = refl
byte-sign Join next = refl
byte-sign Product next = refl

pub sign-complete : (text : List ℕ) (at : ℕ) (op : BinaryOp) → get_or text at 0 ≡ sign_byte op → sign_at text at ≡ found op (at + 1)
unfolding sign_at
sign-complete text at op e = ap (λ (b : ℕ). sign_of b (at + 1)) e ∙ byte-sign op (at + 1)

-- ---- what is found is there

pub record OperandRead (text : List ℕ) (at : ℕ) (q : Query) (next : ℕ) : Type 0 where
  pub written : Written q
  pub text-is : drop at text ≡ query_before q (drop next text)
  pub within : next ≤ length text

-- readers of operands find what is there
unfoldable pub Sound : List ℕ → (ℕ → Parsed Query) → Type 0
Sound text read = (at : ℕ) (q : Query) (next : ℕ) → read at ≡ found q next → OperandRead text at q next

-- ---- lengths

-- a node has two bytes of text or more
pub count-least : (q : Query) (rest : List ℕ) → node_count q + node_count q + length rest ≤ length (query_before q rest)
unfolding query_before
count-least (relation r) rest = omega arith
count-least (pair op l r) rest =
    let a = count-least l (sign_byte op ∷ query_before r (41 ∷ rest)) in
    let b = count-least r (41 ∷ rest) in
    omega arith
count-least (prefixed p q) rest =
    let a = prefix-least p (query_before q rest) in
    let b = count-least q rest in
    omega arith

pub count-some : (q : Query) → 1 ≤ node_count q
count-some (relation r) = lit≤ tt
count-some (pair op l r) = omega arith
count-some (prefixed p q) = omega arith
