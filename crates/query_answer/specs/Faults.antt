-- The numbers of a query that are out of their ranges, from left to right (FORMAT 11.8).
use Rattle.std.specs.Prelude.{ℕ, ◌≡◌, Bool, cond, ◌&&◌, ltb, [], Option, None, Some}
use Rattle.std.proofs.Math.Path.{refl, ap}
use Rattle.std.proofs.Common.{sym, ◌∙◌, arith}
use Rattle.std.proofs.Math.Bool.{true, false}
use mathlib.Core.List.{List, ◌∷◌, ◌++◌}
use Rattle.refusal.specs.declared.Refusal.{Refusal}
use Rattle.refusal.specs.declared.Refusal.TheVariants.{RelationNumber, Attribute}
use Rattle.attribute_set.specs.AttrSet.{special}
use Rattle.attribute_set.specs.Listed.{special_after, all_special, special-none, special-more, special-broken}
use Rattle.node.specs.declared.nodes.BinaryOp.{BinaryOp}
use Rattle.query_language.specs.Query.{Prefix, with_set, renaming, projecting_out, Query, relation, pair, prefixed}

-- FORMAT 11.8: 9 for each attribute that is not 1 to 15
unfoldable pub attribute_faults : List ℕ → List Refusal
attribute_faults [] = []
attribute_faults (a ∷ as') = cond (special a) (attribute_faults as') (Attribute ∷ attribute_faults as')

-- the attributes of a prefix, in the order of its text
abbrev pub prefix_attributes : Prefix → List ℕ
prefix_attributes (with_set op ns) = ns
prefix_attributes (renaming old new) = old ∷ new ∷ []
prefix_attributes (projecting_out old) = old ∷ []

-- FORMAT 11.8: 7 for each relation that is not below m, 9 for each attribute that is not 1 to 15, from left to right
unfoldable pub faults_of : ℕ → Query → List Refusal
faults_of m (relation r) = cond (ltb r m) [] (RelationNumber ∷ [])
faults_of m (pair op l r) = faults_of m l ++ faults_of m r
faults_of m (prefixed p q) = attribute_faults (prefix_attributes p) ++ faults_of m q

-- ---- the first of them

-- FORMAT 11.8: the first of these
unfoldable pub first_of : List Refusal → Option Refusal
first_of [] = None
first_of (r ∷ rs) = Some r

-- the first of two, the one to the left of the other
abbrev pub leftmost : Option Refusal → Option Refusal → Option Refusal
leftmost None g = g
leftmost (Some r) g = Some r

-- that of attributes, by whether all of them are special
abbrev pub attribute_fault : Bool → Option Refusal
attribute_fault t = cond t None (Some Attribute)

-- that of a relation, by whether it is below m
abbrev pub relation_fault : Bool → Option Refusal
relation_fault t = cond t None (Some RelationNumber)

-- ---- laws

first-append : (as' bs : List Refusal) → first_of (as' ++ bs) ≡ leftmost (first_of as') (first_of bs)
unfolding first_of
first-append [] bs = refl
first-append (a ∷ as') bs = refl

first-attributes : (ns : List ℕ) → first_of (attribute_faults ns) ≡ attribute_fault (all_special ns)
unfolding first_of attribute_faults
first-attributes [] = sym (ap attribute_fault (special-none true))
first-attributes (n ∷ ns) = go (first-attributes ns) (special n) ∙ sym (ap attribute_fault (special-more true n ns))
  where
    go :
        first_of (attribute_faults ns) ≡ attribute_fault (all_special ns)
        → (t : Bool)
        → first_of (cond t (attribute_faults ns) (Attribute ∷ attribute_faults ns)) ≡ attribute_fault (special_after (true && t) ns)
    go rest true = rest
    go rest false = ap attribute_fault (sym (special-broken ns))

module _ (m : ℕ) where
  pub fault-relation : (r : ℕ) → first_of (faults_of m (relation r)) ≡ relation_fault (ltb r m)
  unfolding first_of faults_of
  fault-relation r = go (ltb r m)
    where
      go : (t : Bool) → first_of (cond t [] (RelationNumber ∷ [])) ≡ relation_fault t
      go true = refl
      go false = refl

  pub fault-pair : (op : BinaryOp) (l r : Query) → first_of (faults_of m (pair op l r)) ≡ leftmost (first_of (faults_of m l)) (first_of (faults_of m r))
  unfolding faults_of
  fault-pair op l r = first-append (faults_of m l) (faults_of m r)

  pub fault-prefixed : (p : Prefix) (q : Query) → first_of (faults_of m (prefixed p q)) ≡ leftmost (attribute_fault (all_special (prefix_attributes p))) (first_of (faults_of m q))
  unfolding faults_of
  fault-prefixed p q =
      first-append (attribute_faults (prefix_attributes p)) (faults_of m q)
      ∙ ap (λ (f : Option Refusal). leftmost f (first_of (faults_of m q))) (first-attributes (prefix_attributes p))

-- a list without a first has none
pub first-none : (rs : List Refusal) → first_of rs ≡ None → rs ≡ []
unfolding first_of
first-none [] e = refl
first-none (r ∷ rs) e = absurd (let z : ◌≡◌ {A = ℕ} 0 1 = cc in omega arith)

-- ---- queries in which nothing is out of range

pub leftmost-none : (f g : Option Refusal) → leftmost f g ≡ None → (f ≡ None) × (g ≡ None)
leftmost-none None g e = (refl, e)
leftmost-none (Some r) g e = absurd (let z : ◌≡◌ {A = ℕ} 0 1 = cc in omega arith)

pub guard_none : (t : Bool) (r : Refusal) → cond t None (Some r) ≡ None → t ≡ true
guard_none true r e = refl
guard_none false r e = absurd (let z : ◌≡◌ {A = ℕ} 0 1 = cc in omega arith)

pub none_first : (rs : List Refusal) → rs ≡ [] → first_of rs ≡ None
unfolding first_of
none_first rs e = rw e
