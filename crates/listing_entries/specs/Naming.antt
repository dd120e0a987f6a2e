-- The attributes that nodes name, and the set of them (FORMAT 7.15).
use Rattle.std.specs.Prelude.{ℕ, zero, suc, ◌+◌, ◌≤◌, ◌<◌, ◌≡◌, Bool, ◌&&◌, ◌||◌}
use Rattle.std.proofs.Math.Path.{refl, ap}
use Rattle.std.proofs.Common.{sym, ap₂, ◌∙◌, ⊎_elim, eq-or-lt_of_le, add-one, arith}
use Rattle.std.proofs.Math.Bool.{true, false, or-false, or_comm}
use Rattle.std.proofs.Math.Decide.{dec_le}
use borrow.Author.Tests.{lt-ltb, le-ltb, eqb-true, eqb-false}
use Rattle.std.proofs.Math.Dec.{eqb, ltb}
use Rattle.attribute_set.specs.declared.AttrSet.{AttrSet}
use Rattle.attribute_set.specs.AttrSet.{special, has_attribute, empty_set, with_attribute}
use Rattle.attribute_set.specs.Laws.{special-in, has-empty, has-with}
use Rattle.node.specs.declared.nodes.Node.{Node}
use Rattle.node.specs.declared.nodes.Node.TheVariants.{Relation, Binary, WithSet, Renaming, ProjectingOut}

-- ---- the attributes that nodes of the file name

-- FORMAT 7.15: the node names attribute i, in its set, as old or as new
abbrev pub names : Node → ℕ → Bool
names (Relation r) i = false
names (Binary op l r) i = false
names (WithSet op k s) i = has_attribute s i
names (Renaming k old new) i = eqb old i || eqb new i
names (ProjectingOut k old) i = eqb old i

-- FORMAT 7.15: one of the nodes below n names it
unfoldable pub named_below : (ℕ → Node) → ℕ → ℕ → Bool
named_below node zero i = false
named_below node (suc n) i = named_below node n i || names (node n) i

-- ---- sets of attributes

-- the set and what passes the test
unfoldable pub Joined : AttrSet → (ℕ → Bool) → AttrSet → Type 0
Joined set test all = (i : ℕ) → 1 ≤ i → i ≤ 15 → has_attribute all i ≡ has_attribute set i || test i

-- the attributes that the nodes below n name
unfoldable pub Named : (ℕ → Node) → ℕ → AttrSet → Type 0
Named node n set = (i : ℕ) → 1 ≤ i → i ≤ 15 → has_attribute set i ≡ named_below node n i

pub named-is : (node : ℕ → Node) (n : ℕ) (set : AttrSet) → Named node n set → (i : ℕ) → 1 ≤ i → i ≤ 15 → has_attribute set i ≡ named_below node n i
unfolding Named
named-is node n set h = h

-- one attribute more
add-one-attribute : (set : AttrSet) (a i : ℕ) → 1 ≤ i → i ≤ 15 → has_attribute (with_attribute set a) i ≡ has_attribute set i || eqb a i
add-one-attribute set a i low high =
    has-with set a i ∙ ap (λ (t : Bool). t || has_attribute set i) (go (eqb a i) refl) ∙ or_comm (eqb a i) (has_attribute set i)
  where
    go : (t : Bool) → eqb a i ≡ t → special a && eqb a i ≡ eqb a i
    go true e = let same = eqb-true a i e in rw (special-in a (omega arith) (omega arith))
    go false e = rw e (and_no (special a))
      where
        and_no : (s : Bool) → s && false ≡ false
        and_no true = refl
        and_no false = refl

pub joined-none : (set : AttrSet) → Joined set (λ i. false) set
unfolding Joined
joined-none set i low high = sym (or-false (has_attribute set i))

pub joined-one : (set : AttrSet) (a : ℕ) → Joined set (λ i. eqb a i) (with_attribute set a)
unfolding Joined
joined-one set a i low high = add-one-attribute set a i low high

pub joined-two : (set : AttrSet) (a b : ℕ) → Joined set (λ i. eqb a i || eqb b i) (with_attribute (with_attribute set a) b)
unfolding Joined
joined-two set a b i low high =
    add-one-attribute (with_attribute set a) b i low high
    ∙ ap (λ (t : Bool). t || eqb b i) (add-one-attribute set a i low high)
    ∙ or-nest (has_attribute set i) (eqb a i) (eqb b i)
  where
    or-nest : (x y z : Bool) → (x || y) || z ≡ x || (y || z)
    or-nest true y z = refl
    or-nest false y z = refl

-- other numbers than a are below a + 1 where they are below a
below_next : (a i : ℕ) → eqb a i ≡ false → ltb i a ≡ ltb i (a + 1)
below_next a i e = go (dec_le a i)
  where
    differ : a ≡ i → ⊥
    differ = eqb-false a i e

    go : Dec (a ≤ i) → ltb i a ≡ ltb i (a + 1)
    go (yes h) = le-ltb i a h ∙ sym (le-ltb i (a + 1) (⊎_elim (λ same. absurd (differ same)) (λ less. less_one less) (eq-or-lt_of_le h)))
      where
        less_one : a < i → a + 1 ≤ i
        less_one less = omega arith
    go (no h) = lt-ltb i a (omega arith) ∙ sym (lt-ltb i (a + 1) (omega arith))

-- ---- the join of two sets, attribute by attribute: those below a are done

-- the set with those attributes of the other that are below a
unfoldable pub JoinedTo : AttrSet → AttrSet → ℕ → AttrSet → Type 0
JoinedTo set other a all = Joined set (λ i. ltb i a && has_attribute other i) all

pub joined-start : (set other : AttrSet) → JoinedTo set other 1 set
unfolding JoinedTo Joined
joined-start set other i low high = rw (le-ltb i 1 low) (sym (or-false (has_attribute set i)))

pub joined-done : (set other : AttrSet) (a : ℕ) (all : AttrSet) → 16 ≤ a → JoinedTo set other a all → Joined set (has_attribute other) all
unfolding JoinedTo Joined
joined-done set other a all h j i low high = rw (lt-ltb i a (omega arith)) at (j i low high)

module _ (set other : AttrSet) (a : ℕ) (all : AttrSet) (j : JoinedTo set other a all) where
  pub joined-with : has_attribute other a ≡ true → JoinedTo set other (a + 1) (with_attribute all a)
  unfolding JoinedTo Joined
  joined-with has i low high = add-one-attribute all a i low high ∙ ap (λ (t : Bool). t || eqb a i) (j i low high) ∙ go (eqb a i) refl
    where
      or-true : (x y : Bool) → (x || y) || true ≡ x || true
      or-true true y = refl
      or-true false true = refl
      or-true false false = refl

      go : (t : Bool) → eqb a i ≡ t → has_attribute set i || ltb i a && has_attribute other i || eqb a i ≡ has_attribute set i || ltb i (a + 1) && has_attribute other i
      go true e =
          let same = eqb-true a i e in
          let here : has_attribute other i ≡ true = ap (has_attribute other) (sym same) ∙ has in
          rw (e, lt-ltb i (a + 1) (omega arith), here) (or-true (has_attribute set i) (ltb i a && true))
      go false e = rw e (or-false (has_attribute set i || ltb i a && has_attribute other i) ∙ ap (λ (t : Bool). has_attribute set i || t && has_attribute other i) (below_next a i e))

  pub joined-without : has_attribute other a ≡ false → JoinedTo set other (a + 1) all
  unfolding JoinedTo Joined
  joined-without lacks i low high = j i low high ∙ go (eqb a i) refl
    where
      go : (t : Bool) → eqb a i ≡ t → has_attribute set i || ltb i a && has_attribute other i ≡ has_attribute set i || ltb i (a + 1) && has_attribute other i
      go true e =
          let same = eqb-true a i e in
          let here : has_attribute other i ≡ false = ap (has_attribute other) (sym same) ∙ lacks in
          rw (lt-ltb i (a + 1) (omega arith), le-ltb i a (omega arith), here)
      go false e = ap (λ (t : Bool). has_attribute set i || t && has_attribute other i) (below_next a i e)

-- ---- the nodes

pub named_none : (node : ℕ → Node) → Named node 0 empty_set
unfolding Named named_below
named_none node i low high = has-empty i

pub named-next : (node : ℕ → Node) (k : ℕ) (this : Node) (set all : AttrSet) → this ≡ node k → Named node k set → Joined set (names this) all → Named node (k + 1) all
unfolding Named Joined named_below
named-next node k this set all same named joined i low high =
    joined i low high
    ∙ ap₂ ◌||◌ (named i low high) (ap (λ (x : Node). names x i) same)
    ∙ ap (λ (n : ℕ). named_below node n i) (sym (add-one k))
