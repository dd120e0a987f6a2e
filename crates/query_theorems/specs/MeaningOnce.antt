-- Two queries that can be written, in which no number is out of its range, mean the same only if they are the same.
use Rattle.std.specs.Prelude.{ℕ, ◌+◌, ◌≡◌, refl, true, List, [], ◌∷◌}
use Rattle.std.proofs.Common.{sym, ap, ap₂, ◌∙◌, arith}
use Rattle.bits.specs.Rising.{Rising, rising-once}
use Rattle.attribute_set.specs.Laws.{special-range}
use Rattle.attribute_set.specs.Listed.{all_special, special-first}
use Rattle.types.specs.Types.{Attrs}
use Rattle.algebra.specs.Expression.{Operator, union, difference, join, product, SetOperator, selection, projection, Expression, binary, with_set, renaming, projecting_out}
use Rattle.node.specs.declared.nodes.BinaryOp.{BinaryOp}
use Rattle.node.specs.declared.nodes.BinaryOp.TheVariants.{Union, Difference, Join, Product}
use Rattle.node.specs.declared.nodes.SetOp.{SetOp}
use Rattle.node.specs.declared.nodes.SetOp.TheVariants.{Selection, Projection}
use Rattle.node_expression.specs.NodeExpression.{operator_of, set_operator_of}
use Rattle.query_language.specs.Query.{Prefix, with_set as with_list, renaming as renamed, projecting_out as projected_out, Query, relation, pair, prefixed, RisingFrom, WrittenPrefix, Written}
use Rattle.query_answer.specs.Faults.{prefix_attributes, faults_of}
use Rattle.query_answer.proofs.Faults.{faultless-pair, faultless-prefixed}
use Rattle.query_theorems.specs.Meaning.{listed, prefix_meaning, meaning}

-- ---- operators

operator_back : Operator → BinaryOp
operator_back union = Union
operator_back difference = Difference
operator_back join = Join
operator_back product = Product

operator-back : (op : BinaryOp) → operator_back (operator_of op) ≡ op
unfolding operator_back
operator-back Union = refl
operator-back Difference = refl
operator-back Join = refl
operator-back Product = refl

operator-once : (op other : BinaryOp) → operator_of op ≡ operator_of other → op ≡ other
operator-once op other e = sym (operator-back op) ∙ ap operator_back e ∙ operator-back other

set_operator_back : SetOperator → SetOp
set_operator_back selection = Selection
set_operator_back projection = Projection

set-operator-back : (op : SetOp) → set_operator_back (set_operator_of op) ≡ op
unfolding set_operator_back
set-operator-back Selection = refl
set-operator-back Projection = refl

set-operator-once : (op other : SetOp) → set_operator_of op ≡ set_operator_of other → op ≡ other
set-operator-once op other e = sym (set-operator-back op) ∙ ap set_operator_back e ∙ set-operator-back other

-- ---- lists

rising-from : (p : ℕ) (ns : List ℕ) → RisingFrom (p + 1) ns → Rising p ns
rising-from p [] r = tt
rising-from p (n ∷ ns) r = let first = r.0 in (omega arith, rising-from n ns r.2)

special-rising : (ns : List ℕ) → RisingFrom 0 ns → all_special ns ≡ true → Rising 0 ns
special-rising [] r e = tt
special-rising (n ∷ ns) r e =
    let range = special-range n (special-first n ns e).0 in
    (omega arith, rising-from n ns r.2)

list-once : (ns ms : List ℕ) → RisingFrom 0 ns → RisingFrom 0 ms → all_special ns ≡ true → all_special ms ≡ true → listed ns ≡ listed ms → ns ≡ ms
list-once ns ms r s a b e = rising-once 0 ns ms (special-rising ns r a) (special-rising ms s b) (λ x. ap (λ (t : Attrs). t x) e)

-- ---- prefixes and queries

-- what holds of the parts of two equal expressions
binary-parts : {o u : Operator} {a b c d : Expression} → binary o a b ≡ binary u c d → (o ≡ u) × (a ≡ c) × (b ≡ d)
binary-parts e = (cc, cc, cc)

set-parts : {o u : SetOperator} {s t : Attrs} {a b : Expression} → with_set o s a ≡ with_set u t b → (o ≡ u) × (s ≡ t) × (a ≡ b)
set-parts e = (cc, cc, cc)

renaming-parts : {a b c d : ℕ} {x y : Expression} → renaming a b x ≡ renaming c d y → (a ≡ c) × (b ≡ d) × (x ≡ y)
renaming-parts e = (cc, cc, cc)

out-parts : {a c : ℕ} {x y : Expression} → projecting_out a x ≡ projecting_out c y → (a ≡ c) × (x ≡ y)
out-parts e = (cc, cc)

prefix-once :
    (p u : Prefix) (x y : Expression)
    → WrittenPrefix p
    → WrittenPrefix u
    → all_special (prefix_attributes p) ≡ true
    → all_special (prefix_attributes u) ≡ true
    → prefix_meaning p x ≡ prefix_meaning u y
    → (p ≡ u) × (x ≡ y)
prefix-once (with_list op ns) (with_list other ms) x y wp wu a b e =
    let same = set-parts e in
    (ap₂ with_list (set-operator-once op other same.0) (list-once ns ms wp wu a b same.1), same.2)
prefix-once (with_list op ns) (renamed old new) x y wp wu a b e = absurd (let z : ◌≡◌ {A = ℕ} 0 1 = cc in omega arith)
prefix-once (with_list op ns) (projected_out old) x y wp wu a b e = absurd (let z : ◌≡◌ {A = ℕ} 0 1 = cc in omega arith)
prefix-once (renamed old new) (with_list op ns) x y wp wu a b e = absurd (let z : ◌≡◌ {A = ℕ} 0 1 = cc in omega arith)
prefix-once (renamed old new) (renamed from to) x y wp wu a b e = let same = renaming-parts e in (ap₂ renamed same.0 same.1, same.2)
prefix-once (renamed old new) (projected_out from) x y wp wu a b e = absurd (let z : ◌≡◌ {A = ℕ} 0 1 = cc in omega arith)
prefix-once (projected_out old) (with_list op ns) x y wp wu a b e = absurd (let z : ◌≡◌ {A = ℕ} 0 1 = cc in omega arith)
prefix-once (projected_out old) (renamed from to) x y wp wu a b e = absurd (let z : ◌≡◌ {A = ℕ} 0 1 = cc in omega arith)
prefix-once (projected_out old) (projected_out from) x y wp wu a b e = let same = out-parts e in (ap projected_out same.0, same.1)

-- a prefix makes no relation and no operator of two operands
prefix-other : (p : Prefix) (x : Expression) (r : ℕ) → prefix_meaning p x ≡ meaning (relation r) → ⊥
prefix-other (with_list op ns) x r e = let z : ◌≡◌ {A = ℕ} 0 1 = cc in omega arith
prefix-other (renamed old new) x r e = let z : ◌≡◌ {A = ℕ} 0 1 = cc in omega arith
prefix-other (projected_out old) x r e = let z : ◌≡◌ {A = ℕ} 0 1 = cc in omega arith

prefix-single : (p : Prefix) (x : Expression) (op : BinaryOp) (l r : Query) → prefix_meaning p x ≡ meaning (pair op l r) → ⊥
prefix-single (with_list s ns) x op l r e = let z : ◌≡◌ {A = ℕ} 0 1 = cc in omega arith
prefix-single (renamed old new) x op l r e = let z : ◌≡◌ {A = ℕ} 0 1 = cc in omega arith
prefix-single (projected_out old) x op l r e = let z : ◌≡◌ {A = ℕ} 0 1 = cc in omega arith

relation-number : {r s : ℕ} → meaning (relation r) ≡ meaning (relation s) → r ≡ s
relation-number e = cc

pub meaning-once : (m k : ℕ) (q u : Query) → Written q → Written u → faults_of m q ≡ [] → faults_of k u ≡ [] → meaning q ≡ meaning u → q ≡ u
meaning-once m k (relation r) (relation s) wq wu fq fu e = ap relation (relation-number e)
meaning-once m k (relation r) (pair op a b) wq wu fq fu e = absurd (let z : ◌≡◌ {A = ℕ} 0 1 = cc in omega arith)
meaning-once m k (relation r) (prefixed p a) wq wu fq fu e = absurd (prefix-other p (meaning a) r (sym e))
meaning-once m k (pair op l r) (relation s) wq wu fq fu e = absurd (let z : ◌≡◌ {A = ℕ} 0 1 = cc in omega arith)
meaning-once m k (pair op l r) (pair other a b) wq wu fq fu e =
    let same = binary-parts e in
    let left = faultless-pair m op l r fq in
    let right = faultless-pair k other a b fu in
    let op-is = operator-once op other same.0 in
    let l-is = meaning-once m k l a wq.0 wu.0 left.0 right.0 same.1 in
    let r-is = meaning-once m k r b wq.1 wu.1 left.1 right.1 same.2 in
    rw (op-is, l-is, r-is)
meaning-once m k (pair op l r) (prefixed p a) wq wu fq fu e = absurd (prefix-single p (meaning a) op l r (sym e))
meaning-once m k (prefixed p q) (relation s) wq wu fq fu e = absurd (prefix-other p (meaning q) s e)
meaning-once m k (prefixed p q) (pair op a b) wq wu fq fu e = absurd (prefix-single p (meaning q) op a b e)
meaning-once m k (prefixed p q) (prefixed u v) wq wu fq fu e =
    let left = faultless-prefixed m p q fq in
    let right = faultless-prefixed k u v fu in
    let same = prefix-once p u (meaning q) (meaning v) wq.0 wu.0 left.0 right.0 e in
    ap₂ prefixed same.0 (meaning-once m k q v wq.1 wu.1 left.1 right.1 same.1)
