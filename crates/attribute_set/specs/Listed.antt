-- The set of some listed attributes.
use Rattle.std.specs.Prelude.{ℕ, ◌≡◌, refl, Bool, true, false, ◌&&◌, ◌||◌, List, [], ◌∷◌, eqb}
use Rattle.std.proofs.Common.{sym, ap, ap₂, subst, ◌∙◌, arith, eqb-true, eq-eqb, ne_eqb}
use Rattle.std.proofs.lemmas.Bool.{false≢true}
use Rattle.bits.specs.Booleans.{and_left, and_right, same_test}
use Rattle.bits.specs.Rising.{member}
use Rattle.attribute_set.specs.declared.AttrSet.{AttrSet}
use Rattle.attribute_set.specs.AttrSet.{special, has_attribute, empty_set, with_attribute}
use Rattle.attribute_set.specs.Laws.{special-range, has-empty, has-with, Clear}

-- the set with these attributes as well
unfoldable pub with_attributes : AttrSet → List ℕ → AttrSet
with_attributes s [] = s
with_attributes s (n ∷ ns) = with_attributes (with_attribute s n) ns

-- these are special, and so was what came before them
unfoldable pub special_after : Bool → List ℕ → Bool
special_after t [] = t
special_after t (n ∷ ns) = special_after (t && special n) ns

-- all of these are special
abbrev pub all_special : List ℕ → Bool
all_special ns = special_after true ns

-- ---- laws

pub with_none : (s : AttrSet) → with_attributes s [] ≡ s
unfolding with_attributes
with_none s = refl

pub with-more : (s : AttrSet) (n : ℕ) (ns : List ℕ) → with_attributes s (n ∷ ns) ≡ with_attributes (with_attribute s n) ns
unfolding with_attributes
with-more s n ns = refl

pub special-none : (t : Bool) → special_after t [] ≡ t
unfolding special_after
special-none t = refl

pub special-more : (t : Bool) (n : ℕ) (ns : List ℕ) → special_after t (n ∷ ns) ≡ special_after (t && special n) ns
unfolding special_after
special-more t n ns = refl

-- where one before them is not, not all are special
pub special-broken : (ns : List ℕ) → special_after false ns ≡ false
unfolding special_after
special-broken [] = refl
special-broken (n ∷ ns) = special-broken ns

pub special-before : (t : Bool) (ns : List ℕ) → special_after t ns ≡ true → t ≡ true
unfolding special_after
special-before t [] e = e
special-before t (n ∷ ns) e = and_left t (special n) (special-before (t && special n) ns e)

-- of a list of special attributes the first is special, and so are the others
pub special-first : (n : ℕ) (ns : List ℕ) → all_special (n ∷ ns) ≡ true → (special n ≡ true) × (all_special ns ≡ true)
unfolding special_after
special-first n ns e =
    let first = and_right true (special n) (special-before (true && special n) ns e) in
    (first, ap (λ (t : Bool). special_after t ns) (sym first) ∙ e)

clear-empty : Clear empty_set
unfolding Clear
clear-empty = has-empty 0

clear-with : (s : AttrSet) (a : ℕ) → Clear s → Clear (with_attribute s a)
unfolding Clear
clear-with s a clear = has-with s a 0 ∙ go (special a) refl
  where
    go : (t : Bool) → special a ≡ t → t && eqb a 0 || has_attribute s 0 ≡ false
    go true e = let range = special-range a e in rw (ne_eqb a 0 (λ z. omega arith)) clear
    go false e = clear

clear-all : (s : AttrSet) (ns : List ℕ) → Clear s → Clear (with_attributes s ns)
unfolding with_attributes
clear-all s [] clear = clear
clear-all s (n ∷ ns) clear = clear-all (with_attribute s n) ns (clear-with s n clear)

-- a set of listed attributes has bit 0 clear
pub clear-listed : (ns : List ℕ) → Clear (with_attributes empty_set ns)
clear-listed ns = clear-all empty_set ns clear-empty

eqb_swap : (a b : ℕ) → eqb a b ≡ eqb b a
eqb_swap a b = same_test (eqb a b) (eqb b a) ((λ e. eq-eqb b a (sym (eqb-true a b e))), (λ e. eq-eqb a b (sym (eqb-true b a e))))

has_all : (s : AttrSet) (ns : List ℕ) (a : ℕ) → all_special ns ≡ true → has_attribute (with_attributes s ns) a ≡ member a ns || has_attribute s a
unfolding with_attributes
has_all s [] a e = refl
has_all s (n ∷ ns) a e =
    let both = special-first n ns e in
    has_all (with_attribute s n) ns a both.1
    ∙ ap (λ (t : Bool). member a ns || t) (has-with s n a ∙ ap₂ (λ (t u : Bool). t && u || has_attribute s a) both.0 (eqb_swap n a))
    ∙ swap (member a ns) (eqb a n) (has_attribute s a)
  where
    swap : (x y z : Bool) → x || (y || z) ≡ (y || x) || z
    swap true true z = refl
    swap true false z = refl
    swap false true z = refl
    swap false false z = refl

-- it has the listed ones, if they are special, and no other
pub has_listed : (ns : List ℕ) (a : ℕ) → all_special ns ≡ true → has_attribute (with_attributes empty_set ns) a ≡ member a ns
has_listed ns a e = has_all empty_set ns a e ∙ ap (λ (t : Bool). member a ns || t) (has-empty a) ∙ none (member a ns)
  where
    none : (x : Bool) → x || false ≡ x
    none true = refl
    none false = refl

-- a listed attribute is special, if all of them are
pub member-special : (ns : List ℕ) (a : ℕ) → all_special ns ≡ true → member a ns ≡ true → special a ≡ true
member-special [] a e h = absurd (false≢true h)
member-special (n ∷ ns) a e h = let both = special-first n ns e in go both.0 (member-special ns a both.1) (eqb a n) refl h
  where
    go : special n ≡ true → (member a ns ≡ true → special a ≡ true) → (t : Bool) → eqb a n ≡ t → t || member a ns ≡ true → special a ≡ true
    go first others true i k = subst (λ (x : ℕ). special x ≡ true) (sym (eqb-true a n i)) first
    go first others false i k = others k
