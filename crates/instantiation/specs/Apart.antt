-- Lists that share no attribute (FORMAT 6.2): of rising lists, and lists by subset are so.
use Rattle.std.specs.Prelude.{ℕ, zero, suc, ◌+◌, ◌<◌, ◌≡◌, refl, Bool, true, false, ◌||◌, List, [], ◌∷◌, ◌++◌, eqb, get_or}
use Rattle.std.proofs.Common.{sym, ap, ap₂, subst, ◌∙◌, arith, eqb-true, eq-eqb}
use Rattle.std.proofs.Math.Bool.{or-true}
use Rattle.instantiation.specs.SeenLaws.{repeated-append}
use Rattle.bits.specs.Booleans.{is_false, clash, or-neither}
use Rattle.bits.specs.Rising.{member, Rising, rising-above, member-append}
use Rattle.bits.specs.Tab.{tab, tab-none, tab-next}
use Rattle.instantiation.specs.Seen.{repeated_in}
use Rattle.instantiation.specs.Instantiation.{all_listed}

-- no member of a list is one of a later list
abbrev pub Apart : List (List ℕ) → Type 0
Apart [] = Unit {0}
Apart (l ∷ ls) = ((a : ℕ) → member a l ≡ true → member a (all_listed ls) ≡ false) × Apart ls

-- what no list has
pub listed-neither : (a : ℕ) (l : List ℕ) (ls : List (List ℕ)) → member a (l ++ all_listed ls) ≡ false → (member a l ≡ false) × (member a (all_listed ls) ≡ false)
listed-neither a l ls e = or-neither (member a l) (member a (all_listed ls)) (sym (member-append a l (all_listed ls)) ∙ e)

listed-not : (a : ℕ) (l : List ℕ) (ls : List (List ℕ)) → member a l ≡ false → member a (all_listed ls) ≡ false → member a (l ++ all_listed ls) ≡ false
listed-not a l ls first later = member-append a l (all_listed ls) ∙ ap₂ ◌||◌ first later

pub listed-none : (a : ℕ) (ls : List (List ℕ)) (s : ℕ) → member a (all_listed ls) ≡ false → member a (get_or ls s []) ≡ false
listed-none a [] s e = refl
listed-none a (l ∷ ls) zero e = (listed-neither a l ls e).0
listed-none a (l ∷ ls) (suc s) e = listed-none a ls s (listed-neither a l ls e).1

-- what the first list has, and what a later one has
pub listed-first : (a : ℕ) (l : List ℕ) (ls : List (List ℕ)) → member a l ≡ true → member a (l ++ all_listed ls) ≡ true
listed-first a l ls h = member-append a l (all_listed ls) ∙ ap (λ (b : Bool). b || member a (all_listed ls)) h

pub listed-later : (a : ℕ) (l : List ℕ) (ls : List (List ℕ)) → member a (all_listed ls) ≡ true → member a (l ++ all_listed ls) ≡ true
listed-later a l ls h = member-append a l (all_listed ls) ∙ ap (λ (b : Bool). member a l || b) h ∙ or-true (member a l)

-- ---- repeats

-- without repeats no attribute that was seen comes again
pub seen-once : (seen : ℕ → Bool) (xs : List ℕ) → repeated_in seen xs ≡ false → (a : ℕ) → seen a ≡ true → member a xs ≡ false
seen-once seen [] e a h = refl
seen-once seen (x ∷ xs) e a h =
    let both = or-neither (seen x) (repeated_in (λ a. seen a || eqb a x) xs) e in
    ap₂ ◌||◌ (is_false (eqb a x) (λ same. clash h (ap seen (eqb-true a x same) ∙ both.0)))
    (seen-once (λ a. seen a || eqb a x) xs both.1 a (ap (λ (b : Bool). b || eqb a x) h))

-- without repeats the lists share no attribute
pub once-apart : (seen : ℕ → Bool) (ls : List (List ℕ)) → repeated_in seen (all_listed ls) ≡ false → Apart ls
once-apart seen [] e = tt
once-apart seen (l ∷ ls) e =
    let both = or-neither (repeated_in seen l) (repeated_in (λ a. seen a || member a l) (all_listed ls)) (sym (repeated-append seen l (all_listed ls)) ∙ e) in
    (λ a h. seen-once (λ a. seen a || member a l) (all_listed ls) both.1 a (ap (λ (b : Bool). seen a || b) h ∙ or-true (seen a)), once-apart (λ a. seen a || member a l) ls both.1)

-- a rising list repeats nothing
rising-not-repeated : (seen : ℕ → Bool) (p : ℕ) (xs : List ℕ) → Rising p xs → ((a : ℕ) → member a xs ≡ true → seen a ≡ false) → repeated_in seen xs ≡ false
rising-not-repeated seen p [] r new = refl
rising-not-repeated seen p (x ∷ xs) r new =
    ap₂ ◌||◌ (new x (ap (λ (b : Bool). b || member x xs) (eq-eqb x x refl)))
    (rising-not-repeated (λ a. seen a || eqb a x) x xs r.1
    (λ a h. ap₂ ◌||◌ (new a (ap (λ (b : Bool). eqb a x || b) h ∙ or-true (eqb a x)))
    (is_false (eqb a x) (λ same. clash h (let is = eqb-true a x same in rising-above x xs a r.1 (omega arith))))))

-- rising lists that share no attribute repeat none
pub apart-once : (seen : ℕ → Bool) (ls : List (List ℕ)) → ((s : ℕ) → Rising 15 (get_or ls s [])) → Apart ls → ((a : ℕ) → member a (all_listed ls) ≡ true → seen a ≡ false) → repeated_in seen (all_listed ls) ≡ false
apart-once seen [] rising apart new = refl
apart-once seen (l ∷ ls) rising apart new =
    repeated-append seen l (all_listed ls)
    ∙ ap₂ ◌||◌ (rising-not-repeated seen 15 l (rising 0) (λ a h. new a (listed-first a l ls h)))
    (apart-once (λ a. seen a || member a l) ls (λ s. rising (suc s)) apart.1
    (λ a h. ap₂ ◌||◌ (new a (listed-later a l ls h))
    (is_false (member a l) (λ first. clash h (apart.0 a first)))))

-- ---- lists by number, where h says in which one an attribute is

module _ (h : ℕ → ℕ) where
  earlier-none : (n k : ℕ) (f : ℕ → List ℕ) → ((a s : ℕ) → member a (f s) ≡ true → h a ≡ k + s) → (a : ℕ) → h a < k → member a (all_listed (tab n f)) ≡ false
  earlier-none zero k f only a below = ap (λ (ls : List (List ℕ)). member a (all_listed ls)) (tab-none f)
  earlier-none (suc n) k f only a below =
      ap (λ (ls : List (List ℕ)). member a (all_listed ls)) (tab-next n f)
      ∙ listed-not a (f 0) (tab n (λ i. f (suc i))) (is_false (member a (f 0)) (λ has. let is = only a 0 has in omega arith))
      (earlier-none n (suc k) (λ i. f (suc i)) (λ a s has. let is = only a (suc s) has in omega arith) a (omega arith))

  pub tab-apart : (n k : ℕ) (f : ℕ → List ℕ) → ((a s : ℕ) → member a (f s) ≡ true → h a ≡ k + s) → Apart (tab n f)
  tab-apart zero k f only = subst Apart (sym (tab-none f)) tt
  tab-apart (suc n) k f only =
      subst Apart (sym (tab-next n f)) (
        λ a has. earlier-none n (suc k) (λ i. f (suc i)) (λ a s has. let is = only a (suc s) has in omega arith) a (let is = only a 0 has in omega arith),
        tab-apart n (suc k) (λ i. f (suc i)) (λ a s has. let is = only a (suc s) has in omega arith),
      )
