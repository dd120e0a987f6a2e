-- Rising lists of numbers, and their members.
use Rattle.std.specs.Prelude.{ℕ, zero, suc, ◌≤◌, ◌<◌, ◌≡◌, refl, Bool, true, false, ◌||◌, List, [], ◌∷◌, ◌++◌, eqb, length, get_or}
use Rattle.std.proofs.Common.{sym, ap, ap₂, subst, ◌∙◌, arith, eq-eqb, ne_eqb}
use Rattle.std.proofs.Math.Bool.{or_assoc}
use Rattle.std.proofs.Math.Decide.{dec_le}

-- a is in the list
abbrev pub member : ℕ → List ℕ → Bool
member a [] = false
member a (x ∷ xs) = eqb a x || member a xs

pub member-append : (a : ℕ) (xs ys : List ℕ) → member a (xs ++ ys) ≡ member a xs || member a ys
member-append a [] ys = refl
member-append a (x ∷ xs) ys = ap (λ (b : Bool). eqb a x || b) (member-append a xs ys) ∙ sym (or_assoc (eqb a x) (member a xs) (member a ys))

-- each number is above the one before it, the first above p
abbrev pub Rising : ℕ → List ℕ → Type 0
Rising p [] = Unit {0}
Rising p (x ∷ xs) = (p < x) × Rising x xs

-- what rises from above q rises from above what is not above q
pub rising-lower : (p q : ℕ) (xs : List ℕ) → p ≤ q → Rising q xs → Rising p xs
rising-lower p q [] h r = tt
rising-lower p q (x ∷ xs) h r = let first = r.0 in (omega arith, r.1)

rising-from : (p : ℕ) (xs : List ℕ) → Rising p xs → (i : ℕ) → i < length xs → p < get_or xs i 0
rising-from p [] r i h = absurd (omega arith)
rising-from p (x ∷ xs) r zero h = r.0
rising-from p (x ∷ xs) r (suc i) h = let first : p < x = r.0 in let later = rising-from x xs r.1 i (omega arith) in omega arith

-- place by place
pub rising-places : (p : ℕ) (xs : List ℕ) → Rising p xs → (i j : ℕ) → i < j → j < length xs → get_or xs i 0 < get_or xs j 0
rising-places p [] r i j less h = absurd (omega arith)
rising-places p (x ∷ xs) r i zero less h = absurd (omega arith)
rising-places p (x ∷ xs) r zero (suc j) less h = rising-from x xs r.1 j (omega arith)
rising-places p (x ∷ xs) r (suc i) (suc j) less h = rising-places x xs r.1 i j (omega arith) (omega arith)

-- no member is p or below
pub rising-above : (p : ℕ) (xs : List ℕ) (a : ℕ) → Rising p xs → a ≤ p → member a xs ≡ false
rising-above p [] a r h = refl
rising-above p (x ∷ xs) a r h =
    let first : p < x = r.0 in
    ap₂ ◌||◌ (ne_eqb a x (λ e. omega arith)) (rising-above x xs a r.1 (omega arith))

-- no member is b or above
pub member_below : (b : ℕ) (xs : List ℕ) (a : ℕ) → ((i : ℕ) → get_or xs i 0 < b) → b ≤ a → member a xs ≡ false
member_below b [] a below h = refl
member_below b (x ∷ xs) a below h =
    let first : x < b = below 0 in
    ap₂ ◌||◌ (ne_eqb a x (λ e. omega arith)) (member_below b xs a (λ i. below (suc i)) h)

member-first : (x : ℕ) (xs : List ℕ) → member x (x ∷ xs) ≡ true
member-first x xs = ap (λ (t : Bool). t || member x xs) (eq-eqb x x refl)

-- the first of one list is no member of the other if it is below the other's first
below-first : (x y : ℕ) (xs ys : List ℕ) → Rising y ys → ((a : ℕ) → member a (x ∷ xs) ≡ member a (y ∷ ys)) → x < y → ⊥
below-first x y xs ys r same h =
    let none : member x (y ∷ ys) ≡ false = ap₂ ◌||◌ (ne_eqb x y (λ e. omega arith)) (rising-above y ys x r (omega arith)) in
    let both : true ≡ false = sym (member-first x xs) ∙ same x ∙ none in
    let z : ◌≡◌ {A = ℕ} 0 1 = cc in omega arith

-- two rising lists with the same members are one
pub rising-once : (p : ℕ) (xs ys : List ℕ) → Rising p xs → Rising p ys → ((a : ℕ) → member a xs ≡ member a ys) → xs ≡ ys
rising-once p [] [] r s same = refl
rising-once p [] (y ∷ ys) r s same =
    absurd (let both : false ≡ true = same y ∙ member-first y ys in let z : ◌≡◌ {A = ℕ} 0 1 = cc in omega arith)
rising-once p (x ∷ xs) [] r s same =
    absurd (let both : true ≡ false = sym (member-first x xs) ∙ same x in let z : ◌≡◌ {A = ℕ} 0 1 = cc in omega arith)
rising-once p (x ∷ xs) (y ∷ ys) r s same =
    ap₂ ◌∷◌ first (rising-once x xs ys r.1 s' (λ a. rest a (dec_le a x)))
  where
    order : Dec (x ≤ y) → Dec (y ≤ x) → x ≡ y
    order (yes h) (yes k) = omega arith
    order (yes h) (no k) = absurd (below-first x y xs ys s.1 same (omega arith))
    order (no h) d = absurd (below-first y x ys xs r.1 (λ a. sym (same a)) (omega arith))

    first : x ≡ y
    first = order (dec_le x y) (dec_le y x)

    s' : Rising x ys
    s' = subst (λ (z : ℕ). Rising z ys) (sym first) s.1

    rest : (a : ℕ) → Dec (a ≤ x) → member a xs ≡ member a ys
    rest a (yes h) = rising-above x xs a r.1 h ∙ sym (rising-above x ys a s' h)
    rest a (no h) =
        sym (ap (λ (t : Bool). t || member a xs) (ne_eqb a x (λ e. omega arith)))
        ∙ same a
        ∙ ap (λ (t : Bool). t || member a ys) (ne_eqb a y (λ e. let f = first in omega arith))
