-- Entries that have a relation each: entering keeps them so, and rising lists of them are told apart by
-- the holders of attributes.
use Rattle.std.specs.Prelude.{ℕ, ◌%◌, ◌≤◌, ◌<◌, ◌≡◌, refl, List, [], ◌∷◌}
use Rattle.std.proofs.Common.{sym, ap, ap₂, subst, ◌∙◌, arith, eq-eqb, ne_eqb}
use Rattle.std.proofs.Math.Decide.{dec_le}
use Rattle.std.specs.Int.Bits.{bit_or, or_add_and}
use Rattle.std.proofs.lemmas.Nat.{and_le_r, or_mod}
use Rattle.membership.specs.Entries.{attribute_of, subset_of, holders_in, enter}
use Rattle.membership.specs.EnterLaws.{RisingEntries, Order, lower, higher, equal, order, entry-subset, enter-lower, enter-higher, enter-equal, holders-below}

-- every entry has a relation
abbrev pub Positive : List ℕ → Type 0
Positive [] = Unit {0}
Positive (e ∷ es) = (1 ≤ subset_of e) × Positive es

-- ---- entering

joined-positive : (e s : ℕ) → 1 ≤ subset_of e → 1 ≤ subset_of (bit_or e s)
joined-positive e s h =
    let low = or_mod e s 8 in
    let sum = or_add_and (e % 256) (s % 256) in
    let least = and_le_r (e % 256) (s % 256) in
    omega arith

pub enter-positive : (s : ℕ) (more es : List ℕ) → 1 ≤ s → s < 256 → Positive es → Positive (enter s more es)
unfolding enter
enter-positive s [] es some small h = h
enter-positive s (a ∷ more) [] some small h = rw (entry-subset a s small) (some, enter-positive s more [] some small tt)
enter-positive s (a ∷ more) (e ∷ es) some small h =
    go (order a (attribute_of e)) (enter-positive s more (e ∷ es) some small h) (enter-positive s (a ∷ more) es some small h.1) (enter-positive s more es some small h.1)
  where
    go : Order a (attribute_of e) → Positive (enter s more (e ∷ es)) → Positive (enter s (a ∷ more) es) → Positive (enter s more es) → Positive (enter s (a ∷ more) (e ∷ es))
    go (lower l) one two three = rw (enter-lower s a more e es l, entry-subset a s small) (some, one)
    go (higher l) one two three = rw (enter-higher s a more e es l) (h.0, two)
    go (equal l) one two three = rw (enter-equal s a more e es l) (joined-positive e s h.0, three)

-- ---- two lists with the same holders

holders-first : (e : ℕ) (es : List ℕ) → holders_in (e ∷ es) (attribute_of e) ≡ subset_of e
holders-first e es = rw (eq-eqb (attribute_of e) (attribute_of e) refl)

holders-other : (e : ℕ) (es : List ℕ) (a : ℕ) → attribute_of e < a → holders_in (e ∷ es) a ≡ holders_in es a
holders-other e es a h = rw (ne_eqb a (attribute_of e) (λ k. omega arith))

-- the first attribute of one list has no holder in the other if the other's first is above it
below-first : (x y : ℕ) (xs ys : List ℕ) → 1 ≤ subset_of x → RisingEntries (attribute_of y) ys → ((a : ℕ) → holders_in (x ∷ xs) a ≡ holders_in (y ∷ ys) a) → attribute_of x < attribute_of y → ⊥
below-first x y xs ys some rising same h =
    let none = holders-below (attribute_of x) (y ∷ ys) (h, rising) (attribute_of x) (omega arith) in
    let own = holders-first x xs in
    let both = same (attribute_of x) in
    omega arith

-- two rising lists of such entries with the same holders of each attribute are one
pub entries-once : (p : ℕ) (xs ys : List ℕ) → RisingEntries p xs → RisingEntries p ys → Positive xs → Positive ys → ((a : ℕ) → holders_in xs a ≡ holders_in ys a) → xs ≡ ys
entries-once p [] [] r s f g same = refl
entries-once p [] (y ∷ ys) r s f g same = absurd (let some = g.0 in let own = holders-first y ys in let both = same (attribute_of y) in omega arith)
entries-once p (x ∷ xs) [] r s f g same = absurd (let some = f.0 in let own = holders-first x xs in let both = same (attribute_of x) in omega arith)
entries-once p (x ∷ xs) (y ∷ ys) r s f g same =
    ap₂ ◌∷◌ first (entries-once (attribute_of x) xs ys r.1 s' f.1 g.1 (λ a. rest a (dec_le a (attribute_of x))))
  where
    attribute : Order (attribute_of x) (attribute_of y) → attribute_of x ≡ attribute_of y
    attribute (lower h) = absurd (below-first x y xs ys f.0 s.1 same h)
    attribute (higher h) = absurd (below-first y x ys xs g.0 r.1 (λ a. sym (same a)) h)
    attribute (equal h) = h

    one : attribute_of x ≡ attribute_of y
    one = attribute (order (attribute_of x) (attribute_of y))

    first : x ≡ y
    first =
        let a = one in
        let both = same (attribute_of x) in
        let own = holders-first x xs in
        let other = ap (holders_in (y ∷ ys)) a ∙ holders-first y ys in
        omega arith

    s' : RisingEntries (attribute_of x) ys
    s' = subst (λ (a : ℕ). RisingEntries a ys) (sym one) s.1

    rest : (a : ℕ) → Dec (a ≤ attribute_of x) → holders_in xs a ≡ holders_in ys a
    rest a (yes h) = holders-below (attribute_of x) xs r.1 a h ∙ sym (holders-below (attribute_of x) ys s' a h)
    rest a (no h) =
        let o = one in
        sym (holders-other x xs a (omega arith)) ∙ same a ∙ holders-other y ys a (omega arith)
