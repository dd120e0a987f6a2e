-- Laws of the attributes of one subset: which they are, their order, their number, and all lists of them together.
use Rattle.std.specs.Prelude.{ℕ, zero, suc, ◌+◌, ◌*◌, ◌≤◌, ◌<◌, ◌≡◌, refl, Bool, true, false, cond, List, [], ◌∷◌, eqb, leb, length, get_or}
use Rattle.std.proofs.Common.{sym, ap, ◌∙◌, add-zero, zero-add, arith, eqb-true, eq-eqb, ne_eqb, le-leb, lit<, length-append}
use Rattle.std.proofs.lemmas.Bool.{lt-leb}
use Rattle.bits.specs.Rising.{member, Rising, rising-lower, rising-above}
use Rattle.bits.specs.Tab.{tab, tab-none, tab-next}
use Rattle.type_record.specs.Lists.{word_bytes}
use Rattle.type_record.specs.ListBytes.{word-length}
use Rattle.membership.specs.Entries.{attribute_of, subset_of, holders_in}
use Rattle.membership.specs.EnterLaws.{RisingEntries, Order, lower, higher, equal, order, holders-below}
use Rattle.membership.specs.EntriesOnce.{Positive}
use Rattle.membership.specs.TableLaws.{Below}
use Rattle.instantiation.specs.Instantiation.{with_subset, all_listed, lists_bytes}

-- ---- the attributes of one subset

-- a is listed under s, which is not empty, exactly if the relations in s hold it
pub subset-member : (p s : ℕ) (es : List ℕ) → 1 ≤ s → RisingEntries p es → (a : ℕ) → member a (with_subset s es) ≡ eqb (holders_in es a) s
subset-member p s [] some h a = sym (ne_eqb 0 s (λ e. omega arith))
subset-member p s (e ∷ es) some h a = go (eqb (subset_of e) s) refl (eqb a (attribute_of e)) refl (subset-member (attribute_of e) s es some h.1 a)
  where
    go :
        (b : Bool)
        → eqb (subset_of e) s ≡ b
        → (t : Bool)
        → eqb a (attribute_of e) ≡ t
        → member a (with_subset s es) ≡ eqb (holders_in es a) s
        → member a (cond b (attribute_of e ∷ with_subset s es) (with_subset s es)) ≡ eqb (cond t (subset_of e) (holders_in es a)) s
    go true is true same rest = rw same (sym is)
    go true is false other rest = rw other rest
    go false apart true same rest =
        let here = eqb-true a (attribute_of e) same in
        rest ∙ ap (λ (x : ℕ). eqb x s) (holders-below (attribute_of e) es h.1 a (omega arith)) ∙ ne_eqb 0 s (λ e. omega arith) ∙ sym apart
    go false apart false other rest = rest

pub subset-rising : (p s : ℕ) (es : List ℕ) → RisingEntries p es → Rising p (with_subset s es)
subset-rising p s [] h = tt
subset-rising p s (e ∷ es) h = go (eqb (subset_of e) s) (subset-rising (attribute_of e) s es h.1)
  where
    go : (b : Bool) → Rising (attribute_of e) (with_subset s es) → Rising p (cond b (attribute_of e ∷ with_subset s es) (with_subset s es))
    go true rest = (h.0, rest)
    go false rest = let first = h.0 in rising-lower p (attribute_of e) (with_subset s es) (omega arith) rest

-- what is listed under s is held by the relations in s, also where s is empty
pub member-holders : (p s : ℕ) (es : List ℕ) → RisingEntries p es → (a : ℕ) → member a (with_subset s es) ≡ true → holders_in es a ≡ s
member-holders p s [] h a m = absurd (let z : ◌≡◌ {A = ℕ} 0 1 = cc in omega arith)
member-holders p s (e ∷ es) h a m = go (eqb (subset_of e) s) refl (eqb a (attribute_of e)) refl (member-holders (attribute_of e) s es h.1 a) m
  where
    go :
        (b : Bool)
        → eqb (subset_of e) s ≡ b
        → (t : Bool)
        → eqb a (attribute_of e) ≡ t
        → (member a (with_subset s es) ≡ true → holders_in es a ≡ s)
        → member a (cond b (attribute_of e ∷ with_subset s es) (with_subset s es)) ≡ true
        → cond t (subset_of e) (holders_in es a) ≡ s
    go true is true same rest m = eqb-true (subset_of e) s is
    go true is false other rest m = rest (rw other at m)
    go false apart true same rest m =
        absurd
        (let here = eqb-true a (attribute_of e) same in
        let none = rising-above (attribute_of e) (with_subset s es) a (subset-rising (attribute_of e) s es h.1) (omega arith) in
        let z : ◌≡◌ {A = ℕ} 0 1 = cc in
        omega arith)
    go false apart false other rest m = rest m

-- an attribute that is listed under s is that of an entry with the subset s
pub subset-found : (s : ℕ) (es : List ℕ) → 1 ≤ length (with_subset s es) → (i : ℕ) × (i < length es) × (subset_of (get_or es i 0) ≡ s)
subset-found s [] h = absurd (omega arith)
subset-found s (e ∷ es) h = go (eqb (subset_of e) s) refl (subset-found s es) h
  where
    go :
        (b : Bool)
        → eqb (subset_of e) s ≡ b
        → (1 ≤ length (with_subset s es) → (i : ℕ) × (i < length es) × (subset_of (get_or es i 0) ≡ s))
        → 1 ≤ length (cond b (attribute_of e ∷ with_subset s es) (with_subset s es))
        → (i : ℕ) × (i < length (e ∷ es)) × (subset_of (get_or (e ∷ es) i 0) ≡ s)
    go true is rest h = (0, omega arith, eqb-true (subset_of e) s is)
    go false other rest h = let found = rest h in let less = found.1 in (suc found.0, omega arith, found.2)

-- and each entry's attribute is listed under its subset
pub subset-some : (es : List ℕ) (i : ℕ) → i < length es → 1 ≤ length (with_subset (subset_of (get_or es i 0)) es)
subset-some [] i h = absurd (omega arith)
subset-some (e ∷ es) zero h = rw (eq-eqb (subset_of e) (subset_of e) refl) (omega arith)
subset-some (e ∷ es) (suc i) h = go (eqb (subset_of e) (subset_of (get_or es i 0))) (subset-some es i (omega arith))
  where
    go : (b : Bool) → 1 ≤ length (with_subset (subset_of (get_or es i 0)) es) → 1 ≤ length (cond b (attribute_of e ∷ with_subset (subset_of (get_or es i 0)) es) (with_subset (subset_of (get_or es i 0)) es))
    go true rest = omega arith
    go false rest = rest

-- no attribute has the empty subset
pub subset-none : (es : List ℕ) → Positive es → with_subset 0 es ≡ []
subset-none [] h = refl
subset-none (e ∷ es) h = let some = h.0 in rw (ne_eqb (subset_of e) 0 (λ k. omega arith)) (subset-none es h.1)

pub subset-few : (s : ℕ) (es : List ℕ) → length (with_subset s es) ≤ length es
subset-few s [] = omega arith
subset-few s (e ∷ es) = go (eqb (subset_of e) s) (subset-few s es)
  where
    go : (b : Bool) → length (with_subset s es) ≤ length es → length (cond b (attribute_of e ∷ with_subset s es) (with_subset s es)) ≤ suc (length es)
    go true rest = omega arith
    go false rest = omega arith

pub subset-below : (s : ℕ) (es : List ℕ) → Below 16777216 es → (i : ℕ) → get_or (with_subset s es) i 0 < 65536
subset-below s [] h i = lit< tt
subset-below s (e ∷ es) h i = go (eqb (subset_of e) s) (subset-below s es h.1) i
  where
    go : (b : Bool) → ((i : ℕ) → get_or (with_subset s es) i 0 < 65536) → (i : ℕ) → get_or (cond b (attribute_of e ∷ with_subset s es) (with_subset s es)) i 0 < 65536
    go true rest zero = let below = h.0 in omega arith
    go true rest (suc i) = rest i
    go false rest i = rest i

-- ---- all lists together

-- how many entries have a subset that is s or above
abbrev above : ℕ → List ℕ → ℕ
above s [] = 0
above s (e ∷ es) = cond (leb s (subset_of e)) 1 0 + above s es

above_most : (s : ℕ) (es : List ℕ) → above s es ≤ length es
above_most s [] = omega arith
above_most s (e ∷ es) = go (leb s (subset_of e)) (above_most s es)
  where
    go : (b : Bool) → above s es ≤ length es → cond b 1 0 + above s es ≤ suc (length es)
    go true rest = omega arith
    go false rest = omega arith

-- those of s, and those above it
above-split : (s : ℕ) (es : List ℕ) → length (with_subset s es) + above (suc s) es ≡ above s es
above-split s [] = refl
above-split s (e ∷ es) = go (order (subset_of e) s) (above-split s es)
  where
    go : Order (subset_of e) s → length (with_subset s es) + above (suc s) es ≡ above s es → length (with_subset s (e ∷ es)) + above (suc s) (e ∷ es) ≡ above s (e ∷ es)
    go (lower l) rest = rw (ne_eqb (subset_of e) s (λ k. omega arith), lt-leb (suc s) (subset_of e) (omega arith), lt-leb s (subset_of e) l) (omega arith)
    go (higher l) rest = rw (ne_eqb (subset_of e) s (λ k. omega arith), le-leb (suc s) (subset_of e) l, le-leb s (subset_of e) (omega arith)) (omega arith)
    go (equal l) rest = rw (eq-eqb (subset_of e) s l, lt-leb (suc s) (subset_of e) (omega arith), le-leb s (subset_of e) (omega arith)) (omega arith)

-- the lists of subsets from s on have no more attributes than there are entries
listed-most : (n s : ℕ) (f : ℕ → List ℕ) (es : List ℕ) → ((i : ℕ) → f i ≡ with_subset (s + i) es) → length (all_listed (tab n f)) ≤ above s es
listed-most zero s f es is = rw (tab-none f) (omega arith)
listed-most (suc n) s f es is =
    let rest = listed-most n (suc s) (λ i. f (suc i)) es (λ i. is (suc i) ∙ ap (λ (k : ℕ). with_subset k es) (omega arith)) in
    let split = above-split s es in
    let first = ap length (is 0 ∙ ap (λ (k : ℕ). with_subset k es) (add-zero s)) in
    let whole = length-append (f 0) (all_listed (tab n (λ i. f (suc i)))) in
    rw (tab-next n f) (omega arith)

bytes_most : (ls : List (List ℕ)) → length (lists_bytes ls) ≤ length (all_listed ls) * 3
bytes_most [] = omega arith
bytes_most ([] ∷ ls) = bytes_most ls
bytes_most ((a ∷ l) ∷ ls) =
    let rest = bytes_most ls in
    let own = word-length l in
    let bytes = length-append (word_bytes l) (lists_bytes ls) in
    let all = length-append l (all_listed ls) in
    omega arith

-- the lists of the first n subsets: at most three bytes an entry
pub lists-few : (n : ℕ) (es : List ℕ) → length (lists_bytes (tab n (λ s. with_subset s es))) ≤ length es * 3
lists-few n es =
    let bytes = bytes_most (tab n (λ s. with_subset s es)) in
    let listed = listed-most n 0 (λ s. with_subset s es) es (λ i. ap (λ (k : ℕ). with_subset k es) (sym (zero-add i))) in
    let most = above_most 0 es in
    omega arith
