-- An instantiation that fits has no list for subset 0.
use Rattle.std.specs.Prelude.{ℕ, zero, suc, ◌+◌, ◌*◌, ◌/◌, ◌≤◌, ◌<◌, ◌≡◌, refl, Bool, true, false, cond, ◌||◌, List, [], ◌∷◌, eqb, length, get_or}
use Rattle.std.proofs.Common.{sym, ap, ◌∙◌, arith, eq-eqb}
use Rattle.bits.specs.Booleans.{clash}
use Rattle.bits.specs.Rising.{member}
use Rattle.membership.specs.Entries.{attribute_of, subset_of, holders_in, enter}
use Rattle.membership.specs.EnterLaws.{Order, lower, higher, equal, order, enter-none, enter-first, enter-lower, enter-higher, enter-equal, joined-attribute}
use Rattle.instantiation.specs.Seen.{nothing_seen, repeated_in}
use Rattle.instantiation.specs.Instantiation.{entries_from, entries_in, all_listed}
use Rattle.instantiation.specs.ReadLaws.{IsLists}
use Rattle.instantiation.specs.Apart.{listed-none, once-apart}
use Rattle.instantiation.specs.Owners.{lists-holders}
use Rattle.instantiation.specs.EntriesLaws.{entries-first}
use Rattle.schema.specs.Bounds.{Held}

-- a is the attribute of an entry
abbrev entered : ℕ → List ℕ → Bool
entered a [] = false
entered a (e ∷ es) = eqb a (attribute_of e) || entered a es

-- an entry of a stays, whatever is entered
enter-stays : (s a : ℕ) (more es : List ℕ) → s < 256 → entered a es ≡ true → entered a (enter s more es) ≡ true
enter-stays s a [] es small h = rw (enter-none s es) h
enter-stays s a (x ∷ more) [] small h = absurd (let z : ◌≡◌ {A = ℕ} 0 1 = cc in omega arith)
enter-stays s a (x ∷ more) (e ∷ es) small h =
    go (order x (attribute_of e)) (enter-stays s a more (e ∷ es) small h) (enter-stays s a (x ∷ more) es small) (enter-stays s a more es small)
  where
    kept : (t : Bool) (rest rest' : Bool) → (rest ≡ true → rest' ≡ true) → t || rest ≡ true → t || rest' ≡ true
    kept true rest rest' k q = refl
    kept false rest rest' k q = k q

    any : (t b : Bool) → b ≡ true → t || b ≡ true
    any true b q = refl
    any false b q = q

    go :
        Order x (attribute_of e)
        → entered a (enter s more (e ∷ es)) ≡ true
        → (entered a es ≡ true → entered a (enter s (x ∷ more) es) ≡ true)
        → (entered a es ≡ true → entered a (enter s more es) ≡ true)
        → entered a (enter s (x ∷ more) (e ∷ es)) ≡ true
    go (lower l) one two three = rw (enter-lower s x more e es l) (any (eqb a (attribute_of (x * 256 + s))) (entered a (enter s more (e ∷ es))) one)
    go (higher l) one two three = rw (enter-higher s x more e es l) (kept (eqb a (attribute_of e)) (entered a es) (entered a (enter s (x ∷ more) es)) two h)
    go (equal l) one two three = rw (enter-equal s x more e es l, joined-attribute e s small) (kept (eqb a (attribute_of e)) (entered a es) (entered a (enter s more es)) three h)

stays-from : (s a : ℕ) (ls : List (List ℕ)) (es : List ℕ) → s + length ls ≤ 256 → entered a es ≡ true → entered a (entries_from s ls es) ≡ true
stays-from s a [] es fits h = h
stays-from s a (l ∷ ls) es fits h = stays-from (s + 1) a ls (enter s l es) (omega arith) (enter-stays s a l es (omega arith) h)

-- an entry of a set of entries that have relations each has a holder
entered-held : (m a : ℕ) (es : List ℕ) → Held m es → entered a es ≡ true → 1 ≤ holders_in es a
entered-held m a [] held h = absurd (let z : ◌≡◌ {A = ℕ} 0 1 = cc in omega arith)
entered-held m a (e ∷ es) held h = go (eqb a (attribute_of e)) h (entered-held m a es held.2)
  where
    go : (t : Bool) → t || entered a es ≡ true → (entered a es ≡ true → 1 ≤ holders_in es a) → 1 ≤ cond t (subset_of e) (holders_in es a)
    go true q rest = held.0
    go false q rest = rest q

entered-first : (x : ℕ) (l : List ℕ) (ls : List (List ℕ)) → 1 + length ls ≤ 256 → entered x (entries_in ((x ∷ l) ∷ ls)) ≡ true
entered-first x l ls fits =
    rw (entries-first (x ∷ l) ls, enter-first 0 x l)
    (stays-from 1 x ls ((x * 256 + 0) ∷ enter 0 l []) fits
    (ap (λ (t : Bool). t || entered x (enter 0 l [])) (eq-eqb x ((x * 256 + 0) / 256) (omega arith))))

-- an attribute of list 0 would be in the list of its holders too
pub list-zero : (m : ℕ) (ls : List (List ℕ)) → IsLists ls → repeated_in nothing_seen (all_listed ls) ≡ false → Held m (entries_in ls) → get_or ls 0 [] ≡ []
list-zero m [] lists once held = refl
list-zero m ([] ∷ ls) lists once held = refl
list-zero m ((x ∷ l) ∷ ls) lists once held = absurd (clash here apart)
  where
    apart : member x (all_listed ls) ≡ false
    apart = (once-apart nothing_seen ((x ∷ l) ∷ ls) once).0 x (ap (λ (t : Bool). t || member x l) (eq-eqb x x refl))

    some : 1 ≤ holders_in (entries_in ((x ∷ l) ∷ ls)) x
    some = entered-held m x (entries_in ((x ∷ l) ∷ ls)) held (entered-first x l ls (let size = lists.size in omega arith))

    owned : member x (get_or ((x ∷ l) ∷ ls) (holders_in (entries_in ((x ∷ l) ∷ ls)) x) []) ≡ true
    owned =
        sym (lists-holders ((x ∷ l) ∷ ls) lists.size lists.rising (once-apart nothing_seen ((x ∷ l) ∷ ls) once) x (holders_in (entries_in ((x ∷ l) ∷ ls)) x) some)
        ∙ eq-eqb (holders_in (entries_in ((x ∷ l) ∷ ls)) x) (holders_in (entries_in ((x ∷ l) ∷ ls)) x) refl

    here : member x (all_listed ls) ≡ true
    here = in-later (holders_in (entries_in ((x ∷ l) ∷ ls)) x) some owned
      where
        in-later : (s : ℕ) → 1 ≤ s → member x (get_or ((x ∷ l) ∷ ls) s []) ≡ true → member x (all_listed ls) ≡ true
        in-later zero h k = absurd (omega arith)
        in-later (suc s) h k = absurd (clash k (listed-none x ls s apart))
