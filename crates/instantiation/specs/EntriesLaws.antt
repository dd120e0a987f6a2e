-- Laws of lists and their table: the order and the bounds of its entries, and that either is made of the other.
use Rattle.std.specs.Prelude.{ℕ, zero, suc, ◌+◌, ◌*◌, ◌≤◌, ◌<◌, ◌≡◌, refl, false, List, ◌∷◌, eqb, length, get_or, []}
use Rattle.std.proofs.Common.{sym, ◌∙◌, arith, eqb-true, eq-eqb}
use Rattle.bits.specs.Rising.{Rising, rising-once}
use Rattle.bits.specs.Tab.{length-tab, get_or-tab, tab-is}
use Rattle.membership.specs.Entries.{holders_in, enter}
use Rattle.membership.specs.EnterLaws.{RisingEntries, enter-none, enter-rising}
use Rattle.membership.specs.EntriesOnce.{Positive, enter-positive}
use Rattle.membership.specs.TableLaws.{Below, enter-below, all-below}
use Rattle.instantiation.specs.Instantiation.{entries_from, entries_in, all_listed, with_subset, lists_of, lists_bytes}
use Rattle.instantiation.specs.Seen.{nothing_seen, repeated_in}
use Rattle.instantiation.specs.ReadLaws.{IsLists}
use Rattle.instantiation.specs.Apart.{Apart, once-apart, tab-apart}
use Rattle.instantiation.specs.SubsetLaws.{subset-member, member-holders, subset-rising, subset-none, lists-few}
use Rattle.instantiation.specs.Owners.{lists-holders}

-- the first list is entered first
pub entries-first : (l : List ℕ) (ls : List (List ℕ)) → entries_in (l ∷ ls) ≡ entries_from 1 ls (enter 0 l [])
unfolding entries_in
entries-first l ls = refl

-- ---- order and bounds

rising-from : (s : ℕ) (ls : List (List ℕ)) (es : List ℕ) → s + length ls ≤ 256 → ((i : ℕ) → Rising 15 (get_or ls i [])) → RisingEntries 15 es → RisingEntries 15 (entries_from s ls es)
rising-from s [] es fits rising k = k
rising-from s (l ∷ ls) es fits rising k =
    rising-from (s + 1) ls (enter s l es) (omega arith) (λ i. rising (suc i)) (enter-rising s 15 l es (omega arith) (rising 0) k)

pub listed-rising : (ls : List (List ℕ)) → length ls ≡ 256 → ((s : ℕ) → Rising 15 (get_or ls s [])) → RisingEntries 15 (entries_in ls)
unfolding entries_in
listed-rising ls size rising = rising-from 0 ls [] (omega arith) rising tt

pub entries-rising : (ls : List (List ℕ)) → IsLists ls → RisingEntries 15 (entries_in ls)
entries-rising ls is = listed-rising ls is.size is.rising

below-from : (s : ℕ) (ls : List (List ℕ)) (es : List ℕ) → s + length ls ≤ 256 → ((j i : ℕ) → get_or (get_or ls j []) i 0 < 65536) → Below 16777216 es → Below 16777216 (entries_from s ls es)
below-from s [] es fits below k = k
below-from s (l ∷ ls) es fits below k =
    below-from (s + 1) ls (enter s l es) (omega arith) (λ j. below (suc j)) (enter-below s l es (omega arith) (all-below 65536 l (below 0)) k)

pub entries_below : (ls : List (List ℕ)) → IsLists ls → Below 16777216 (entries_in ls)
unfolding entries_in
entries_below ls is = let size = is.size in below-from 0 ls [] (omega arith) is.below tt

-- ---- every entry has a relation

positive-from : (s : ℕ) (ls : List (List ℕ)) (es : List ℕ) → 1 ≤ s → s + length ls ≤ 256 → Positive es → Positive (entries_from s ls es)
positive-from s [] es some fits h = h
positive-from s (l ∷ ls) es some fits h = positive-from (s + 1) ls (enter s l es) (omega arith) (omega arith) (enter-positive s l es some (omega arith) h)

pub listed-positive : (ls : List (List ℕ)) → length ls ≡ 256 → get_or ls 0 [] ≡ [] → Positive (entries_in ls)
unfolding entries_in
listed-positive [] size none = tt
listed-positive (l ∷ ls) size none = rw (none, enter-none 0 []) (positive-from 1 ls [] (omega arith) (omega arith) tt)

pub entries-positive : (ls : List (List ℕ)) → IsLists ls → get_or ls 0 [] ≡ [] → repeated_in nothing_seen (all_listed ls) ≡ false → Positive (entries_in ls)
entries-positive ls is none once = listed-positive ls is.size none

-- ---- the lists of a table's entries

-- where no attribute is in two lists and subset 0 has none, each list is that of its subset's attributes
pub entries-lists : (ls : List (List ℕ)) → IsLists ls → get_or ls 0 [] ≡ [] → repeated_in nothing_seen (all_listed ls) ≡ false → lists_of (entries_in ls) ≡ ls
unfolding lists_of
entries-lists ls is none once = sym (tab-is 256 (λ s. with_subset s (entries_in ls)) [] ls is.size each)
  where
    each : (s : ℕ) → s < 256 → get_or ls s [] ≡ with_subset s (entries_in ls)
    each zero h = none ∙ sym (subset-none (entries_in ls) (entries-positive ls is none once))
    each (suc s) h =
        let rising = entries-rising ls is in
        rising-once 15 (get_or ls (suc s) []) (with_subset (suc s) (entries_in ls)) (is.rising (suc s)) (subset-rising 15 (suc s) (entries_in ls) rising)
        (λ a. sym (subset-member 15 (suc s) (entries_in ls) (omega arith) rising a ∙ lists-holders ls is.size is.rising (once-apart nothing_seen ls once) a (suc s) (omega arith)))

pub list_at_lem : (es : List ℕ) (s : ℕ) → s < 256 → get_or (lists_of es) s [] ≡ with_subset s es
unfolding lists_of
list_at_lem es s h = get_or-tab 256 (λ s. with_subset s es) s [] h

pub lists-size : (es : List ℕ) → length (lists_of es) ≡ 256
unfolding lists_of
lists-size es = length-tab 256 (λ s. with_subset s es)

-- ---- no attribute is in two of them

pub lists-apart : (es : List ℕ) → RisingEntries 15 es → Apart (lists_of es)
unfolding lists_of
lists-apart es rising = tab-apart (holders_in es) 256 0 (λ s. with_subset s es) (λ a s has. let is = member-holders 15 s es rising a has in omega arith)

-- ---- the entries of a table's lists

pub same_number : (x y : ℕ) → x < 256 → y < 256 → ((n : ℕ) → 1 ≤ n → n < 256 → eqb x n ≡ eqb y n) → x ≡ y
same_number zero zero hx hy same = refl
same_number zero (suc y) hx hy same = eqb-true 0 (suc y) (same (suc y) (omega arith) hy ∙ eq-eqb (suc y) (suc y) refl)
same_number (suc x) y hx hy same = sym (eqb-true y (suc x) (sym (same (suc x) (omega arith) hx) ∙ eq-eqb (suc x) (suc x) refl))

-- at most three bytes an entry
pub lists-most : (es : List ℕ) → length (lists_bytes (lists_of es)) ≤ length es * 3
unfolding lists_of
lists-most es = lists-few 256 es
