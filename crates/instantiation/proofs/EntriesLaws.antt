-- Laws of lists and their table: the order and the bounds of its entries, and that either is made of the other.
use Rattle.std.specs.Prelude.{ℕ, ◌≤◌, ◌<◌, ◌≡◌, refl, false, List, eqb, length, get_or, []}
use Rattle.std.proofs.Common.{ap, ◌∙◌, arith, lit<}
use Rattle.std.proofs.Math.Decide.{dec_lt}
use Rattle.std.proofs.Math.ListN.{get_or-eq_default}
use Rattle.membership.specs.HolderLaws.{holders-small}
use Rattle.bits.specs.Rising.{member, Rising}
use Rattle.membership.specs.Entries.{holders_in}
use Rattle.membership.specs.EnterLaws.{RisingEntries}
use Rattle.membership.specs.EntriesOnce.{Positive, entries-once}
use Rattle.membership.specs.TableLaws.{Below}
use Rattle.instantiation.specs.Instantiation.{entries_in, all_listed, with_subset, lists_of}
use Rattle.instantiation.specs.Seen.{nothing_seen, repeated_in}
use Rattle.instantiation.specs.ReadLaws.{IsLists}
use Rattle.instantiation.specs.Apart.{apart-once}
use Rattle.instantiation.specs.SubsetLaws.{subset-member, subset-rising, subset-none, subset-few, subset-below}
use Rattle.instantiation.specs.Owners.{lists-holders}
use Rattle.instantiation.specs.EntriesLaws.{list_at_lem, listed-positive, listed-rising, lists-apart, lists-size, same_number}

-- ---- the lists of a table's entries

-- the list of s, which is empty from 256 on
list-is : (P : List ℕ → Type 0) (es : List ℕ) → P [] → (s : ℕ) → P (with_subset s es) → P (get_or (lists_of es) s [])
list-is P es empty s h = go (dec_lt s 256)
  where
    go : Dec (s < 256) → P (get_or (lists_of es) s [])
    go (yes inside) = rw (list_at_lem es s inside) h
    go (no past) = let size = lists-size es in rw (get_or-eq_default (lists_of es) [] {n = s} (omega arith)) empty

lists-rising : (es : List ℕ) → RisingEntries 15 es → (s : ℕ) → Rising 15 (get_or (lists_of es) s [])
lists-rising es rising s = list-is (Rising 15) es tt s (subset-rising 15 s es rising)

-- the lists of entries are lists
pub lists-of : (es : List ℕ) → RisingEntries 15 es → Below 16777216 es → length es ≤ 255 → IsLists (lists_of es)
lists-of es rising below few =
    record {
      size = lists-size es;
      rising = lists-rising es rising;
      few = λ s. list-is (λ (l : List ℕ). length l ≤ 255) es (omega arith) s (let most = subset-few s es in omega arith);
      below = λ s. list-is (λ (l : List ℕ). (i : ℕ) → get_or l i 0 < 65536) es (λ i. lit< tt) s (subset-below s es below);
    }

-- ---- no attribute is in two of them

pub lists-once : (es : List ℕ) → RisingEntries 15 es → repeated_in nothing_seen (all_listed (lists_of es)) ≡ false
lists-once es rising = apart-once nothing_seen (lists_of es) (lists-rising es rising) (lists-apart es rising) (λ a h. refl)

-- ---- the entries of a table's lists

-- their entries are those
pub lists-entries : (es : List ℕ) → RisingEntries 15 es → Positive es → entries_in (lists_of es) ≡ es
lists-entries es rising positive =
    entries-once 15 (entries_in (lists_of es)) es (listed-rising (lists_of es) (lists-size es) (lists-rising es rising)) rising (listed-positive (lists_of es) (lists-size es) none) positive
    (λ a. same_number (holders_in (entries_in (lists_of es)) a) (holders_in es a) (holders-small (entries_in (lists_of es)) a) (holders-small es a) (λ s some small. each a s some small))
  where
    none : get_or (lists_of es) 0 [] ≡ []
    none = list_at_lem es 0 (lit< tt) ∙ subset-none es positive

    each : (a s : ℕ) → 1 ≤ s → s < 256 → eqb (holders_in (entries_in (lists_of es)) a) s ≡ eqb (holders_in es a) s
    each a s some small =
        lists-holders (lists_of es) (lists-size es) (lists-rising es rising) (lists-apart es rising) a s some
        ∙ ap (member a) (list_at_lem es s small)
        ∙ subset-member 15 s es some rising a
