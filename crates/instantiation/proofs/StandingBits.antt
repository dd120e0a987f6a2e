-- The standing bits of an instantiation's map are the subsets of its entries, where subset 0 has no list.
use Rattle.std.specs.Prelude.{ℕ, ◌<◌, ◌≡◌, refl, true, false, List, ◌∷◌, length, get_or, []}
use Rattle.std.proofs.Common.{sym, ap, ◌∙◌, arith, lit<}
use Rattle.bits.specs.Booleans.{clash}
use Rattle.bits.specs.Word.{Bytes}
use Rattle.membership.specs.Entries.{subset_of}
use Rattle.instantiation.specs.Instantiation.{Instantiation, standing, entries_in, with_subset}
use Rattle.instantiation.specs.ListsLaws.{some, some_is}
use Rattle.instantiation.specs.ReadLaws.{lists-read, lists-standing}
use Rattle.instantiation.specs.EntriesLaws.{entries-lists, list_at_lem}
use Rattle.instantiation.specs.SubsetLaws.{subset-found, subset-some}
use Rattle.instantiation.specs.TableLaws.{ReadInstantiation}
use Rattle.instantiation.specs.StandingBits.{long-enough}

module _ (bytes : List ℕ) (below : Bytes bytes) (i : Instantiation) (ls : List (List ℕ)) (r : ReadInstantiation bytes i ls) where
  stands : (s : ℕ) → s < 256 → standing bytes s ≡ some (get_or ls s [])
  stands = lists-standing bytes ls below r.long r.read

  -- the bit of subset 0 is clear where it has no list
  pub zero_clear : standing bytes 0 ≡ false → get_or ls 0 [] ≡ []
  zero_clear clear = none (get_or ls 0 []) (sym (stands 0 (lit< tt)) ∙ clear)
    where
      none : (l : List ℕ) → some l ≡ false → l ≡ []
      none [] h = refl
      none (a ∷ l) h = absurd (clash (some_is (a ∷ l) (omega arith)) h)

  module _ (none : get_or ls 0 [] ≡ []) where
    list-is : (s : ℕ) → s < 256 → get_or ls s [] ≡ with_subset s (entries_in ls)
    list-is s h = ap (λ (l : List (List ℕ)). get_or l s []) (sym (entries-lists ls (lists-read bytes ls below r.long r.read) none r.once)) ∙ list_at_lem (entries_in ls) s h

    -- a standing bit is the subset of an entry
    pub standing-entry : (s : ℕ) → s < 256 → standing bytes s ≡ true → (j : ℕ) × (j < length (entries_in ls)) × (subset_of (get_or (entries_in ls) j 0) ≡ s)
    standing-entry s h bit-stands = subset-found s (entries_in ls) (rw (list-is s h) at (long-enough (get_or ls s []) (sym (stands s h) ∙ bit-stands)))

    -- and the subset of each entry is a standing bit
    pub entry-standing : (j : ℕ) → j < length (entries_in ls) → standing bytes (subset_of (get_or (entries_in ls) j 0)) ≡ true
    entry-standing j h =
        let small : subset_of (get_or (entries_in ls) j 0) < 256 = omega arith in
        stands (subset_of (get_or (entries_in ls) j 0)) small
        ∙ some_is (get_or ls (subset_of (get_or (entries_in ls) j 0)) []) (rw (list-is (subset_of (get_or (entries_in ls) j 0)) small) (subset-some (entries_in ls) j h))
