-- Who holds an attribute once lists are entered that share none: the relations in the subset whose list has it.
use Rattle.std.specs.Prelude.{ℕ, zero, suc, ◌+◌, ◌≤◌, ◌<◌, ◌≡◌, refl, Bool, true, false, cond, List, [], ◌∷◌, eqb, length, get_or}
use Rattle.std.proofs.Common.{sym, ap, ◌∙◌, add-zero, zero-add, arith, eq-eqb, ne_eqb}
use Rattle.std.proofs.Math.Bool.{or-false}
use Rattle.bits.specs.Booleans.{is_false, clash}
use Rattle.membership.specs.HolderLaws.{holders-small}
use Rattle.bits.specs.Bit.{bit, bit-none}
use Rattle.bits.specs.Pack.{bits-once}
use Rattle.bits.specs.Rising.{member, Rising}
use Rattle.membership.specs.Entries.{holders_in, enter}
use Rattle.membership.specs.EnterLaws.{RisingEntries, enter-rising, enter-holders}
use Rattle.instantiation.specs.Instantiation.{entries_from, entries_in, all_listed}
use Rattle.instantiation.specs.Apart.{Apart, listed-neither, listed-none, listed-first, listed-later}

-- the first of the subsets from s on whose list has a; d if none has
abbrev owner : ℕ → List (List ℕ) → ℕ → ℕ → ℕ
owner s [] a d = d
owner s (l ∷ ls) a d = cond (member a l) s (owner (s + 1) ls a d)

-- ---- one list

module _ (s : ℕ) (more es : List ℕ) (small : s < 256) (r : Rising 15 more) (k : RisingEntries 15 es) (a : ℕ) where
  -- an attribute of the list that nobody held before
  entered-holders : member a more ≡ true → holders_in es a ≡ 0 → holders_in (enter s more es) a ≡ s
  entered-holders has none =
      bits-once 8 (holders_in (enter s more es) a) s (holders-small (enter s more es) a) small
      (λ q h. enter-holders s 15 more es small r k a q h ∙ rw (has, none, bit-none q) (or-false (bit s q)))

  -- another attribute
  kept-holders : member a more ≡ false → holders_in (enter s more es) a ≡ holders_in es a
  kept-holders other =
      bits-once 8 (holders_in (enter s more es) a) (holders_in es a) (holders-small (enter s more es) a) (holders-small es a)
      (λ q h. enter-holders s 15 more es small r k a q h ∙ rw other)

-- ---- all lists

owner-none : (s : ℕ) (ls : List (List ℕ)) (a d : ℕ) → member a (all_listed ls) ≡ false → owner s ls a d ≡ d
owner-none s [] a d none = refl
owner-none s (l ∷ ls) a d none =
    let both = listed-neither a l ls none in
    rw both.0 (owner-none (s + 1) ls a d both.1)

holders-from :
    (s : ℕ) (ls : List (List ℕ)) (es : List ℕ)
    → s + length ls ≤ 256
    → ((i : ℕ) → Rising 15 (get_or ls i []))
    → RisingEntries 15 es
    → Apart ls
    → ((a : ℕ) → member a (all_listed ls) ≡ true → holders_in es a ≡ 0)
    → (a : ℕ)
    → holders_in (entries_from s ls es) a ≡ owner s ls a (holders_in es a)
holders-from s [] es fits rising k apart new a = refl
holders-from s (l ∷ ls) es fits rising k apart new a =
    holders-from (s + 1) ls (enter s l es) (omega arith) (λ i. rising (suc i)) (enter-rising s 15 l es small (rising 0) k) apart.1
    (λ b h. kept-holders s l es small (rising 0) k b (is_false (member b l) (λ has. clash h (apart.0 b has))) ∙ new b (listed-later b l ls h))
    a
    ∙ go (member a l) refl
  where
    small : s < 256
    small = omega arith

    go : (t : Bool) → member a l ≡ t → owner (s + 1) ls a (holders_in (enter s l es) a) ≡ cond t s (owner (s + 1) ls a (holders_in es a))
    go true has = owner-none (s + 1) ls a _ (apart.0 a has) ∙ entered-holders s l es small (rising 0) k a has (new a (listed-first a l ls has))
    go false other = ap (owner (s + 1) ls a) (kept-holders s l es small (rising 0) k a other)

-- ---- the list of a subset that is not empty

owner-from : (k : ℕ) (ls : List (List ℕ)) (a x : ℕ) → 1 ≤ x → x < k → owner k ls a 0 ≡ x → ⊥
owner-from k [] a x some below e = omega arith
owner-from k (l ∷ ls) a x some below e = go (member a l) (owner-from (k + 1) ls a x some (omega arith)) e
  where
    go : (t : Bool) → (owner (k + 1) ls a 0 ≡ x → ⊥) → cond t k (owner (k + 1) ls a 0) ≡ x → ⊥
    go true rest e = omega arith
    go false rest e = rest e

owner_at : (k : ℕ) (ls : List (List ℕ)) (a : ℕ) → Apart ls → (s : ℕ) → 1 ≤ k + s → eqb (owner k ls a 0) (k + s) ≡ member a (get_or ls s [])
owner_at k [] a apart s some = ne_eqb 0 (k + s) (λ e. omega arith)
owner_at k (l ∷ ls) a apart zero some = rw (add-zero k) (go (member a l))
  where
    go : (t : Bool) → eqb (cond t k (owner (k + 1) ls a 0)) k ≡ t
    go true = eq-eqb k k refl
    go false = ne_eqb (owner (k + 1) ls a 0) k (owner-from (k + 1) ls a k (omega arith) (omega arith))
owner_at k (l ∷ ls) a apart (suc s) some =
    let next : k + suc s ≡ k + 1 + s = omega arith in
    rw next (go (member a l) refl (owner_at (k + 1) ls a apart.1 s (omega arith)))
  where
    go : (t : Bool) → member a l ≡ t → eqb (owner (k + 1) ls a 0) (k + 1 + s) ≡ member a (get_or ls s []) → eqb (cond t k (owner (k + 1) ls a 0)) (k + 1 + s) ≡ member a (get_or ls s [])
    go true has rest = ne_eqb k (k + 1 + s) (λ e. omega arith) ∙ sym (listed-none a ls s (apart.0 a has))
    go false other rest = rest

-- a is in the list of s, which is not empty, exactly if the relations in s hold it
pub lists-holders : (ls : List (List ℕ)) → length ls ≡ 256 → ((s : ℕ) → Rising 15 (get_or ls s [])) → Apart ls → (a s : ℕ) → 1 ≤ s → eqb (holders_in (entries_in ls) a) s ≡ member a (get_or ls s [])
unfolding entries_in
lists-holders ls size rising apart a s some =
    ap (λ (x : ℕ). eqb x s) (holders-from 0 ls [] (omega arith) rising tt apart (λ b h. refl) a)
    ∙ ap (eqb (owner 0 ls a 0)) (sym (zero-add s))
    ∙ owner_at 0 ls a apart s (omega arith)
