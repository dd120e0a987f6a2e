-- Laws of entering a list: each arm, the order of the entries, and who holds an attribute afterwards.
use Rattle.std.specs.Prelude.{ℕ, suc, ◌+◌, ◌*◌, ◌/◌, ◌%◌, ◌≤◌, ◌<◌, max, ◌≡◌, refl, Bool, true, false, cond, ◌&&◌, ◌||◌, List, [], ◌∷◌, eqb, ltb, length}
use Rattle.std.proofs.Common.{sym, ap, ◌∙◌, arith}
use Rattle.std.proofs.Math.Bool.{or_comm, or-false}
use Rattle.std.proofs.Math.Nat.{div-eq_of_lt}
use borrow.Author.Tests.{lt-ltb, le-ltb, ltb-true, ltb-false, eqb-true, ne_eqb}
use Rattle.std.proofs.Math.Arith.{bin_ind}
use Rattle.std.specs.Int.Bits.{bit_or, or_self, or_step, or_zero_r}
use Rattle.std.proofs.lemmas.Nat.{or_shr}
use Rattle.bits.specs.Bit.{bit, bit-low, bit-or, bit-none}
use Rattle.bits.specs.Rising.{member, Rising, rising-above}
use Rattle.membership.specs.Entries.{entry, attribute_of, subset_of, holders_in, enter}

-- ---- an entry

pub entry-attribute : (a s : ℕ) → s < 256 → attribute_of (entry a s) ≡ a
entry-attribute a s h = omega arith

pub entry-subset : (a s : ℕ) → s < 256 → subset_of (entry a s) ≡ s
entry-subset a s h = omega arith

pub joined-attribute : (e s : ℕ) → s < 256 → attribute_of (bit_or e s) ≡ attribute_of e
joined-attribute e s h = or_shr e s 8 ∙ ap (bit_or (e / 256)) (div-eq_of_lt h) ∙ or_zero_r (e / 256)

-- what is joined once is joined
pub joined-again : (e s : ℕ) → bit_or (bit_or e s) s ≡ bit_or e s
joined-again = bin_ind (λ (e : ℕ). (s : ℕ) → bit_or (bit_or e s) s ≡ bit_or e s) or_self (λ e half s. go e s (half (s / 2)))
  where
    go : (e s : ℕ) → bit_or (bit_or (e / 2) (s / 2)) (s / 2) ≡ bit_or (e / 2) (s / 2) → bit_or (bit_or e s) s ≡ bit_or e s
    go e s again =
        let once = or_step e s in
        let rest : bit_or e s / 2 ≡ bit_or (e / 2) (s / 2) = omega arith in
        let twice = or_step (bit_or e s) s ∙ ap (λ (x : ℕ). bit_or x (s / 2) * 2 + max (bit_or e s % 2) (s % 2)) (rest) in
        omega arith

pub subset-bit : (e q : ℕ) → q < 8 → bit (subset_of e) q ≡ bit e q
subset-bit e q h = bit-low 8 e q h

-- ---- the arms

-- which of two attributes comes first
pub data Order (a b : ℕ) : Type 0 where
  lower : a < b → Order a b
  higher : b < a → Order a b
  equal : a ≡ b → Order a b

pub order : (a b : ℕ) → Order a b
order a b = go (ltb a b) refl (ltb b a) refl
  where
    go : (t : Bool) → ltb a b ≡ t → (u : Bool) → ltb b a ≡ u → Order a b
    go true h u k = lower (ltb-true a b h)
    go false h true k = higher (ltb-true b a k)
    go false h false k = let l = ltb-false a b h in let r = ltb-false b a k in equal (omega arith)

pub enter-none : (s : ℕ) (es : List ℕ) → enter s [] es ≡ es
unfolding enter
enter-none s es = refl

-- into no entries
pub enter-first : (s a : ℕ) (more : List ℕ) → enter s (a ∷ more) [] ≡ entry a s ∷ enter s more []
unfolding enter
enter-first s a more = refl

module _ (s a : ℕ) (more : List ℕ) (e : ℕ) (es : List ℕ) where
  pub enter-lower : a < attribute_of e → enter s (a ∷ more) (e ∷ es) ≡ entry a s ∷ enter s more (e ∷ es)
  unfolding enter
  enter-lower h = rw (lt-ltb a (attribute_of e) h)

  pub enter-higher : attribute_of e < a → enter s (a ∷ more) (e ∷ es) ≡ e ∷ enter s (a ∷ more) es
  unfolding enter
  enter-higher h = rw (le-ltb a (attribute_of e) (omega arith), lt-ltb (attribute_of e) a h)

  pub enter-equal : a ≡ attribute_of e → enter s (a ∷ more) (e ∷ es) ≡ bit_or e s ∷ enter s more es
  unfolding enter
  enter-equal h = rw (le-ltb a (attribute_of e) (omega arith), le-ltb (attribute_of e) a (omega arith))

-- ---- their number

pub enter-few : (s : ℕ) (more es : List ℕ) → length (enter s more es) ≤ length more + length es
unfolding enter
enter-few s [] es = omega arith
enter-few s (a ∷ more) [] = let rest = enter-few s more [] in omega arith
enter-few s (a ∷ more) (e ∷ es) = go (order a (attribute_of e)) (enter-few s more (e ∷ es)) (enter-few s (a ∷ more) es) (enter-few s more es)
  where
    go :
        Order a (attribute_of e)
        → length (enter s more (e ∷ es)) ≤ length more + suc (length es)
        → length (enter s (a ∷ more) es) ≤ suc (length more) + length es
        → length (enter s more es) ≤ length more + length es
        → length (enter s (a ∷ more) (e ∷ es)) ≤ suc (length more) + suc (length es)
    go (lower l) one two three = rw (enter-lower s a more e es l) (omega arith)
    go (higher l) one two three = rw (enter-higher s a more e es l) (omega arith)
    go (equal l) one two three = rw (enter-equal s a more e es l) (omega arith)

-- ---- order

-- the attributes of the entries are rising, the first above p
abbrev pub RisingEntries : ℕ → List ℕ → Type 0
RisingEntries p [] = Unit {0}
RisingEntries p (e ∷ es) = (p < attribute_of e) × RisingEntries (attribute_of e) es

pub enter-rising : (s p : ℕ) (more es : List ℕ) → s < 256 → Rising p more → RisingEntries p es → RisingEntries p (enter s more es)
unfolding enter
enter-rising s p [] es small h k = k
enter-rising s p (a ∷ more) [] small h k =
    let is = entry-attribute a s small in
    rw is (h.0, enter-rising s a more [] small h.1 tt)
enter-rising s p (a ∷ more) (e ∷ es) small h k = go (order a (attribute_of e)) (enter-rising s a more (e ∷ es) small h.1) (enter-rising s (attribute_of e) (a ∷ more) es small) (enter-rising s a more es small h.1)
  where
    go :
        Order a (attribute_of e)
        → (RisingEntries a (e ∷ es) → RisingEntries a (enter s more (e ∷ es)))
        → (Rising (attribute_of e) (a ∷ more) → RisingEntries (attribute_of e) es → RisingEntries (attribute_of e) (enter s (a ∷ more) es))
        → (RisingEntries a es → RisingEntries a (enter s more es))
        → RisingEntries p (enter s (a ∷ more) (e ∷ es))
    go (lower l) one two three = rw (enter-lower s a more e es l, entry-attribute a s small) (h.0, one (l, k.1))
    go (higher l) one two three = rw (enter-higher s a more e es l) (k.0, two (l, h.1) k.1)
    go (equal l) one two three = rw (enter-equal s a more e es l, joined-attribute e s small, ← l) (h.0, three (rw l k.1))

-- ---- who holds an attribute

pub holders-below : (p : ℕ) (es : List ℕ) → RisingEntries p es → (a : ℕ) → a ≤ p → holders_in es a ≡ 0
holders-below p [] h a le = refl
holders-below p (e ∷ es) h a le =
    let above = h.0 in
    rw (ne_eqb a (attribute_of e) (λ k. omega arith)) (holders-below (attribute_of e) es h.1 a (omega arith))

-- afterwards the relations in s hold the attributes of the list, besides those that held them before
pub enter-holders : (s p : ℕ) (more es : List ℕ) → s < 256 → Rising p more → RisingEntries p es → (a q : ℕ) → q < 8 → bit (holders_in (enter s more es) a) q ≡ member a more && bit s q || bit (holders_in es a) q
unfolding enter
enter-holders s p [] es small h k a q hq = refl
enter-holders s p (x ∷ more) [] small h k a q hq =
    rw (entry-attribute x s small, entry-subset x s small) (go (eqb a x) (enter-holders s x more [] small h.1 tt a q hq))
  where
    go : (t : Bool) → bit (holders_in (enter s more []) a) q ≡ member a more && bit s q || bit 0 q → bit (cond t s (holders_in (enter s more []) a)) q ≡ (t || member a more) && bit s q || bit 0 q
    go true rest = rw (bit-none q) (sym (or-false (bit s q)))
    go false rest = rest
enter-holders s p (x ∷ more) (e ∷ es) small h k a q hq =
    go (order x (attribute_of e)) (λ r. enter-holders s x more (e ∷ es) small h.1 r a q hq)
    (λ r. enter-holders s (attribute_of e) (x ∷ more) es small r k.1 a q hq) (λ r. enter-holders s x more es small h.1 r a q hq)
  where
    lowest :
        (t : Bool)
        → eqb a x ≡ t
        → RisingEntries x (e ∷ es)
        → bit (holders_in (enter s more (e ∷ es)) a) q ≡ member a more && bit s q || bit (holders_in (e ∷ es) a) q
        → bit (cond t s (holders_in (enter s more (e ∷ es)) a)) q ≡ (t || member a more) && bit s q || bit (holders_in (e ∷ es) a) q
    lowest true t above rest = let same = eqb-true a x t in rw (holders-below x (e ∷ es) above a (omega arith), bit-none q) (sym (or-false (bit s q)))
    lowest false t above rest = rest

    highest :
        (t : Bool)
        → eqb a (attribute_of e) ≡ t
        → Rising (attribute_of e) (x ∷ more)
        → bit (holders_in (enter s (x ∷ more) es) a) q ≡ member a (x ∷ more) && bit s q || bit (holders_in es a) q
        → bit (cond t (subset_of e) (holders_in (enter s (x ∷ more) es) a)) q
        ≡ member a (x ∷ more) && bit s q || bit (cond t (subset_of e) (holders_in es a)) q
    highest true t above rest = let same = eqb-true a (attribute_of e) t in rw (rising-above (attribute_of e) (x ∷ more) a above (omega arith))
    highest false t above rest = rest

    both :
        (t : Bool)
        → bit (holders_in (enter s more es) a) q ≡ member a more && bit s q || bit (holders_in es a) q
        → bit (cond t (subset_of (bit_or e s)) (holders_in (enter s more es) a)) q
        ≡ (t || member a more) && bit s q || bit (cond t (subset_of e) (holders_in es a)) q
    both true rest = subset-bit (bit_or e s) q hq ∙ bit-or e s q ∙ or_comm (bit e q) (bit s q) ∙ ap (λ (b : Bool). bit s q || b) (sym (subset-bit e q hq))
    both false rest = rest

    go :
        Order x (attribute_of e)
        → (RisingEntries x (e ∷ es) → bit (holders_in (enter s more (e ∷ es)) a) q ≡ member a more && bit s q || bit (holders_in (e ∷ es) a) q)
        → (Rising (attribute_of e) (x ∷ more)
        → bit (holders_in (enter s (x ∷ more) es) a) q ≡ member a (x ∷ more) && bit s q || bit (holders_in es a) q)
        → (RisingEntries x es → bit (holders_in (enter s more es) a) q ≡ member a more && bit s q || bit (holders_in es a) q)
        → bit (holders_in (enter s (x ∷ more) (e ∷ es)) a) q ≡ member a (x ∷ more) && bit s q || bit (holders_in (e ∷ es) a) q
    go (lower l) one two three = rw (enter-lower s x more e es l, entry-attribute x s small, entry-subset x s small) (lowest (eqb a x) refl (l, k.1) (one (l, k.1)))
    go (higher l) one two three = rw (enter-higher s x more e es l) (highest (eqb a (attribute_of e)) refl (l, h.1) (two (l, h.1)))
    go (equal l) one two three = rw (enter-equal s x more e es l, joined-attribute e s small, ← l) (both (eqb a x) (three (rw l k.1)))
