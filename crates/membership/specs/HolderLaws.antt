-- Laws of the attributes that a relation holds: which they are, their order and their number.
use Rattle.std.specs.Prelude.{ℕ, zero, suc, ◌≤◌, ◌<◌, ◌≡◌, refl, Bool, true, false, cond, List, [], ◌∷◌, eqb, length, get_or, take}
use Rattle.std.proofs.Common.{sym, ap, ◌∙◌, arith, eqb-true, lit<, length-take, length-take-le, get_or-take}
use Rattle.std.proofs.Math.Nat.{min-le_right}
use Rattle.std.proofs.Math.ListN.{get_or-eq_default}
use Rattle.std.proofs.Math.Decide.{dec_lt}
use Rattle.bits.specs.Bit.{bit, bit-none}
use Rattle.bits.specs.Rising.{member, Rising, rising-lower}
use Rattle.membership.specs.Entries.{attribute_of, subset_of, holders_in}
use Rattle.membership.specs.EnterLaws.{RisingEntries, subset-bit, holders-below}
use Rattle.membership.specs.Holders.{kept, held_by, ItemsFit}
use Rattle.membership.specs.TableLaws.{Below, all-below}

-- a is listed for relation r exactly if r is one of its holders
pub held-member : (p r : ℕ) (es : List ℕ) → r < 8 → RisingEntries p es → (a : ℕ) → member a (held_by r es) ≡ bit (holders_in es a) r
held-member p r [] hr h a = sym (bit-none r)
held-member p r (e ∷ es) hr h a = go (bit e r) refl (eqb a (attribute_of e)) refl (held-member (attribute_of e) r es hr h.1 a)
  where
    go :
        (b : Bool)
        → bit e r ≡ b
        → (t : Bool)
        → eqb a (attribute_of e) ≡ t
        → member a (held_by r es) ≡ bit (holders_in es a) r
        → member a (cond b (attribute_of e ∷ held_by r es) (held_by r es)) ≡ bit (cond t (subset_of e) (holders_in es a)) r
    go true has true same rest = rw same (sym (subset-bit e r hr ∙ has))
    go true has false other rest = rw other rest
    go false not-has true same rest =
        let is = eqb-true a (attribute_of e) same in
        rest ∙ ap (λ (s : ℕ). bit s r) (holders-below (attribute_of e) es h.1 a (omega arith)) ∙ bit-none r ∙ sym (subset-bit e r hr ∙ not-has)
    go false not-has false other rest = rest

-- ---- the attributes that are kept: their order, their number and their size

pub kept-rising : (test : ℕ → Bool) (p : ℕ) (es : List ℕ) → RisingEntries p es → Rising p (kept test es)
kept-rising test p [] h = tt
kept-rising test p (e ∷ es) h = go (test e) (kept-rising test (attribute_of e) es h.1)
  where
    go : (b : Bool) → Rising (attribute_of e) (kept test es) → Rising p (cond b (attribute_of e ∷ kept test es) (kept test es))
    go true rest = (h.0, rest)
    go false rest = let first = h.0 in rising-lower p (attribute_of e) (kept test es) (omega arith) rest

pub kept-few : (test : ℕ → Bool) (es : List ℕ) → length (kept test es) ≤ length es
kept-few test [] = omega arith
kept-few test (e ∷ es) = go (test e) (kept-few test es)
  where
    go : (b : Bool) → length (kept test es) ≤ length es → length (cond b (attribute_of e ∷ kept test es) (kept test es)) ≤ suc (length es)
    go true rest = omega arith
    go false rest = omega arith

pub kept-below : (test : ℕ → Bool) (es : List ℕ) → Below 16777216 es → (i : ℕ) → get_or (kept test es) i 0 < 65536
kept-below test [] h i = lit< tt
kept-below test (e ∷ es) h i = go (test e) (kept-below test es h.1) i
  where
    go : (b : Bool) → ((i : ℕ) → get_or (kept test es) i 0 < 65536) → (i : ℕ) → get_or (cond b (attribute_of e ∷ kept test es) (kept test es)) i 0 < 65536
    go true rest zero = let below = h.0 in omega arith
    go true rest (suc i) = rest i
    go false rest i = rest i

-- those of a relation
pub held-rising : (p r : ℕ) (es : List ℕ) → RisingEntries p es → Rising p (held_by r es)
held-rising p r = kept-rising (λ e. bit e r) p

pub held-few : (r : ℕ) (es : List ℕ) → length (held_by r es) ≤ length es
held-few r = kept-few (λ e. bit e r)

pub held_below : (r : ℕ) (es : List ℕ) → Below 16777216 es → (i : ℕ) → get_or (held_by r es) i 0 < 65536
held_below r = kept-below (λ e. bit e r)

-- a subset is below 256
pub holders-small : (es : List ℕ) (a : ℕ) → holders_in es a < 256
holders-small [] a = lit< tt
holders-small (e ∷ es) a = go (eqb a (attribute_of e)) (holders-small es a)
  where
    go : (t : Bool) → holders_in es a < 256 → cond t (subset_of e) (holders_in es a) < 256
    go true rest = omega arith
    go false rest = rest

-- ---- entries in memory

pub items-taken : {items : List ℕ} {count : ℕ} → ItemsFit items count → length (take count items) ≡ count
items-taken {items} {count} fit = length-take-le count items fit.enough

pub taken-below : {items : List ℕ} {count : ℕ} → ItemsFit items count → Below 16777216 (take count items)
taken-below {items} {count} fit = all-below 16777216 (take count items) (λ i. go i (dec_lt i count))
  where
    go : (i : ℕ) → Dec (i < count) → get_or (take count items) i 0 < 16777216
    go i (yes h) = rw (get_or-take count items i 0 h) (fit.below i h)
    go i (no h) = let size = items-taken fit in rw (get_or-eq_default (take count items) 0 {n = i} (omega arith)) (lit< tt)

-- the first of them are a slice of their own
pub taken-fit : {items : List ℕ} {count : ℕ} → ItemsFit items count → ItemsFit (take count items) (length (take count items))
taken-fit {items} {count} fit =
    let size = items-taken fit in
    record { enough = omega arith; below = λ i inside. rw (get_or-take count items i 0 (omega arith)) (fit.below i (omega arith)) }

-- ---- attributes that are kept, in a slice

module _ (items : List ℕ) (count : ℕ) (test : ℕ → Bool) {n : ℕ} (list : List ℕ) (number : n ≡ length (kept test (take count items))) (is : take n list ≡ kept test (take count items)) where
  pub listed-reaches : n ≤ length list
  listed-reaches =
      let same = ap length is in
      let size = length-take n list in
      let least = min-le_right n (length list) in
      omega arith

  -- at most 255 attributes of two bytes
  pub listed-fits : ItemsFit items count → count ≤ 255 → (length (take n list) ≤ 255) × ((i : ℕ) → get_or (take n list) i 0 < 65536)
  listed-fits fit few =
      let size = items-taken fit in
      let fewer = kept-few test (take count items) in
      rw is (omega arith, kept-below test (take count items) (taken-below fit))
