-- Laws of tables: what stands in one, and that entering a list into the first 256 entries gives the first 256 of all.
use Rattle.std.specs.Prelude.{ℕ, zero, suc, ◌≤◌, ◌<◌, ◌≡◌, refl, List, [], ◌∷◌, length, get_or, take}
use Rattle.std.proofs.Common.{sym, ap, ◌∙◌, le_refl, arith, lit<, length-take, take-take, take_all, get_or-take, ext_get_or, length-take-le}
use Rattle.std.proofs.Math.Nat.{min-le_left, min-le_right}
use Rattle.std.specs.Int.Bits.{bit_or}
use Rattle.std.proofs.lemmas.Nat.{or_lt}
use Rattle.std.proofs.Math.Seq.{take-nil}
use Rattle.bits.specs.Written.{Written}
use Rattle.membership.specs.Entries.{entry, attribute_of, enter, TableIn}
use Rattle.membership.specs.Holders.{ItemsFit}
use Rattle.membership.specs.EnterLaws.{enter-lower, enter-higher, enter-equal, Order, lower, higher, equal, order}

-- ---- the first entries

-- the first n entries depend on the first n alone
enter-front : (s n k : ℕ) (more es : List ℕ) → n ≤ k → take n (enter s more (take k es)) ≡ take n (enter s more es)
unfolding enter
enter-front s n k [] es h = take-take n k es h
enter-front s n k (a ∷ more) [] h = rw take-nil
enter-front s zero k (a ∷ more) (e ∷ es) h = refl
enter-front s (suc n) zero (a ∷ more) (e ∷ es) h = absurd (omega arith)
enter-front s (suc n) (suc k) (a ∷ more) (e ∷ es) h =
    go (order a (attribute_of e)) (enter-front s n (suc k) more (e ∷ es) (omega arith)) (enter-front s n k (a ∷ more) es (omega arith)) (enter-front s n k more es (omega arith))
  where
    go :
        Order a (attribute_of e)
        → take n (enter s more (e ∷ take k es)) ≡ take n (enter s more (e ∷ es))
        → take n (enter s (a ∷ more) (take k es)) ≡ take n (enter s (a ∷ more) es)
        → take n (enter s more (take k es)) ≡ take n (enter s more es)
        → take (suc n) (enter s (a ∷ more) (e ∷ take k es)) ≡ take (suc n) (enter s (a ∷ more) (e ∷ es))
    go (lower l) one two three = rw (enter-lower s a more e es l, enter-lower s a more e (take k es) l) (ap (λ (t : List ℕ). entry a s ∷ t) one)
    go (higher l) one two three = rw (enter-higher s a more e es l, enter-higher s a more e (take k es) l) (ap (λ (t : List ℕ). e ∷ t) two)
    go (equal l) one two three = rw (enter-equal s a more e es l, enter-equal s a more e (take k es) l) (ap (λ (t : List ℕ). bit_or e s ∷ t) three)

-- ---- what stands in a table

-- the first entries, as they are written
pub table-written : (es before items : List ℕ) (k : ℕ) → k ≤ length before → Written (λ x. get_or es x 0) k before items → k ≡ length (take 256 es) → TableIn es items k
table-written es before items k inside w size =
    let same = w.size in
    let front = length-take-le k items (omega arith) in
    let whole = length-take 256 es in
    let most = min-le_left 256 (length es) in
    record {
      count-is = size;
      entries =
          ext_get_or 0 (take k items) (take 256 es) (front ∙ size)
          (λ i h. let below : i < k = omega arith in get_or-take k items i 0 below ∙ w.front i below ∙ sym (get_or-take 256 es i 0 (omega arith)));
    }

-- no entries
pub table_none : (items : List ℕ) → TableIn [] items 0
table_none items = record { count-is = refl; entries = refl }

module _ {es items : List ℕ} {count : ℕ} (t : TableIn es items count) where
  pub table-few : count ≤ 256
  table-few = let most = min-le_left 256 (length es) in let size = length-take 256 es in let is = t.count-is in omega arith

  pub table-least : count ≤ length es
  table-least = let least = min-le_right 256 (length es) in let size = length-take 256 es in let is = t.count-is in omega arith

  pub table-reaches : count ≤ length items
  table-reaches =
      let same = ap length t.entries in
      let size = length-take count items in
      let least = min-le_right count (length items) in
      let is = t.count-is in
      omega arith

  -- the count, where there are at most 255 entries, and where there are more
  pub table-count : length es ≤ 255 → count ≡ length es
  table-count h = t.count-is ∙ ap length (take_all 256 es (omega arith))

  pub table-full : 255 < length es → 255 < count
  table-full h = let size = length-take-le 256 es h in let is = t.count-is in omega arith

  -- all entries, where there are at most 255
  pub table-all : length es ≤ 255 → take count items ≡ es
  table-all h = t.entries ∙ take_all 256 es (omega arith)

  -- entering a list into the first 256 entries gives the first 256 of all
  pub enter-table : (s : ℕ) (more : List ℕ) {next : List ℕ} {size : ℕ} → TableIn (enter s more (take count items)) next size → TableIn (enter s more es) next size
  enter-table s more u =
      let same : take 256 (enter s more (take count items)) ≡ take 256 (enter s more es) = ap (λ (l : List ℕ). take 256 (enter s more l)) t.entries ∙ enter-front s 256 256 more es (le_refl 256) in
      record { count-is = u.count-is ∙ ap length same; entries = u.entries ∙ same }

-- ---- entries below 2 ^ 24

-- each number is below the bound
abbrev pub Below : ℕ → List ℕ → Type 0
Below bound [] = Unit {0}
Below bound (x ∷ xs) = (x < bound) × Below bound xs

below_at : (bound : ℕ) (xs : List ℕ) → 0 < bound → Below bound xs → (i : ℕ) → get_or xs i 0 < bound
below_at bound [] some h i = some
below_at bound (x ∷ xs) some h zero = h.0
below_at bound (x ∷ xs) some h (suc i) = below_at bound xs some h.1 i

pub enter-below : (s : ℕ) (more es : List ℕ) → s < 256 → Below 65536 more → Below 16777216 es → Below 16777216 (enter s more es)
unfolding enter
enter-below s [] es small h k = k
enter-below s (a ∷ more) [] small h k = let below = h.0 in (omega arith, enter-below s more [] small h.1 tt)
enter-below s (a ∷ more) (e ∷ es) small h k =
    go (order a (attribute_of e)) (enter-below s more (e ∷ es) small h.1 k) (enter-below s (a ∷ more) es small h k.1) (enter-below s more es small h.1 k.1)
  where
    go : Order a (attribute_of e) → Below 16777216 (enter s more (e ∷ es)) → Below 16777216 (enter s (a ∷ more) es) → Below 16777216 (enter s more es) → Below 16777216 (enter s (a ∷ more) (e ∷ es))
    go (lower l) one two three = let below = h.0 in rw (enter-lower s a more e es l) (omega arith, one)
    go (higher l) one two three = rw (enter-higher s a more e es l) (k.0, two)
    go (equal l) one two three = rw (enter-equal s a more e es l) (or_lt 24 e s k.0 (omega arith), three)

pub all-below : (b : ℕ) (xs : List ℕ) → ((i : ℕ) → get_or xs i 0 < b) → Below b xs
all-below b [] below = tt
all-below b (x ∷ xs) below = (below 0, all-below b xs (λ i. below (suc i)))

-- entries that stand at the front of a slice
pub items-stand : (items es : List ℕ) → take (length es) items ≡ es → Below 16777216 es → ItemsFit items (length es)
items-stand items es stands below =
    let same = ap length stands in
    let size = length-take (length es) items in
    let least = min-le_right (length es) (length items) in
    record {
      enough = omega arith;
      below = λ i inside. rw (sym (get_or-take (length es) items i 0 inside) ∙ ap (λ (l : List ℕ). get_or l i 0) stands) (below_at 16777216 es (lit< tt) below i);
    }
