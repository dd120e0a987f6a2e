-- How the entries of a list are appended, entry by entry.
use Prim.Native.Nat.{ℕ, zero, suc, ◌+◌, ◌-◌, ◌*◌, ◌≤◌, ◌<◌, min}
use mathlib.Core.Path.{◌≡◌, refl, sym, ap, ◌∙◌}
use mathlib.Core.List.{List, [], ◌∷◌, ◌++◌, map}
use mathlib.Core.Logic.{◌⊎◌, inl, inr}
use native.Mathlib.Nat.{min-le_right}
use native.Mathlib.Omega.{arith}
use lib.ListN.{length, get_or, set, take, length-take, length-append}
use lib.Seq.{length-take-le}
use Rattle.bits.specs.Tab.{tab, map-tab, length-tab, get_or-tab}
use Rattle.bits.specs.Word.{word}
use Rattle.membership.specs.Entries.{entry, TableIn}
use Rattle.membership.specs.TableLaws.{table-written}
use Rattle.entry_sorting.specs.Appending.{Appending, appending-none, appending-more}
use Rattle.instantiation.specs.Gathering.{Appends}

-- ---- the loop

-- i attributes are entered
pub record Adding (more : List ℕ) (k : ℕ) (old out : List ℕ) (at i : ℕ) : Type 0 where
  pub place : at ≡ k + i
  pub most : at ≤ 256
  pub inside : at ≤ length old
  pub up_to : i ≤ length more
  pub written : Appending more k old out at

module _ {list : List ℕ} {count : ℕ} {old : List ℕ} {k : ℕ} (a : Appends list count old k) (s : ℕ) where
  -- the entries of the list
  abbrev entries : List ℕ
  entries = map (λ x. entry x s) (tab count (λ x. word list (x * 2 + 1)))

  entries-are : entries ≡ tab count (λ x. entry (word list (x * 2 + 1)) s)
  entries-are = map-tab (λ x. entry x s) count (λ x. word list (x * 2 + 1))

  size : length entries ≡ count
  size = ap length entries-are ∙ length-tab count (λ x. entry (word list (x * 2 + 1)) s)

  pub adding-none : Adding (map (λ x. entry x s) (tab count (λ x. word list (x * 2 + 1)))) k old old k 0
  adding-none = record { place = omega arith; most = a.most; inside = a.enough; up_to = omega arith; written = appending-none entries k old a.enough }

  module _ {out : List ℕ} {at i : ℕ} (h : Adding (map (λ x. entry x s) (tab count (λ x. word list (x * 2 + 1)))) k old out at i) where
    -- there is room
    pub adding-room : i < count → at < 256 → at < length out
    adding-room more few =
        let place = h.place in
        let same = h.written.written.size in
        let room = a.room at few (omega arith) in
        omega arith

    pub adding-more : {x : ℕ} → i < count → at < 256 → x ≡ word list (i * 2 + 1) →
        Adding (map (λ x. entry x s) (tab count (λ x. word list (x * 2 + 1)))) k old (set out at (x * 256 + s)) (at + 1) (i + 1)
    adding-more {x} more few is =
        let place = h.place in
        let here : at - k ≡ i = omega arith in
        let all = size in
        record {
          place = omega arith;
          most = omega arith;
          inside = let room = a.room at few (omega arith) in omega arith;
          up_to = omega arith;
          written =
              appending-more h.written (x * 256 + s) (adding-room more few) (omega arith)
              (rw here (ap (λ (l : List ℕ). get_or l i 0) entries-are ∙ get_or-tab count (λ x. entry (word list (x * 2 + 1)) s) i 0 more
              ∙ ap (λ (b : ℕ). entry b s) (sym is)));
        }

    pub adding-end : (count ≤ i) ⊎ (256 ≤ at) → TableIn (take k old ++ map (λ x. entry x s) (tab count (λ x. word list (x * 2 + 1)))) out at
    adding-end done = table-written (take k old ++ entries) old out at h.inside h.written.written (count-is done)
      where
        count-is : (count ≤ i) ⊎ (256 ≤ at) → at ≡ length (take 256 (take k old ++ entries))
        count-is done =
            let taken = length-take 256 (take k old ++ entries) in
            let whole = length-append (take k old) entries in
            let front = length-take-le k old a.enough in
            let all = size in
            taken_is (length (take k old ++ entries)) (omega arith) done taken
          where
            taken_is : (n : ℕ) → n ≡ k + count → (count ≤ i) ⊎ (256 ≤ at) →
                length (take 256 (take k old ++ entries)) ≡ min 256 n → at ≡ length (take 256 (take k old ++ entries))
            taken_is n n-is (inl last) taken = let place = h.place in let up_to = h.up_to in let most = h.most in let all = size in omega arith
            taken_is n n-is (inr full) taken = let place = h.place in let up_to = h.up_to in let most = h.most in let all = size in omega arith

-- ---- the table

-- the first n entries of a list and of more depend on the first n of the list
front-more : (n : ℕ) (es more : List ℕ) → take n (take n es ++ more) ≡ take n (es ++ more)
front-more zero es more = refl
front-more (suc n) [] more = refl
front-more (suc n) (e ∷ es) more = ap (λ (l : List ℕ). e ∷ l) (front-more n es more)

-- appending to the first 256 entries gives the first 256 of all
pub append-table : {es items : List ℕ} {k : ℕ} (more : List ℕ) {out : List ℕ} {r : ℕ} → TableIn es items k →
    TableIn (take k items ++ more) out r → TableIn (es ++ more) out r
append-table {es} {items} {k} more t u =
    let same : take 256 (take k items ++ more) ≡ take 256 (es ++ more) = ap (λ (l : List ℕ). take 256 (l ++ more)) t.entries ∙ front-more 256 es more in
    record { count-is = u.count-is ∙ ap length same; entries = u.entries ∙ same }

-- and no more than are appended
pub append-few : (items : List ℕ) (k : ℕ) (more : List ℕ) {out : List ℕ} {r : ℕ} → k ≤ length items → TableIn (take k items ++ more) out r → r ≤ k + length more
append-few items k more enough t =
    let is = t.count-is in
    let taken = length-take 256 (take k items ++ more) in
    let least = min-le_right 256 (length (take k items ++ more)) in
    let whole = length-append (take k items) more in
    let front = length-take-le k items enough in
    omega arith
