-- The list of all subsets, fewest members first and then by number (FORMAT 7.8): one test of a whole list, and the rule
-- that a list which passes it follows.
use Rattle.std.specs.Prelude.{ℕ, zero, suc, ◌+◌, ◌-◌, ◌≤◌, ◌<◌, ◌≡◌, refl, Bool, true, false, cond, ◌&&◌, ◌||◌, ◌⊎◌, T, eqb, ltb, leb, length}
use Rattle.std.proofs.Common.{sym, ◌∙◌, inl, inr, ⊎_elim, le_of_suc-le-suc, add-one, arith, eqb-true, leb-true, ltb-true, ltb→lt, leb→le, eqb→eq, drop_of_length-le, drop-cons}
use Rattle.std.proofs.Math.Path.{ap}
use Rattle.std.proofs.Math.Bool.{and-eq-true_iff}
use mathlib.Core.List.{List, [], ◌∷◌}
use Rattle.std.proofs.Math.Decide.{dec_lt}
use Rattle.std.proofs.Math.ListN.{get_or, drop}
use Rattle.bits.specs.AllBelow.{all_below, all_in}
use Rattle.bits.specs.Lowest.{lowest_from, Lowest, lowest-is}
use Rattle.bits.specs.Rising.{member}
use Rattle.bits.specs.Truth.{is_true, by-true, by-false, left, right}
use Rattle.types.specs.Memberships.{members, members-none}
use Rattle.verdict_answer.specs.First.{fewest_in}
use Rattle.verdict_answer.specs.FewestLaws.{Fewest, rank, fewest-once}
use Rattle.verdict_answer.proofs.FewestLaws.{fewest-in}

-- ---- the test

-- the subsets of a list come in their order, the first not before p
abbrev pub rises_from : ℕ → List ℕ → Bool
rises_from p [] = true
rises_from p (s ∷ list) = ltb s 256 && (leb p (rank s) && rises_from (rank s + 1) list)

-- 256 subsets in their order, and each number among them
unfoldable pub fewest_first : List ℕ → Bool
fewest_first list = eqb (length list) 256 && (rises_from 0 list && all_below 256 (λ s. member s list))

-- in such a list all before place p have fewer than n members: the last of them has
abbrev pub fewer_before : List ℕ → ℕ → ℕ → Bool
fewer_before list n p = leb p 256 && (eqb p 0 || ltb (members (get_or list (p - 1) 0)) n)

-- a place for each n up to 9, where those with n members begin
unfoldable pub starts_in : List ℕ → List ℕ → Bool
starts_in list starts = eqb (length starts) 10 && all_below 10 (λ n. fewer_before list n (get_or starts n 0))

-- ---- the rule

-- s comes before t: it has fewer members, or as many and the lower number
abbrev pub Before : ℕ → ℕ → Type 0
Before s t = (members s < members t) ⊎ ((members s ≡ members t) × (s < t))

-- every number below 256 occurs exactly once; members rise, and among equal members the number rises
pub record FewestFirst (list : List ℕ) : Type 0 where
  pub size : length list ≡ 256
  pub below : (j : ℕ) → j < 256 → get_or list j 0 < 256
  pub occurs : (s : ℕ) → s < 256 → (j : ℕ) × ((j < 256) × (get_or list j 0 ≡ s))
  pub once : (i j : ℕ) → i < 256 → j < 256 → get_or list i 0 ≡ get_or list j 0 → i ≡ j
  pub rises : (i j : ℕ) → i < j → j < 256 → Before (get_or list i 0) (get_or list j 0)

-- ---- from the test to the rule

-- where the parts of the test of a list passed
module _ (p s : ℕ) (xs : List ℕ) (t : T (rises_from p (s ∷ xs))) where
  first_below : s < 256
  first_below = ltb→lt s 256 (left (ltb s 256) (leb p (rank s) && rises_from (rank s + 1) xs) t)

  others : T (leb p (rank s) && rises_from (rank s + 1) xs)
  others = right (ltb s 256) (leb p (rank s) && rises_from (rank s + 1) xs) t

  first-from : p ≤ rank s
  first-from = leb→le p (rank s) (left (leb p (rank s)) (rises_from (rank s + 1) xs) others)

  rest-rises : T (rises_from (rank s + 1) xs)
  rest-rises = right (leb p (rank s)) (rises_from (rank s + 1) xs) others

each_from : (p : ℕ) (xs : List ℕ) → T (rises_from p xs) → (j : ℕ) → j < length xs → (get_or xs j 0 < 256) × (p ≤ rank (get_or xs j 0))
each_from p [] t j h = absurd (omega arith)
each_from p (s ∷ xs) t zero h = (first_below p s xs t, first-from p s xs t)
each_from p (s ∷ xs) t (suc j) h =
    let rest = each_from (rank s + 1) xs (rest-rises p s xs t) j (le_of_suc-le-suc h) in
    let above = rest.1 in
    let from = first-from p s xs t in
    (rest.0, omega arith)

ranks-rise : (p : ℕ) (xs : List ℕ) → T (rises_from p xs) → (i j : ℕ) → i < j → j < length xs → rank (get_or xs i 0) < rank (get_or xs j 0)
ranks-rise p [] t i j less h = absurd (omega arith)
ranks-rise p (s ∷ xs) t i zero less h = absurd (omega arith)
ranks-rise p (s ∷ xs) t zero (suc j) less h = let above = (each_from (rank s + 1) xs (rest-rises p s xs t) j (le_of_suc-le-suc h)).1 in omega arith
ranks-rise p (s ∷ xs) t (suc i) (suc j) less h = ranks-rise (rank s + 1) xs (rest-rises p s xs t) i j (le_of_suc-le-suc less) (le_of_suc-le-suc h)

member-place : (s : ℕ) (xs : List ℕ) → member s xs ≡ true → (j : ℕ) × ((j < length xs) × (get_or xs j 0 ≡ s))
member-place s [] is = absurd (by-true is)
member-place s (x ∷ xs) is = go (eqb s x) refl is (member-place s xs)
  where
    go : (t : Bool) → eqb s x ≡ t → t || member s xs ≡ true → (member s xs ≡ true → (j : ℕ) × ((j < length xs) × (get_or xs j 0 ≡ s))) → (j : ℕ) × ((j < suc (length xs)) × (get_or (x ∷ xs) j 0 ≡ s))
    go true e is rest = (0, (omega arith, sym (eqb-true s x e)))
    go false e is rest = let found = rest is in let less = found.1.0 in (suc found.0, (omega arith, found.1.1))

rank-before : (s t : ℕ) → s < 256 → t < 256 → rank s < rank t → Before s t
rank-before s t hs ht less = go (dec_lt (members s) (members t))
  where
    go : Dec (members s < members t) → Before s t
    go (yes fewer) = inl fewer
    go (no h) = inr (omega arith, omega arith)

-- where the three parts of the test passed
module _ (list : List ℕ) (size : length list ≡ 256) (ranks : T (rises_from 0 list)) (each : all_below 256 (λ s. member s list) ≡ true) where
  rank_rises : (i j : ℕ) → i < j → j < 256 → rank (get_or list i 0) < rank (get_or list j 0)
  rank_rises i j less h = ranks-rise 0 list ranks i j less (omega arith)

  entry-below : (j : ℕ) → j < 256 → get_or list j 0 < 256
  entry-below j h = (each_from 0 list ranks j (omega arith)).0

  apart : (i j : ℕ) → i < 256 → j < 256 → get_or list i 0 ≡ get_or list j 0 → Dec (i < j) → Dec (j < i) → i ≡ j
  apart i j hi hj same (yes less) d = let rise = rank_rises i j less hj in let equal = ap rank same in absurd (omega arith)
  apart i j hi hj same (no h) (yes less) = let rise = rank_rises j i less hi in let equal = ap rank same in absurd (omega arith)
  apart i j hi hj same (no h) (no k) = omega arith

  by_parts : FewestFirst list
  by_parts =
      record {
        size = size;
        below = entry-below;
        occurs = λ s h. let found = member-place s list (all_in 256 (λ s. member s list) each s h) in let less = found.1.0 in (found.0, (omega arith, found.1.1));
        once = λ i j hi hj same. apart i j hi hj same (dec_lt i j) (dec_lt j i);
        rises = λ i j less h. rank-before (get_or list i 0) (get_or list j 0) (entry-below i (omega arith)) (entry-below j h) (rank_rises i j less h);
      }

-- a list that passes the test follows the rule
pub fewest-first : (list : List ℕ) → fewest_first list ≡ true → FewestFirst list
unfolding fewest_first
fewest-first list passes =
    let size = eqb (length list) 256 in
    let ranks = rises_from 0 list in
    let each = all_below 256 (λ s. member s list) in
    let parts = right size (ranks && each) (by-true passes) in
    by_parts list (eqb→eq (length list) 256 (left size (ranks && each) (by-true passes))) (left ranks each parts) (is_true each (right ranks each parts))

-- ---- the first of a list that passes a test

-- FORMAT 7.8: 256 where none does
unfoldable pub first_listed : List ℕ → (ℕ → Bool) → ℕ
first_listed [] test = 256
first_listed (s ∷ list) test = cond (test s) s (first_listed list test)

-- from place j on
module _ (list : List ℕ) (test : ℕ → Bool) (j : ℕ) where
  listed_at : j < length list → first_listed (drop j list) test ≡ cond (test (get_or list j 0)) (get_or list j 0) (first_listed (drop (j + 1) list) test)
  unfolding first_listed
  listed_at h = ap (λ (l : List ℕ). first_listed l test) (drop-cons list j 0 h ∙ ap (λ (k : ℕ). get_or list j 0 ∷ drop k list) (sym (add-one j)))

  pub listed_here : j < length list → test (get_or list j 0) ≡ true → first_listed (drop j list) test ≡ get_or list j 0
  listed_here h passes = listed_at h ∙ ap (λ (t : Bool). cond t (get_or list j 0) (first_listed (drop (j + 1) list) test)) passes

  pub listed-later : j < length list → test (get_or list j 0) ≡ false → first_listed (drop j list) test ≡ first_listed (drop (j + 1) list) test
  listed-later h fails = listed_at h ∙ ap (λ (t : Bool). cond t (get_or list j 0) (first_listed (drop (j + 1) list) test)) fails

  pub listed-none : length list ≤ j → first_listed (drop j list) test ≡ 256
  unfolding first_listed
  listed-none past = ap (λ (l : List ℕ). first_listed l test) (drop_of_length-le list past)

-- it may be looked for from place j on where none before passes
listed-from : (list : List ℕ) (test : ℕ → Bool) (j : ℕ) → j ≤ length list → ((i : ℕ) → i < j → test (get_or list i 0) ≡ false) → first_listed (drop j list) test ≡ first_listed list test
listed-from list test zero most none = refl
listed-from list test (suc j) most none =
    ap (λ (k : ℕ). first_listed (drop k list) test) (sym (add-one j))
    ∙ sym (listed-later list test j (omega arith) (none j (omega arith)))
    ∙ listed-from list test j (omega arith) (λ i h. none i (omega arith))

-- in a list that follows the rule it is the one with the fewest members, of those the lowest
module _ (list : List ℕ) (is : FewestFirst list) (test : ℕ → Bool) where
  -- its place; 256 where there is none
  abbrev place : ℕ
  place = lowest_from 256 0 (λ i. test (get_or list i 0))

  found : Lowest 256 0 (λ i. test (get_or list i 0)) place
  found = lowest-is 256 0 (λ i. test (get_or list i 0))

  -- one that passes does not come before it
  after-place : (s : ℕ) → test s ≡ true → (i : ℕ) → i < 256 → get_or list i 0 ≡ s → place < 256 → Dec (i < place) → Dec (place < i) → rank (get_or list place 0) ≤ rank s
  after-place s passes i below same some (yes less) d = absurd (by-false (found.before i (omega arith) less) (by-true (ap test same ∙ passes)))
  after-place s passes i below same some (no h) (yes more) =
      let low = is.below place some in
      rw (← same) (⊎_elim (λ fewer. omega arith) (λ both. let members = both.0 in let number = both.1 in omega arith) (is.rises place i more below))
  after-place s passes i below same some (no h) (no k) =
      let here : i ≡ place = omega arith in
      rw (← same, here) (omega arith)

  place-fewest : place < 256 → Fewest test (get_or list place 0)
  place-fewest some =
      record {
        found = record { up_to = let low = is.below place some in omega arith; passes = λ less. found.passes some; none = λ past. let low = is.below place some in absurd (omega arith) };
        least = λ s below passes. let at = is.occurs s below in (is.below place some, after-place s passes at.0 at.1.0 at.1.1 some (dec_lt at.0 place) (dec_lt place at.0));
      }

  none_passes : 256 ≤ place → (s : ℕ) → s < 256 → test s ≡ false
  none_passes past s below =
      let at = is.occurs s below in
      let less = at.1.0 in
      sym (ap test at.1.1) ∙ found.before at.0 (omega arith) (omega arith)

  none-fewest : 256 ≤ place → Fewest test 256
  none-fewest past =
      record {
        found = record { up_to = omega arith; passes = λ less. absurd (omega arith); none = λ h. none_passes past };
        least = λ s below passes. absurd (by-false (none_passes past s below) (by-true passes));
      }

  pub listed-fewest : first_listed list test ≡ fewest_in test
  listed-fewest =
      let size = is.size in
      let up_to = found.up_to in
      sym (listed-from list test place (omega arith) (λ i less. found.before i (omega arith) less)) ∙ go size (dec_lt place 256)
    where
      go : length list ≡ 256 → Dec (place < 256) → first_listed (drop place list) test ≡ fewest_in test
      go size (yes some) = listed_here list test place (omega arith) (found.passes some) ∙ fewest-once test (get_or list place 0) (fewest_in test) (place-fewest some) (fewest-in test)
      go size (no h) = listed-none list test place (omega arith) ∙ fewest-once test 256 (fewest_in test) (none-fewest (omega arith)) (fewest-in test)

-- ---- the empty subset is the first of all

pub empty-first : (test : ℕ → Bool) → test 0 ≡ true → 0 ≡ fewest_in test
empty-first test passes =
    let none = members-none in
    fewest-once test 0 (fewest_in test)
    (record {
      found = record { up_to = omega arith; passes = λ less. passes; none = λ past. absurd (omega arith) };
      least = λ s below right. (omega arith, omega arith);
    })
    (fewest-in test)

-- ---- where the search begins

module _ (list starts : List ℕ) (passes : starts_in list starts ≡ true) where
  parts : (eqb (length starts) 10 ≡ true) × (all_below 10 (λ n. fewer_before list n (get_or starts n 0)) ≡ true)
  unfolding starts_in
  parts = (and-eq-true_iff (eqb (length starts) 10) (all_below 10 (λ n. fewer_before list n (get_or starts n 0)))).0 passes

  pub starts-size : length starts ≡ 10
  starts-size = eqb-true (length starts) 10 parts.0

  start-parts : (n : ℕ) → n < 10 → (leb (get_or starts n 0) 256 ≡ true) × (eqb (get_or starts n 0) 0 || ltb (members (get_or list (get_or starts n 0 - 1) 0)) n ≡ true)
  start-parts n h =
      (and-eq-true_iff (leb (get_or starts n 0) 256) (eqb (get_or starts n 0) 0 || ltb (members (get_or list (get_or starts n 0 - 1) 0)) n)
      ).0 (all_in 10 (λ n. fewer_before list n (get_or starts n 0)) parts.1 n h)

  start-most : (n : ℕ) → n < 10 → get_or starts n 0 ≤ 256
  start-most n h = leb-true (get_or starts n 0) 256 (start-parts n h).0

  -- those before have fewer members
  before-start : FewestFirst list → (n : ℕ) → n < 10 → (i : ℕ) → i < get_or starts n 0 → members (get_or list i 0) < n
  before-start is n h i less = last (eqb (get_or starts n 0) 0) refl (start-parts n h).1
    where
      rest : members (get_or list (get_or starts n 0 - 1) 0) < n → Dec (i < get_or starts n 0 - 1) → members (get_or list i 0) < n
      rest fewer (yes earlier) =
          let most = start-most n h in
          ⊎_elim (λ rises. omega arith) (λ both. let same = both.0 in omega arith) (is.rises i (get_or starts n 0 - 1) earlier (omega arith))
      rest fewer (no other) =
          let here : i ≡ get_or starts n 0 - 1 = omega arith in
          rw here fewer

      last : (t : Bool) → eqb (get_or starts n 0) 0 ≡ t → t || ltb (members (get_or list (get_or starts n 0 - 1) 0)) n ≡ true → members (get_or list i 0) < n
      last true e passed = let none = eqb-true (get_or starts n 0) 0 e in absurd (omega arith)
      last false e passed = rest (ltb-true (members (get_or list (get_or starts n 0 - 1) 0)) n passed) (dec_lt i (get_or starts n 0 - 1))

  -- the first that passes may be looked for from there on, if no subset that passes has fewer members
  pub search-start :
      FewestFirst list
      → (test : ℕ → Bool) (n : ℕ)
      → (n ≤ 9) × ((s : ℕ) → s < 256 → test s ≡ true → n ≤ members s)
      → (get_or starts n 0 ≤ 256) × (first_listed (drop (get_or starts n 0) list) test ≡ fewest_in test)
  search-start is test n least =
      let few = least.0 in
      let most = start-most n (omega arith) in
      let size = is.size in
      (most, listed-from list test (get_or starts n 0) (omega arith) (λ i less. fails i less (test (get_or list i 0)) refl) ∙ listed-fewest list is test)
    where
      fails : (i : ℕ) → i < get_or starts n 0 → (t : Bool) → test (get_or list i 0) ≡ t → t ≡ false
      fails i less true e =
          let few = least.0 in
          let most = start-most n (omega arith) in
          let fewer = before-start is n (omega arith) i less in
          let more = least.1 (get_or list i 0) (is.below i (omega arith)) e in
          absurd (omega arith)
      fails i less false e = refl
