-- Laws of the first subset that passes a test: the one with the fewest members, of those the lowest.
use Rattle.std.specs.Prelude.{ℕ, ◌≤◌, ◌<◌, ◌≡◌, Bool, true, false, ◌&&◌}
use Rattle.std.proofs.Math.Path.{refl}
use Rattle.std.proofs.Common.{arith, eq-eqb, eqb-true, ltb-true, ltb-false}
use Rattle.std.proofs.Math.Decide.{dec_lt}
use Rattle.std.proofs.Math.Arith.{lt_of_le-ne}
use Rattle.std.proofs.Math.Dec.{eqb, ltb}
use Rattle.bits.specs.Lowest.{lowest_from, Lowest, lowest-is}
use Rattle.bits.specs.Truth.{is_true, by-true, by-false, both, left, right}
use Rattle.types.specs.Memberships.{members, members-most}
use Rattle.verdict_answer.specs.First.{lowest_with, fewest_in}
use Rattle.verdict_answer.specs.FewestLaws.{Fewest, lowest-in, rank}

-- ---- by members, and then by number

module _ (test : ℕ → Bool) where
  -- of those with n members
  lowest-with : (n : ℕ) → Lowest 256 0 (λ s. eqb (members s) n && test s) (lowest_with n test)
  unfolding lowest_with
  lowest-with n = lowest-in (λ s. eqb (members s) n && test s)

  -- one that passes, with n members, is not below it
  with-most : (s : ℕ) → test s ≡ true → lowest_with (members s) test ≤ s
  with-most s passes = go (dec_lt s (lowest_with (members s) test))
    where
      go : Dec (s < lowest_with (members s) test) → lowest_with (members s) test ≤ s
      go (yes above) =
          absurd (by-false ((lowest-with (members s)).before s (omega arith) above) (both (eqb (members s) (members s)) (test s) (by-true (eq-eqb (members s) (members s) refl)) (by-true passes)))
      go (no h) = omega arith

  with-passes : {n : ℕ} → lowest_with n test < 256 → (members (lowest_with n test) ≡ n) × (test (lowest_with n test) ≡ true)
  with-passes {n} less =
      let found = by-true ((lowest-with n).passes less) in
      let s = lowest_with n test in
      (eqb-true (members s) n (is_true (eqb (members s) n) (left (eqb (members s) n) (test s) found)), is_true (test s) (right (eqb (members s) n) (test s) found))

  -- the fewest members that one that passes has; 9 where none does
  fewest : ℕ
  fewest = lowest_from 9 0 (λ n. ltb (lowest_with n test) 256)

  fewest-lowest : Lowest 9 0 (λ n. ltb (lowest_with n test) 256) fewest
  unfolding fewest
  fewest-lowest = lowest-is 9 0 (λ n. ltb (lowest_with n test) 256)

  fewest-is : fewest_in test ≡ lowest_with fewest test
  unfolding fewest_in fewest
  fewest-is = refl

  -- one that passes has no fewer
  fewest-most : (s : ℕ) → s < 256 → test s ≡ true → fewest ≤ members s
  fewest-most s below passes = go (dec_lt (members s) fewest)
    where
      go : Dec (members s < fewest) → fewest ≤ members s
      go (yes less) =
          let past = ltb-false (lowest_with (members s) test) 256 (fewest-lowest.before (members s) (omega arith) less) in
          let up_to = with-most s passes in
          absurd (omega (arith, past, up_to))
      go (no h) = omega arith

  fewest-before : (s : ℕ) → s < 256 → test s ≡ true → (fewest_in test < 256) × (rank (fewest_in test) ≤ rank s)
  fewest-before s below passes =
      let few = fewest-most s below passes in
      let most = members-most s in
      let less = ltb-true (lowest_with fewest test) 256 (fewest-lowest.passes (omega arith)) in
      let has = (with-passes less).0 in
      rw fewest-is (less, after (dec_lt fewest (members s)) few has less)
    where
      after : Dec (fewest < members s) → fewest ≤ members s → members (lowest_with fewest test) ≡ fewest → lowest_with fewest test < 256 → rank (lowest_with fewest test) ≤ rank s
      after (yes fewer) few has less = omega arith
      after (no h) few has less =
          let same : fewest ≡ members s = omega arith in
          let up_to : lowest_with fewest test ≤ s = rw same (with-most s passes) in
          omega arith

  -- the first by fewest members is the one
  pub fewest-in : Fewest test (fewest_in test)
  fewest-in =
      record {
        found = record {
          up_to = rw fewest-is (lowest-with fewest).up_to;
          passes = λ less. rw fewest-is (with-passes (rw fewest-is at less)).1;
          none = λ past s below. go past s below (test s) refl;
        };
        least = fewest-before;
      }
    where
      go : 256 ≤ fewest_in test → (s : ℕ) → s < 256 → (t : Bool) → test s ≡ t → test s ≡ false
      go past s below true is = let less = (fewest-before s below is).0 in absurd (omega arith)
      go past s below false is = is

-- ---- what it is used for

-- another than 256 is below it
pub first_small : (test : ℕ → Bool) (x : ℕ) → x ≡ fewest_in test → (x ≡ 256 → ⊥) → x < 256
first_small test x is other = lt_of_le-ne (rw is (fewest-in test).found.up_to) other
