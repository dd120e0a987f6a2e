-- The lowest number of a range that passes a test.
use Rattle.std.specs.Prelude.{ℕ, zero, suc, ◌+◌, ◌-◌, ◌≤◌, ◌<◌, ◌≡◌, refl, Bool, true, false}
use Rattle.std.proofs.Common.{sym, ap, ap₂, ◌∙◌, ⊎_elim, eq-or-lt_of_le, arith}

-- of the numbers from s on, so many, the lowest that passes; if none does, the first after them
unfoldable pub lowest_from : ℕ → ℕ → (ℕ → Bool) → ℕ
lowest_from zero s test = s
lowest_from (suc n) s test = elim (test s) [ true ↦ s | false ↦ lowest_from n (s + 1) test ]

-- the choice at s
abbrev pick : ℕ → ℕ → Bool → ℕ
pick s rest t = elim t [ true ↦ s | false ↦ rest ]

step : (n s : ℕ) (test : ℕ → Bool) → lowest_from (suc n) s test ≡ pick s (lowest_from n (s + 1) test) (test s)
unfolding lowest_from
step n s test = refl

-- ---- one step, in the words of a loop that stands at s

module _ (count s : ℕ) (test : ℕ → Bool) (some : 0 < count) where
  split : lowest_from count s test ≡ pick s (lowest_from (count - 1) (s + 1) test) (test s)
  split =
      let more : count ≡ suc (count - 1) = omega arith in
      ap (λ (n : ℕ). lowest_from n s test) more ∙ step (count - 1) s test

  pub lowest-here : test s ≡ true → lowest_from count s test ≡ s
  lowest-here e = split ∙ ap (pick s (lowest_from (count - 1) (s + 1) test)) e

  pub lowest-next : test s ≡ false → lowest_from count s test ≡ lowest_from (count - 1) (s + 1) test
  lowest-next e = split ∙ ap (pick s (lowest_from (count - 1) (s + 1) test)) e

pub lowest-none : (s : ℕ) (test : ℕ → Bool) → lowest_from 0 s test ≡ s
unfolding lowest_from
lowest-none s test = refl

-- ---- a search for x that stands at s, below `end`

module _ (end s x : ℕ) (test : ℕ → Bool) (resumed : lowest_from (end - s) s test ≡ x) where
  pub search-found : s < end → test s ≡ true → s ≡ x
  search-found h e = sym (lowest-here (end - s) s test (omega arith) e) ∙ resumed

  pub search-next : s < end → test s ≡ false → lowest_from (end - (s + 1)) (s + 1) test ≡ x
  search-next h e =
      let less : end - (s + 1) ≡ end - s - 1 = omega arith in
      ap (λ (n : ℕ). lowest_from n (s + 1) test) less ∙ sym (lowest-next (end - s) s test (omega arith) e) ∙ resumed

  pub search-ended : end ≤ s → s ≡ x
  search-ended h =
      let none : end - s ≡ 0 = omega arith in
      sym (ap (λ (n : ℕ). lowest_from n s test) none ∙ lowest-none s test) ∙ resumed

-- ---- what was found

-- nothing below it passes, and it passes itself unless it is the first after the range
pub record Lowest (count s : ℕ) (test : ℕ → Bool) (x : ℕ) : Type 0 where
  pub from : s ≤ x
  pub up_to : x ≤ s + count
  pub before : (y : ℕ) → s ≤ y → y < x → test y ≡ false
  pub passes : x < s + count → test x ≡ true

pub lowest-is : (count s : ℕ) (test : ℕ → Bool) → Lowest count s test (lowest_from count s test)
unfolding lowest_from
lowest-is zero s test = record { from = omega arith; up_to = omega arith; before = λ y h k. absurd (omega arith); passes = λ h. absurd (omega arith) }
lowest-is (suc n) s test = go (lowest-is n (s + 1) test) (test s) refl
  where
    go : Lowest n (s + 1) test (lowest_from n (s + 1) test) → (t : Bool) → test s ≡ t → Lowest (suc n) s test (pick s (lowest_from n (s + 1) test) (test s))
    go rest true e = rw e (record { from = omega arith; up_to = omega arith; before = λ y h k. absurd (omega arith); passes = λ h. e })
    go rest false e =
        let from = rest.from in
        let up_to = rest.up_to in
        rw e
        (record {
          from = omega arith;
          up_to = omega arith;
          before = λ y h k. ⊎_elim (λ same. ap test (sym same) ∙ e) (λ above. rest.before y (omega arith) k) (eq-or-lt_of_le h);
          passes = λ h. rest.passes (omega arith);
        })

-- tests that agree on the range find the same
pub lowest-same : (count s : ℕ) (f g : ℕ → Bool) → ((y : ℕ) → s ≤ y → y < s + count → f y ≡ g y) → lowest_from count s f ≡ lowest_from count s g
unfolding lowest_from
lowest-same zero s f g e = refl
lowest-same (suc n) s f g e =
    ap₂ (pick s) (lowest-same n (s + 1) f g (λ y h k. e y (omega arith) (omega arith))) (e s (omega arith) (omega arith))
