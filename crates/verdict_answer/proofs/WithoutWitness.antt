-- The verdict without its witness (FORMAT 7.28), and how code finds it.
use Rattle.std.specs.Prelude.{ℕ, ◌-◌, ◌^◌, ◌≤◌, ◌<◌, ◌≡◌, refl, Bool, ltb, drop, [], Ok, Err}
use Rattle.std.proofs.Common.{sym, ap, ◌∙◌, arith, lt-ltb, le-ltb}
use Rattle.std.proofs.Math.Decide.{dec_lt}
use Rattle.refusal.specs.declared.Refusal.{Refusal}
use Rattle.set_cover.specs.Least.{infinity}
use Rattle.set_cover.specs.Choice.{uncovered}
use Rattle.verdict_answer.specs.First.{first_in, blocked_in, subsets_by}
use Rattle.verdict_answer.specs.declared.Subsets.{Subsets}
use Rattle.verdict_answer.specs.Formed.{Formed}
use Rattle.verdict_answer.specs.FirstChoice.{memberships_of}
use Rattle.verdict_answer.specs.Witness.{cost_in}
use Rattle.verdict_answer.specs.Verdict.{untypable_in, outcome_in}
use Rattle.verdict_answer.proofs.VerdictLaws.{untypable-none, outcome-untypable, outcome-typable, stored-blocked, stored-unfilled, first-typable}
use Rattle.verdict_answer.specs.declared.Outcome.{Outcome}
use Rattle.verdict_answer.specs.declared.Typability.TheVariants.{Typable, Untypable}
use Rattle.verdict_answer.specs.Typability.{says_untypable, without_witness}

-- ---- by what the columns of a node allow

module _ (m : ℕ) (allowed : ℕ → ℕ → Bool) where
  -- a column allows nothing
  pub typability-blocked : (subsets : Subsets) → subsets ≡ subsets_by (first_in allowed) → subsets.blocked < 16 → Untypable subsets.blocked ≡ without_witness (outcome_in m allowed)
  typability-blocked subsets are h = ap without_witness (stored-blocked m allowed [] subsets are h).0

  -- each allows something, but the relations cannot all be filled
  pub typability-unfilled : 16 ≤ blocked_in allowed → infinity ≤ cost_in m allowed → Untypable 0 ≡ without_witness (outcome_in m allowed)
  typability-unfilled none cannot = ap without_witness (stored-unfilled m allowed [] none cannot).0

  -- they can
  pub typability-filled : (count : ℕ) → 16 ≤ blocked_in allowed → cost_in m allowed < infinity → count ≡ cost_in m allowed → Typable count ≡ without_witness (outcome_in m allowed)
  typability-filled count none can counted = ap Typable counted ∙ sym (ap without_witness (outcome-typable m allowed [] (let is = untypable-none m allowed none can in omega arith)).0)

  -- and the first subsets do so
  pub typability-first :
      m ≤ 8
      → Formed m allowed
      → (subsets : Subsets)
      → subsets ≡ subsets_by (first_in allowed)
      → 16 ≤ subsets.blocked
      → (count left : ℕ)
      → left ≡ uncovered (2 ^ m - 1) (drop 1 subsets.chosen)
      → left ≡ 0
      → count ≡ memberships_of subsets.chosen
      → Typable count ≡ without_witness (outcome_in m allowed)
  typability-first few formed subsets are none count left found nothing counted =
      ap without_witness (first-typable m few allowed formed [] subsets are none _ count left [] _ found nothing refl refl refl counted).0

  -- ---- what is said

  -- a verdict is given
  pub typability-given : (r : Refusal) → Ok (without_witness (outcome_in m allowed)) ≡ Err r → ⊥
  typability-given r said = let z : ◌≡◌ {A = ℕ} 0 1 = cc in omega arith

  -- untypable is said exactly where it is
  pub says-untypable : says_untypable (without_witness (outcome_in m allowed)) ≡ ltb (untypable_in m allowed) 16
  says-untypable = go (dec_lt (untypable_in m allowed) 16)
    where
      go : Dec (untypable_in m allowed < 16) → says_untypable (without_witness (outcome_in m allowed)) ≡ ltb (untypable_in m allowed) 16
      go (yes h) = ap (λ (o : Outcome). says_untypable (without_witness o)) (outcome-untypable m allowed [] h).0 ∙ sym (lt-ltb (untypable_in m allowed) 16 h)
      go (no h) = ap (λ (o : Outcome). says_untypable (without_witness o)) (outcome-typable m allowed [] (omega arith)).0 ∙ sym (le-ltb (untypable_in m allowed) 16 (omega arith))
