-- Chains of refusals: tests one after the other, each with the refusal that it gives (FORMAT 8.2).
use Rattle.std.specs.Prelude.{◌≡◌, refl, Bool, true, false}
use Rattle.std.proofs.Math.Path.{ap}
use Rattle.std.proofs.Common.{lt-ltb, le-ltb, le-leb, eq-eqb, ne_eqb}
use Rattle.std.proofs.lemmas.Bool.{lt-leb}
use Rattle.refusal.specs.declared.Refusal.{Refusal}

-- FORMAT 8.2: the refusal, as an answer, if the test holds; else what comes next
unfoldable pub refuse : {A : Type 0} → (Refusal → A) → Bool → Refusal → A → A
refuse answer true r next = answer r
refuse answer false r next = next

-- ---- one test of a chain

module _ {A : Type 0} (answer : Refusal → A) (t : Bool) (r : Refusal) (next : A) where
  pub refuse-stops : t ≡ true → refuse answer t r next ≡ answer r
  unfolding refuse
  refuse-stops e = ap (λ (b : Bool). refuse answer b r next) e

  pub refuse-passes : t ≡ false → refuse answer t r next ≡ next
  unfolding refuse
  refuse-passes e = ap (λ (b : Bool). refuse answer b r next) e

-- what the refusal has, and what comes next where the test fails, the chain has
pub refuse-has : {A : Type 0} (P : A → Type 0) (answer : Refusal → A) (t : Bool) (r : Refusal) (next : A) → P (answer r) → (t ≡ false → P next) → P (refuse answer t r next)
unfolding refuse
refuse-has P answer true r next stop go = stop
refuse-has P answer false r next stop go = go refl

-- an answer that is not the refusal is past the test
pub refuse-past : {A : Type 0} (answer : Refusal → A) (t : Bool) (r : Refusal) (next : A) {x : A} → (answer r ≡ x → ⊥) → refuse answer t r next ≡ x → (t ≡ false) × (next ≡ x)
unfolding refuse
refuse-past answer true r next other e = absurd (other e)
refuse-past answer false r next other e = (refl, e)

-- for a return of code that makes the same tests: `search chain`, under `unfolding` of the chain and `refuse`
pub ruleset chain = (lt-ltb, le-ltb, le-leb, lt-leb, eq-eqb, ne_eqb)
