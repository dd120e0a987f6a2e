-- Costs and choices look at the columns 0 to 15 alone, and at the subsets below N: where two formulas allow the same
-- there, they have the same.
use Prim.Native.Nat.{ℕ, zero, suc, ◌+◌, ◌-◌, ◌≤◌, ◌<◌}
use Rattle.std.specs.Prelude.{◌≡◌, Bool, cond, ◌&&◌, ◌⊎◌, ltb}
use Rattle.std.proofs.Math.Path.{refl, sym, ap, ap₂}
use Rattle.std.proofs.Common.{◌∙◌, inl, inr, eq-zero-or-pos, arith}
use mathlib.Core.List.{List, [], ◌∷◌, ◌++◌}
use Rattle.std.proofs.Math.Dec.{eqb}
use Rattle.bits.specs.Lowest.{lowest-same}
use Rattle.bits.specs.Tab.{length-tab, get_or-tab, tab-is}
use Rattle.types.specs.Memberships.{members}
use Rattle.states.specs.Formula.{type_variable}
use Rattle.set_cover.specs.Remainder.{rest}
use Rattle.set_cover.specs.Least.{infinity, least-same}
use Rattle.set_cover.specs.Cost.{price, entry, cover_cost, cover_table, cost_table, cost}
use Rattle.set_cover.specs.Choice.{picked, best_variables, best, picked_variable, no-variables, variables-step}

-- two tests that agree below N, and two costs of what is left that agree
module _ (N : ℕ) (f g : ℕ → Bool) (same : (s : ℕ) → s < N → f s ≡ g s) where
  price-same : (next later : ℕ → ℕ) → ((x : ℕ) → next x ≡ later x) → (need s : ℕ) → s < N → price f next need s ≡ price g later need s
  price-same next later alike need s h = ap₂ (λ (b : Bool) (x : ℕ). cond b (members s + x) infinity) (same s h) (alike (rest need s))

  cover-same : (n : ℕ) → cover_table N f n ≡ cover_table N g n
  unfolding cover_table
  cover-same zero = refl
  cover-same (suc n) = ap (λ (t : List ℕ). t ++ (cover_cost N f t n ∷ [])) (cover-same n) ∙ ap (λ (x : ℕ). cover_table N g n ++ (x ∷ [])) (at n (cover_table N g n))
    where
      at : (need : ℕ) (table : List ℕ) → cover_cost N f table need ≡ cover_cost N g table need
      at zero table = refl
      at (suc k) table = least-same N _ _ (price-same (entry table) (entry table) (λ x. refl) (suc k))

  picked_same :
      (next later : ℕ → ℕ)
      → ((x : ℕ) → next x ≡ later x)
      → (need target wanted : ℕ)
      → target ≡ wanted
      → picked N f next need target ≡ picked N g later need wanted
  unfolding picked
  picked_same next later alike need target wanted e =
      lowest-same N 0 _ _ (λ s from up_to. ap₂ eqb (price-same next later alike need s (omega arith)) e)

module _ (N : ℕ) (f g : ℕ → ℕ → Bool) (same : (i : ℕ) → i < 16 → (s : ℕ) → s < N → f i s ≡ g i s) where
  variable-same : (s : ℕ) → s < N → type_variable (f 0) s ≡ type_variable (g 0) s
  variable-same s h = ap (λ (b : Bool). ltb 0 s && b) (same 0 (omega arith) s h)

  table_same : (k : ℕ) → k ≤ 15 → cost_table N f k ≡ cost_table N g k
  unfolding cost_table
  table_same zero h = cover-same N (type_variable (f 0)) (type_variable (g 0)) variable-same N
  table_same (suc k) h =
      tab-is N _ 0 _ (length-tab N _)
      (λ need l.
      get_or-tab N _ need 0 l
      ∙ least-same N _ _ (price-same N (f (15 - k)) (g (15 - k)) (same (15 - k) (omega arith)) _ _ (λ x. ap (λ (t : List ℕ). entry t x) (table_same k (omega arith))) need))

  pub cost-same : (k need : ℕ) → k ≤ 15 → cost N f k need ≡ cost N g k need
  unfolding cost
  cost-same k need h = ap (λ (t : List ℕ). entry t need) (table_same k h)

  variable-picked : (need : ℕ) → picked_variable N f need ≡ picked_variable N g need
  variable-picked need =
      picked_same N (type_variable (f 0)) (type_variable (g 0)) variable-same (cost N f 0) (cost N g 0) (λ x. cost-same 0 x (omega arith)) need _ _
      (cost-same 0 need (omega arith))

  variables-same : (more need : ℕ) → best_variables N f more need ≡ best_variables N g more need
  unfolding best_variables
  variables-same zero need = refl
  variables-same (suc more) need = go (eq-zero-or-pos need) (variables-same more)
    where
      go : (need ≡ 0) ⊎ (0 < need) → ((need : ℕ) → best_variables N f more need ≡ best_variables N g more need) → best_variables N f (suc more) need ≡ best_variables N g (suc more) need
      go (inl none) others = no-variables N f (suc more) need none ∙ sym (no-variables N g (suc more) need none)
      go (inr some) others =
          variables-step N f more need some
          ∙ ap₂ ◌∷◌ (variable-picked need) (others (rest need (picked_variable N f need)) ∙ ap (λ (x : ℕ). best_variables N g more (rest need x)) (variable-picked need))
          ∙ sym (variables-step N g more need some)

  pub best-same : (k need : ℕ) → k ≤ 15 → best N f k need ≡ best N g k need
  unfolding best
  best-same zero need h = variables-same need need
  best-same (suc k) need h =
      let first =
      picked_same N (f (15 - k)) (g (15 - k)) (same (15 - k) (omega arith)) (cost N f k) (cost N g k) (λ x. cost-same k x (omega arith)) need _ _
      (cost-same (suc k) need h)
      in
      ap₂ ◌∷◌ first (best-same k _ (omega arith) ∙ ap (λ (x : ℕ). best N g k (rest need x)) first)
