-- The fewest memberships by which special attributes and type variables give each relation of a set an attribute
-- (FORMAT 7.26). N is the number of subsets; `allowed` says which of them each column allows.
use Prim.Native.Nat.{ℕ, zero, suc, ◌+◌, ◌-◌, ◌≤◌, ◌<◌}
use Rattle.std.specs.Prelude.{◌≡◌, Bool, List, [], ◌∷◌, ◌++◌, ◌⊎◌, length, get_or}
use Rattle.std.proofs.Math.Path.{refl, sym, ap}
use Rattle.std.proofs.Common.{◌∙◌, inl, inr, eq-or-lt_of_le}
use Rattle.std.proofs.Math.Bool.{true, false, cond}
use native.Mathlib.Omega.{arith}
use borrow.Author.Tests.{ltb-true, ltb-false}
use Rattle.std.proofs.Math.Dec.{ltb}
use Rattle.std.proofs.Math.ListN.{length-append, get_or-append, get_or-eq_default}
use Rattle.bits.specs.Tab.{tab, get_or-tab, get_or-right}
use Rattle.types.specs.Memberships.{members}
use Rattle.states.specs.Formula.{type_variable}
use Rattle.set_cover.specs.Remainder.{rest}
use Rattle.set_cover.specs.Least.{infinity, least, least-same}

-- what subset s costs where the relations of `need` lack an attribute: its members, and what the others then cost
abbrev pub price : (ℕ → Bool) → (ℕ → ℕ) → ℕ → ℕ → ℕ
price ok next need s = cond (ok s) (members s + next (rest need s)) infinity

-- an entry of a table; infinity where it has none
abbrev pub entry : List ℕ → ℕ → ℕ
entry table x = get_or table x infinity

-- what `need` costs by variables alone, from the table for the lower needs
abbrev pub cover_cost : ℕ → (ℕ → Bool) → List ℕ → ℕ → ℕ
cover_cost N ok table zero = 0
cover_cost N ok table (suc k) = least N (price ok (entry table) (suc k))

-- that table for the needs below n: a variable that gives no relation an attribute is not worth its members, so each
-- need looks at lower ones only
unfoldable pub cover_table : ℕ → (ℕ → Bool) → ℕ → List ℕ
cover_table N ok zero = []
cover_table N ok (suc need) = let table = cover_table N ok need in table ++ (cover_cost N ok table need ∷ [])

-- what each need costs by variables and the last k special attributes
unfoldable pub cost_table : ℕ → (ℕ → ℕ → Bool) → ℕ → List ℕ
cost_table N allowed zero = cover_table N (type_variable (allowed 0)) N
cost_table N allowed (suc k) = let next = cost_table N allowed k in tab N (λ need. least N (price (allowed (15 - k)) (entry next) need))

-- the fewest memberships, at least those of the special attributes, by which they give each relation of `need` an
-- attribute; infinity where they cannot
unfoldable pub cost : ℕ → (ℕ → ℕ → Bool) → ℕ → ℕ → ℕ
cost N allowed k need = entry (cost_table N allowed k) need

-- ---- the table of the costs by variables

module _ (N : ℕ) (ok : ℕ → Bool) where
  pub cover-length : (n : ℕ) → length (cover_table N ok n) ≡ n
  unfolding cover_table
  cover-length zero = refl
  cover-length (suc n) =
      let h = cover-length n in
      length-append (cover_table N ok n) (cover_cost N ok (cover_table N ok n) n ∷ []) ∙ (omega arith)

  -- entry k is the same in each longer table
  pub cover-entry : (n k : ℕ) → k < n → entry (cover_table N ok n) k ≡ cover_cost N ok (cover_table N ok k) k
  unfolding cover_table
  cover-entry zero k h = absurd (omega arith)
  cover-entry (suc n) k h = go (eq-or-lt_of_le (up_to h)) (cover-entry n k)
    where
      up_to : k < suc n → k ≤ n
      up_to h = omega arith

      go : (k ≡ n) ⊎ (k < n) → (k < n → entry (cover_table N ok n) k ≡ cover_cost N ok (cover_table N ok k) k) → get_or (cover_table N ok n ++ (cover_cost N ok (cover_table N ok n) n ∷ [])) k infinity ≡ cover_cost N ok (cover_table N ok k) k
      go (inl e) before =
          let size = cover-length n in
          let none : k - length (cover_table N ok n) ≡ 0 = omega arith in
          get_or-right (cover_table N ok n) _ k infinity (omega arith)
          ∙ ap (λ (i : ℕ). get_or (cover_cost N ok (cover_table N ok n) n ∷ []) i infinity) none
          ∙ ap (λ (x : ℕ). cover_cost N ok (cover_table N ok x) x) (sym e)
      go (inr l) before =
          let size = cover-length n in
          get_or-append (cover_table N ok n) _ infinity k (omega arith) ∙ before l

  pub cover-none : (n k : ℕ) → n ≤ k → entry (cover_table N ok n) k ≡ infinity
  cover-none n k h = let size = cover-length n in get_or-eq_default (cover_table N ok n) infinity {n = k} (omega arith)

-- ---- the costs, by what each is the least of

module _ (N : ℕ) (allowed : ℕ → ℕ → Bool) where
  pub cost-zero : 0 < N → cost N allowed 0 0 ≡ 0
  unfolding cost cost_table
  cost-zero h = cover-entry N (type_variable (allowed 0)) N 0 h

  -- the cost by variables of a need below this one; infinity for the others
  abbrev pub lower : ℕ → ℕ → ℕ
  lower need x = cond (ltb x need) (cost N allowed 0 x) infinity

  -- the cost by variables of a need above 0
  pub cost-cover : (need : ℕ) → 0 < need → need < N → cost N allowed 0 need ≡ least N (price (type_variable (allowed 0)) (lower need) need)
  unfolding cost cost_table
  cost-cover zero some h = absurd (omega arith)
  cost-cover (suc k) some h =
      cover-entry N (type_variable (allowed 0)) N (suc k) h
      ∙ least-same N _ _ (λ s l. ap (λ (x : ℕ). cond (type_variable (allowed 0) s) (members s + x) infinity) (same (rest (suc k) s) (ltb (rest (suc k) s) (suc k)) refl))
    where
      same : (x : ℕ) (b : Bool) → ltb x (suc k) ≡ b → entry (cover_table N (type_variable (allowed 0)) (suc k)) x ≡ cond (ltb x (suc k)) (entry (cover_table N (type_variable (allowed 0)) N) x) infinity
      same x true e =
          let l = ltb-true x (suc k) e in
          rw e (cover-entry N (type_variable (allowed 0)) (suc k) x l ∙ sym (cover-entry N (type_variable (allowed 0)) N x (omega arith)))
      same x false e = rw e (cover-none N (type_variable (allowed 0)) (suc k) x (ltb-false x (suc k) e))

  -- one special attribute more
  pub cost-next : (k need : ℕ) → need < N → cost N allowed (suc k) need ≡ least N (price (allowed (15 - k)) (cost N allowed k) need)
  unfolding cost cost_table
  cost-next k need h = get_or-tab N _ need infinity h
