-- A row of costs in code holds those of the definition, and a search in code picks the subset of the definition.
use Rattle.std.specs.Prelude.{ℕ, suc, ◌+◌, ◌-◌, ◌≤◌, ◌<◌, ◌≡◌, refl, Bool, true, ◌&&◌, List, ◌⊎◌, eqb, set, replicate}
use Rattle.std.proofs.Math.Path.{sym, ap, ap₂}
use Rattle.std.proofs.Common.{◌∙◌, inl, inr, eq-zero-or-pos, arith, lt-ltb, eq-eqb, ne_eqb, length-set, get_or-set_same, get_or-set_other}
use Rattle.std.proofs.Math.Bool.{cond}
use Rattle.std.proofs.Math.Decide.{dec_lt}
use Rattle.std.proofs.Math.Nat.{sub-zero}
use Rattle.std.proofs.Math.ListN.{get_or, length-replicate, get_or-replicate, get_or-eq_default}
use Rattle.bits.specs.Lowest.{lowest_from, lowest-next, lowest-same}
use Rattle.bits.specs.Tab.{get_or-tab}
use Rattle.types.specs.Memberships.{members}
use Rattle.states.specs.Formula.{type_variable}
use Rattle.column.specs.Column.{allowed_in}
use Rattle.set_cover.specs.Remainder.{rest, rest-least}
use Rattle.set_cover.specs.Least.{infinity, least, least-same}
use Rattle.set_cover.specs.Cost.{price, cost, cost-next}
use Rattle.set_cover.specs.Choice.{picked, picked-lowest}
use Rattle.set_cover.specs.Shortcuts.{covering, covering-none, covering-next}
use Rattle.set_cover.proofs.Shortcuts.{covering-is}
use Rattle.cover_rows.specs.Rows.{Costs, price_in, cost_row}

-- the row has the values of f at the needs below N
abbrev pub Holds : ℕ → (ℕ → ℕ) → List ℕ → Type 0
Holds N f row = (x : ℕ) → x < N → get_or row x 0 ≡ f x

-- the column allows what a test allows, of the subsets below N
abbrev pub Allows : ℕ → (ℕ → Bool) → List ℕ → Type 0
Allows N ok column = (s : ℕ) → s < N → allowed_in column s ≡ ok s

module _ (N : ℕ) (column next : List ℕ) (ok : ℕ → Bool) (same : Allows N ok column) (f : ℕ → ℕ) (holds : Holds N f next) where
  price-holds : (need s : ℕ) → need < N → s < N → price_in column next need s ≡ price ok f need s
  unfolding price_in
  price-holds need s h l =
      let r = rest-least need s in
      ap₂ (λ (b : Bool) (x : ℕ). cond b (members s + x) infinity) (same s l) (holds (rest need s) (omega arith))

  -- one step of `cost_row`
  pub row-holds : (limit : ℕ) → N ≤ limit → limit ≤ 256 → Holds N (λ need. least N (price ok f need)) (cost_row column next limit N)
  unfolding cost_row
  row-holds limit enough short need h =
      get_or-tab 256 _ need 0 (omega arith)
      ∙ ap (λ (b : Bool). cond b (least N (price_in column next need)) infinity) (lt-ltb need limit (omega arith))
      ∙ least-same N _ _ (λ s l. price-holds need s h l)

  -- `pick` from 0
  pub pick-holds : (need target : ℕ) → need < N → lowest_from (N - 0) 0 (λ s. eqb (price_in column next need s) target) ≡ picked N ok f need target
  pick-holds need target h =
      ap (λ (n : ℕ). lowest_from n 0 (λ s. eqb (price_in column next need s) target)) (sub-zero N)
      ∙ lowest-same N 0 _ _ (λ s from up_to. ap (λ (x : ℕ). eqb x target) (price-holds need s h (omega arith)))
      ∙ sym (picked-lowest N ok f need target)

-- ---- costs

module _ (N : ℕ) (allowed : ℕ → ℕ → Bool) (k : ℕ) (column next : List ℕ) (same : Allows N (allowed (15 - k)) column) (holds : Holds N (cost N allowed k) next) where
  -- one special attribute more
  pub rows-hold : (limit : ℕ) → N ≤ limit → limit ≤ 256 → Holds N (cost N allowed (suc k)) (cost_row column next limit N)
  rows-hold limit enough short need h =
      row-holds N column next (allowed (15 - k)) same (cost N allowed k) holds limit enough short need h ∙ sym (cost-next N allowed k need h)

  pub pick-special : (need target : ℕ) → need < N → lowest_from (N - 0) 0 (λ s. eqb (price_in column next need s) target) ≡ picked N (allowed (15 - k)) (cost N allowed k) need target
  pick-special = pick-holds N column next (allowed (15 - k)) same (cost N allowed k) holds

-- a variable: `pick` from 1, since the empty subset is none
module _ (N : ℕ) (allowed : ℕ → ℕ → Bool) (column next : List ℕ) (same : Allows N (allowed 0) column) (holds : Holds N (cost N allowed 0) next) where
  pub pick-variable :
      (need target : ℕ)
      → need < N
      → target < infinity
      → lowest_from (N - 1) 1 (λ s. eqb (price_in column next need s) target) ≡ picked N (type_variable (allowed 0)) (cost N allowed 0) need target
  pick-variable need target h less =
      lowest-same (N - 1) 1 _ _ (λ s from up_to. ap (λ (x : ℕ). eqb x target) (price-holds N column next (allowed 0) same (cost N allowed 0) holds need s h (omega arith) ∙ sym (variable s from)))
      ∙ sym (lowest-next N 0 (λ s. eqb (price (type_variable (allowed 0)) (cost N allowed 0) need s) target) (omega arith) (ne_eqb infinity target (λ e. omega arith)))
      ∙ sym (picked-lowest N (type_variable (allowed 0)) (cost N allowed 0) need target)
    where
      variable : (s : ℕ) → 1 ≤ s → price (type_variable (allowed 0)) (cost N allowed 0) need s ≡ price (allowed 0) (cost N allowed 0) need s
      variable s from = ap (λ (b : Bool). cond (b && allowed 0 s) (members s + cost N allowed 0 (rest need s)) infinity) (lt-ltb 0 s from)

-- ---- the row of the variables, by `cost_row` on column 0

-- a row that is 0 at need 0, and else infinity
unfoldable pub start_row : List ℕ
start_row = set (replicate 256 infinity) 0 0

pub start-row : start_row ≡ set (replicate 256 infinity) 0 0
unfolding start_row
start-row = refl

pub start-costs : Costs start_row
unfolding start_row
start-costs x = go (eq-zero-or-pos x) (dec_lt x 256)
  where
    go : (x ≡ 0) ⊎ (0 < x) → Dec (x < 256) → get_or (set (replicate 256 infinity) 0 0) x 0 ≤ infinity
    go (inl z) d = rw (z, get_or-set_same (replicate 256 infinity) 0 0 0 (omega (arith, length-replicate {A = ℕ} 256 infinity))) (omega arith)
    go (inr some) (yes h) = rw (get_or-set_other (replicate 256 infinity) 0 x 0 0 (λ k. omega arith), get_or-replicate 256 x infinity 0 h) (omega arith)
    go (inr some) (no h) =
        let size = length-set (replicate 256 infinity) 0 0 ∙ length-replicate 256 infinity in
        rw (get_or-eq_default (set (replicate 256 infinity) 0 0) 0 {n = x} (omega arith)) (omega arith)

module _ (N : ℕ) (ok : ℕ → Bool) where
  pub covering-start : N ≤ 256 → Holds N (covering N ok 0) start_row
  unfolding start_row
  covering-start few x h = go (eq-zero-or-pos x) ∙ sym (covering-none N ok x)
    where
      go : (x ≡ 0) ⊎ (0 < x) → get_or (set (replicate 256 infinity) 0 0) x 0 ≡ cond (eqb x 0) 0 infinity
      go (inl z) = rw (eq-eqb x 0 z, z) (get_or-set_same (replicate 256 infinity) 0 0 0 (omega (arith, length-replicate {A = ℕ} 256 infinity)))
      go (inr some) = rw (ne_eqb x 0 (λ z. omega arith)) (get_or-set_other (replicate 256 infinity) 0 x 0 0 (λ k. omega arith) ∙ get_or-replicate 256 x infinity 0 (omega arith))

  -- a subset more
  pub covering-row : (j : ℕ) (column next : List ℕ) (limit : ℕ) → N ≤ limit → limit ≤ 256 → Allows N ok column → Holds N (covering N ok j) next → Holds N (covering N ok (suc j)) (cost_row column next limit N)
  covering-row j column next limit enough short same holds need h =
      row-holds N column next ok same (covering N ok j) holds limit enough short need h ∙ sym (covering-next N ok j need)

module _ (N : ℕ) (allowed : ℕ → ℕ → Bool) (few : N ≤ 256) (grounded : allowed 0 0 ≡ true) (row : List ℕ) where
  -- after eight
  pub covering-all : Holds N (covering N (allowed 0) 8) row → Holds N (cost N allowed 0) row
  covering-all holds need h = holds need h ∙ covering-is N allowed few grounded need h
