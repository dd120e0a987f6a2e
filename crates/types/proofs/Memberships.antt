-- Memberships: how many relations have how many attributes (FORMAT 2.16, 3.1).
use Rattle.std.specs.Prelude.{ℕ, ◌+◌, ◌-◌, ◌≤◌, ◌≡◌, Bool}
use Rattle.std.proofs.Math.Path.{refl, ap}
use Rattle.std.proofs.Common.{sym, ◌∙◌, add_comm}
use Rattle.std.proofs.Math.Bool.{cond}
use Rattle.bits.specs.Total.{total, count, total-same, total-swap, total-more}
use Rattle.types.specs.Types.{Assignment, holders}
use Rattle.types.specs.Memberships.{Within, members, members-held, memberships}

-- ---- memberships

module _ (m : ℕ) (A : Assignment) where
  pub memberships-is : (bound : ℕ) → memberships m A bound ≡ total m (λ r. count bound (A r))
  unfolding memberships
  memberships-is bound = refl

  memberships-more : (bound more : ℕ) → Within m A bound → memberships m A (bound + more) ≡ memberships m A bound
  unfolding memberships
  memberships-more bound more within =
      total-same m (λ r. count (bound + more) (A r)) (λ r. count bound (A r))
      (λ r h. total-more bound more (λ a. cond (A r a) 1 0) (λ a past. ap (λ (b : Bool). cond b 1 0) (within r h a past)))

  -- whatever the bound
  pub memberships-same : (b c : ℕ) → Within m A b → Within m A c → memberships m A b ≡ memberships m A c
  memberships-same b c within also =
      sym (memberships-more b c within) ∙ ap (memberships m A) (add_comm b c) ∙ memberships-more c b also

  -- attribute by attribute
  pub memberships-by : m ≤ 8 → (bound : ℕ) → memberships m A bound ≡ total bound (λ a. members (holders m A a))
  unfolding memberships
  memberships-by few bound =
      total-swap m bound (λ r a. cond (A r a) 1 0)
      ∙ total-same bound (λ a. count m (λ r. A r a)) (λ a. members (holders m A a)) (λ a h. members-held m few A a)
