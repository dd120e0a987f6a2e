use Prim.Native.Nat.{ℕ, ◌≤◌}
use mathlib.Core.Path.{◌≡◌, refl, ap}
use mathlib.Core.List.{List}
use native.Mathlib.Omega.{arith}
use native.Mathlib.Nat.{eq-zero-or-pos}
use mathlib.Core.Logic.{⊎_elim}
use Rattle.column.specs.Column.{allowed_in}
use Rattle.cover_choice.specs.Variables.{numbering-first, numbering-next, numbering-ended, room, variable-below}
use Rattle.cover_choice.proofs.choose_variables.Goals as goal

-- another number than 0 is above it
ne-zero : (n : ℕ) → (n ≡ 0 → ⊥) → 1 ≤ n
ne-zero n other = ⊎_elim (λ e. absurd (other e)) (λ h. h) (eq-zero-or-pos n)

pub loop-need-init : goal.loop-need-init
loop-need-init c = let pre = c.requires in numbering-first _ _ pre.all_lt_count.1 _ _ c.told-items pre.all_lt_count.0 pre.all_bound

pub overflow_cast-v : goal.overflow_cast-v
overflow_cast-v c =
    let pre = c.requires in
    let loop = c.loop-need in
    let few = pre.all_lt_count.1 in
    let holds = pre.all_lt_count.2.holds in
    let small = variable-below _ _ few _ loop.n loop.items loop.need loop.invariant c.loop-need-test.true _ _ _ _ (λ s h. ap (λ (l : List _). allowed_in l s) c.column_of-column.ensures)
    holds (holds loop.need loop.invariant.below) c.pick-v.ensures in
    omega arith

pub bounds-items-n : goal.bounds-items-n
bounds-items-n c = let small = room _ _ c.requires.all_lt_count.1 _ _ _ _ c.loop-need.invariant c.loop-need-test.true in omega arith

pub loop-need-preserved : goal.loop-need-preserved
loop-need-preserved c =
    let pre = c.requires in
    let loop = c.loop-need in
    let few = pre.all_lt_count.1 in
    let holds = pre.all_lt_count.2.holds in
    numbering-next _ _ few _ loop.n loop.items loop.need loop.invariant c.loop-need-test.true _ _ _ _ (λ s h. ap (λ (l : List _). allowed_in l s) c.column_of-column.ensures)
    holds (holds loop.need loop.invariant.below) c.pick-v.ensures _ _ refl refl

pub returns : goal.returns
returns c =
    let ended = numbering-ended _ _ c.requires.all_lt_count.1 _ _ _ _ c.loop-need.invariant c.loop-need-test.false in
    record {
      upper_bound = (ended.0, ended.1);
      after = ended.2;
    }
