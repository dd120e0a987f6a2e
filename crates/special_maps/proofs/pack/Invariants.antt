use Rattle.std.proofs.Common.{◌≡◌, ℕ, ◌-◌, ◌^◌, ◌≤◌, ◌<◌, Bool}
use Rattle.bits.specs.PackFrom.{pack_from}
use Rattle.special_maps.proofs.pack.Given as goal

abbrev pub invariant-loop-i : goal.invariant-loop-i
invariant-loop-i g l =
    (l.i ≤ l.n) × (l.x < 2 ^ (l.n - l.i)) × ((f : ℕ → Bool) → ((i : ℕ) (b : Bool) → i < l.n → goal.F-post g l.stands i b → b ≡ f i) → l.x ≡ pack_from l.n f l.i)
