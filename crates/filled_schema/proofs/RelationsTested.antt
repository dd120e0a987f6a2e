-- The relations tested one after the other: whether each has an attribute.
use Prim.Native.Nat.{ℕ, ◌+◌, ◌≤◌, ◌<◌}
use mathlib.Core.Path.{◌≡◌, sym, ap, ◌∙◌}
use mathlib.Core.Bool.{Bool, true, false, not, ◌||◌}
use mathlib.Core.List.{List}
use native.Mathlib.Omega.{arith}
use lib.Dec.{eqb}
use lib.ListN.{get_or}
use Rattle.bits.specs.AllBelow.{all_below, all-next, not-all}
use Rattle.bits.specs.Bit.{bit}
use Rattle.filled_schema.specs.FilledSchema.{holds_some, SomeHeld, table_filled}

-- relation r has an attribute
abbrev pub has_some : List ℕ → List ℕ → ℕ → Bool
has_some special entries r = not (eqb (get_or special r 0) 0) || holds_some r entries

-- those below r have one
pub record Passed (m : ℕ) (special entries : List ℕ) (r : ℕ) : Type 0 where
  pub up_to : r ≤ m
  pub all : all_below r (has_some special entries) ≡ true

module _ {m : ℕ} {special entries : List ℕ} {r : ℕ} (passed : Passed m special entries r) where
  pub passed-all : m ≤ r → true ≡ table_filled m special entries
  unfolding table_filled
  passed-all last =
      let most = passed.up_to in
      let same : r ≡ m = omega arith in
      sym (ap (λ (n : ℕ). all_below n (has_some special entries)) (sym same) ∙ passed.all)

  -- relation r, tested with the subset of the relations that have an entry
  module _ (few : m ≤ 8) (less : r < m) (held : ℕ) (some : SomeHeld held entries) (t : Bool) (is : t ≡ not (eqb (get_or special r 0) 0) || bit held r) where
    test-is : has_some special entries r ≡ t
    test-is = ap (λ (b : Bool). not (eqb (get_or special r 0) 0) || b) (sym (some r (omega arith))) ∙ sym is

    pub passed-next : t ≡ true → Passed m special entries (r + 1)
    passed-next holds = record { up_to = omega arith; all = all-next r (has_some special entries) passed.all (test-is ∙ holds) }

    pub passed-not : t ≡ false → false ≡ table_filled m special entries
    unfolding table_filled
    passed-not fails = sym (not-all m (has_some special entries) r less (test-is ∙ fails))
