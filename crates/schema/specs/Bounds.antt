-- The subsets of a schema's table: none is empty, and each has relations below m alone.
use Rattle.std.specs.Prelude.{ℕ, zero, suc, ◌^◌, ◌≤◌, ◌<◌, ◌≡◌, List, [], ◌∷◌, length, get_or}
use Rattle.std.proofs.Common.{ap, ◌∙◌, lt_of_lt_of_le, mod-eq_of_lt, arith, pow_pos, pow_mono}
use Rattle.std.specs.Int.Bits.{bit_or, or_add_and}
use Rattle.std.proofs.lemmas.Nat.{or_mod, or_lt, and_le_l}
use Rattle.std.proofs.Math.Pow.{pow-lt}
use Rattle.type_record.specs.Record.{TypeRecord}
use Rattle.membership.specs.Entries.{attribute_of, subset_of, enter}
use Rattle.membership.specs.EnterLaws.{Order, lower, higher, equal, order, enter-none, enter-first, enter-lower, enter-higher, enter-equal, entry-subset}
use Rattle.schema.specs.Schema.{entries_of}
use Rattle.schema.specs.EntriesLaws.{entries-has}

-- each entry is held by one or more of m relations, and by no other
abbrev pub Held : ℕ → List ℕ → Type 0
Held m [] = Unit {0}
Held m (e ∷ es) = (1 ≤ subset_of e) × (subset_of e < 2 ^ m) × Held m es

joined-subset : (e s : ℕ) → s < 256 → subset_of (bit_or e s) ≡ bit_or (subset_of e) s
joined-subset e s h = or_mod e s 8 ∙ ap (bit_or (subset_of e)) (mod-eq_of_lt {m = 256} h)

joined-some : (x s : ℕ) → 1 ≤ s → 1 ≤ bit_or x s
joined-some x s h = let sum = or_add_and x s in let less = and_le_l x s in omega arith

enter-held : (m s : ℕ) (more es : List ℕ) → 1 ≤ s → s < 2 ^ m → s < 256 → Held m es → Held m (enter s more es)
enter-held m s [] es some below small h = rw (enter-none s es) h
enter-held m s (a ∷ more) [] some below small h = rw (enter-first s a more, entry-subset a s small) (some, below, enter-held m s more [] some below small tt)
enter-held m s (a ∷ more) (e ∷ es) some below small h =
    go (order a (attribute_of e)) (enter-held m s more (e ∷ es) some below small h) (enter-held m s (a ∷ more) es some below small h.2) (enter-held m s more es some below small h.2)
  where
    go : Order a (attribute_of e) → Held m (enter s more (e ∷ es)) → Held m (enter s (a ∷ more) es) → Held m (enter s more es) → Held m (enter s (a ∷ more) (e ∷ es))
    go (lower l) one two three = rw (enter-lower s a more e es l, entry-subset a s small) (some, below, one)
    go (higher l) one two three = rw (enter-higher s a more e es l) (h.0, h.1, two)
    go (equal l) one two three = rw (enter-equal s a more e es l, joined-subset e s small) (joined-some (subset_of e) s some, or_lt m (subset_of e) s h.1 below, three)

pub schema-held : (m : ℕ) (ts : List TypeRecord) → m ≤ 8 → length ts ≤ m → Held m (entries_of ts)
schema-held m ts few fits =
    entries-has (Held m) m ts fits tt
    (λ r t es less h. let single = pow-lt {i = r} {j = m} less in enter-held m (2 ^ r) t.ordinary es (pow_pos r) single (lt_of_lt_of_le single (pow_mono {j = 8} few)) h)

-- ---- by place

pub held_at : (m : ℕ) (es : List ℕ) → Held m es → (i : ℕ) → i < length es → (1 ≤ subset_of (get_or es i 0)) × (subset_of (get_or es i 0) < 2 ^ m)
held_at m [] h i less = absurd (omega arith)
held_at m (e ∷ es) h zero less = (h.0, h.1)
held_at m (e ∷ es) h (suc i) less = held_at m es h.2 i (omega arith)

pub at_held : (m : ℕ) (es : List ℕ) → ((i : ℕ) → i < length es → (1 ≤ subset_of (get_or es i 0)) × (subset_of (get_or es i 0) < 2 ^ m)) → Held m es
at_held m [] all = tt
at_held m (e ∷ es) all = ((all 0 (omega arith)).0, (all 0 (omega arith)).1, at_held m es (λ i h. all (suc i) (omega arith)))
