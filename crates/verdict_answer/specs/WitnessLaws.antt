-- Laws of the witness: the table that it is written from, and who has which attribute in it.
use Rattle.std.specs.Prelude.{ℕ, zero, suc, ◌+◌, ◌^◌, ◌≤◌, ◌<◌, ◌≡◌, refl, Bool, cond, List, [], ◌∷◌, length, get_or, drop}
use Rattle.std.proofs.Common.{ap, ◌∙◌, lt_of_lt_of_le, arith, eq-eqb, ne_eqb, pow_mono, pow_pos, length-take-le, get_or-take}
use Rattle.std.proofs.Math.ListN.{length-drop}
use Rattle.std.proofs.Math.Seq.{get_or-drop}
use Rattle.membership.specs.Entries.{entry, subset_of, holders_in}
use Rattle.membership.specs.EnterLaws.{RisingEntries, entry-attribute, entry-subset}
use Rattle.membership.specs.TableLaws.{Below}
use Rattle.special_maps.specs.Special.{maps_from}
use Rattle.special_maps.specs.SpecialLaws.{maps-length, maps-even, maps-small, maps-empty}
use Rattle.schema.specs.Schema.{schema_bytes}
use Rattle.schema.specs.Bounds.{Held}
use Rattle.schema.specs.Image.{IsTable}
use Rattle.verdict_answer.specs.Witness.{specials_of, numbered, ordinaries_of, witness_records, witness_bytes}

pub witness-bytes : (m : ℕ) (choice : List ℕ) → witness_bytes m choice ≡ schema_bytes (witness_records m choice)
unfolding witness_bytes
witness-bytes m choice = refl

-- ---- attributes numbered from a on

-- subsets of m relations, none of them empty
abbrev pub Variables : ℕ → List ℕ → Type 0
Variables m [] = Unit {0}
Variables m (v ∷ vs) = (1 ≤ v) × (v < 2 ^ m) × Variables m vs

module _ (m : ℕ) (few : m ≤ 8) where
  small : (v : ℕ) → v < 2 ^ m → v < 256
  small v h = lt_of_lt_of_le h (pow_mono {j = 8} few)

  numbered-rising : (p a : ℕ) (vs : List ℕ) → Variables m vs → p < a → RisingEntries p (numbered a vs)
  numbered-rising p a [] are less = tt
  numbered-rising p a (v ∷ vs) are less =
      let is = entry-attribute a v (small v are.1) in
      rw is (less, numbered-rising a (a + 1) vs are.2 (omega arith))

  numbered_below : (a : ℕ) (vs : List ℕ) → Variables m vs → a + length vs ≤ 65536 → Below 16777216 (numbered a vs)
  numbered_below a [] are fit = tt
  numbered_below a (v ∷ vs) are fit = let less = small v are.1 in (omega arith, numbered_below (a + 1) vs are.2 (omega arith))

  numbered-held : (a : ℕ) (vs : List ℕ) → Variables m vs → Held m (numbered a vs)
  numbered-held a [] are = tt
  numbered-held a (v ∷ vs) are = rw (entry-subset a v (small v are.1)) (are.0, are.1, numbered-held (a + 1) vs are.2)

  -- nobody has an attribute below a; attribute a + j has variable j
  numbered-holders : (a : ℕ) (vs : List ℕ) → Variables m vs → (j : ℕ) → holders_in (numbered a vs) (a + j) ≡ get_or vs j 0
  numbered-holders a [] are j = refl
  numbered-holders a (v ∷ vs) are zero =
      rw (entry-attribute a v (small v are.1), entry-subset a v (small v are.1))
      (ap (λ (t : Bool). cond t v (holders_in (numbered (a + 1) vs) (a + 0))) (eq-eqb (a + 0) a (omega arith)))
  numbered-holders a (v ∷ vs) are (suc j) =
      let next : a + suc j ≡ a + 1 + j = omega arith in
      rw (entry-attribute a v (small v are.1))
      (ap (λ (t : Bool). cond t (subset_of (entry a v)) (holders_in (numbered (a + 1) vs) (a + suc j))) (ne_eqb (a + suc j) a (λ e. omega arith))
      ∙ ap (holders_in (numbered (a + 1) vs)) next
      ∙ numbered-holders (a + 1) vs are.2 j)

pub numbered-length : (a : ℕ) (vs : List ℕ) → length (numbered a vs) ≡ length vs
numbered-length a [] = refl
numbered-length a (v ∷ vs) = ap suc (numbered-length (a + 1) vs)

-- ---- the table

-- subsets of m relations for 15 special attributes, and at most 8 variables
pub record IsChoice (m : ℕ) (choice : List ℕ) : Type 0 where
  pub size : 15 ≤ length choice
  pub few : length choice ≤ 23
  pub special : (i : ℕ) → i < 15 → get_or choice i 0 < 2 ^ m
  pub variables : Variables m (drop 15 choice)

-- there is no attribute 0
pub specials-none : (choice : List ℕ) → get_or (specials_of choice) 0 0 ≡ 0
unfolding specials_of
specials-none choice = refl

pub specials-size : (choice : List ℕ) → 15 ≤ length choice → length (specials_of choice) ≡ 16
unfolding specials_of
specials-size choice enough = ap suc (length-take-le 15 choice enough)

-- special attribute i + 1
pub specials-at : (choice : List ℕ) (i : ℕ) → i < 15 → get_or (specials_of choice) (suc i) 0 ≡ get_or choice i 0
unfolding specials_of
specials-at choice i h = get_or-take 15 choice i 0 h

-- the entries, by the variables
pub ordinaries-are : (choice : List ℕ) → ordinaries_of choice ≡ numbered 16 (drop 15 choice)
unfolding ordinaries_of
ordinaries-are choice = refl

module _ (m : ℕ) (few : m ≤ 8) (choice : List ℕ) (is : IsChoice m choice) where
  specials-below : (i : ℕ) → i < 16 → get_or (specials_of choice) i 0 < 2 ^ m
  specials-below zero h = rw (specials-none choice) (pow_pos m)
  specials-below (suc i) h = rw (specials-at choice i (omega arith)) (is.special i (omega arith))

  pub choice-table : IsTable m (maps_from (specials_of choice)) (ordinaries_of choice)
  unfolding ordinaries_of
  choice-table =
      let rest = length-drop 15 choice in
      let most = is.few in
      let number = numbered-length 16 (drop 15 choice) in
      record {
        size = maps-length (specials_of choice);
        even = maps-even (specials_of choice) (specials-none choice);
        small = maps-small (specials_of choice);
        empty = maps-empty (specials_of choice) m specials-below;
        few = omega arith;
        rising = numbered-rising m few 15 16 (drop 15 choice) is.variables (omega arith);
        below = numbered_below m few 16 (drop 15 choice) is.variables (omega arith);
        held = numbered-held m few 16 (drop 15 choice) is.variables;
      }

  -- ordinary attribute 16 + j
  pub ordinaries-holders : (j : ℕ) → holders_in (ordinaries_of choice) (16 + j) ≡ get_or choice (15 + j) 0
  unfolding ordinaries_of
  ordinaries-holders j = numbered-holders m few 16 (drop 15 choice) is.variables j ∙ get_or-drop 15 choice j 0
