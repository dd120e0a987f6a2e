-- What passes a check: a legal map, and a node whose operands are earlier, whose relation is below m, whose attributes
-- are special, whose set has bit 0 clear.
use Rattle.std.specs.Prelude.{ℕ, ◌+◌, ◌*◌, ◌%◌, ◌<◌, ◌≤◌, ◌≡◌, Bool, true, false, ◌||◌, List, T, eqb, leb, length, get_or, Result, Ok, Err}
use Rattle.std.proofs.Math.Path.{refl}
use Rattle.std.proofs.Common.{sym, ap, subst, ◌∙◌, arith, lit≤}
use borrow.Author.Tests.{ltb-false, leb-false, eqb-true, not-false}
use Rattle.bits.specs.Bit.{bit, bit-first}
use Rattle.attribute_set.specs.AttrSet.{special}
use Rattle.attribute_set.specs.Laws.{Clear, clear-set}
use Rattle.refusal.specs.Number.{number_of}
use Rattle.refusal.specs.Chain.{refuse, refuse-has}
use Rattle.refusal.specs.declared.Refusal.{Refusal}
use Rattle.node.specs.declared.nodes.Node.{Node}
use Rattle.node.specs.declared.nodes.Node.TheVariants.{Relation, Binary, WithSet, Renaming, ProjectingOut}
use Rattle.node.specs.ReadNode.{size_of, value_of, legal, check_fields, check_node, node_with, node_of}

-- a legal map is one of five
pub legal-cases : (map : ℕ) (P : ℕ → Type 0) → P 1 → P 14 → P 26 → P 98 → P 34 → legal map ≡ true → P map
legal-cases map P one fourteen twentysix ninetyeight thirtyfour =
    go (eqb map 1) refl (eqb map 14) refl (eqb map 26) refl (eqb map 98) refl (eqb map 34) refl
  where
    go : (a : Bool) → eqb map 1 ≡ a → (b : Bool) → eqb map 14 ≡ b → (c : Bool) → eqb map 26 ≡ c → (d : Bool) → eqb map 98 ≡ d → (e : Bool) → eqb map 34 ≡ e → a || b || c || d || e ≡ true → P map
    go true i b j c k d l e n h = subst P (sym (eqb-true map 1 i)) one
    go false i true j c k d l e n h = subst P (sym (eqb-true map 14 j)) fourteen
    go false i false j true k d l e n h = subst P (sym (eqb-true map 26 k)) twentysix
    go false i false j false k true l e n h = subst P (sym (eqb-true map 98 l)) ninetyeight
    go false i false j false k false l true n h = subst P (sym (eqb-true map 34 n)) thirtyfour
    go false i false j false k false l false n h = absurd (let z : ◌≡◌ {A = ℕ} 0 1 = cc in omega arith)

-- the last of them
pub last-map : (map : ℕ) → legal map ≡ true → (map ≡ 1 → ⊥) → (map ≡ 14 → ⊥) → (map ≡ 26 → ⊥) → (map ≡ 98 → ⊥) → map ≡ 34
last-map map ok =
    legal-cases map (λ (x : ℕ). (x ≡ 1 → ⊥) → (x ≡ 14 → ⊥) → (x ≡ 26 → ⊥) → (x ≡ 98 → ⊥) → x ≡ 34)
    (λ a b c d. absurd (a refl))
    (λ a b c d. absurd (b refl))
    (λ a b c d. absurd (c refl))
    (λ a b c d. absurd (d refl))
    (λ a b c d. refl)
    ok

-- the low bit of two bytes is that of the first
pub first_bit : (low high : ℕ) → bit (low + high * 256) 0 ≡ eqb (low % 2) 1
first_bit low high = let same : (low + high * 256) % 2 ≡ low % 2 = omega arith in bit-first (low + high * 256) ∙ ap (λ (x : ℕ). eqb x 1) same

-- FORMAT 1.3: each field of node k of a file with m relations has a value that is not wrong
abbrev pub LegalNode : ℕ → ℕ → Node → Type 0
LegalNode m k (Relation r) = r < m
LegalNode m k (Binary op l r) = (l < k) × (r < k)
LegalNode m k (WithSet op e s) = (e < k) × Clear s
LegalNode m k (Renaming e old new) = (e < k) × (special old ≡ true) × (special new ≡ true)
LegalNode m k (ProjectingOut e old) = (e < k) × (special old ≡ true)

-- a legal node of 2 to 5 bytes, which are there
pub record LegalReading (m k : ℕ) (bytes : List ℕ) (node : Node) (size : ℕ) : Type 0 where
  pub legal : LegalNode m k node
  pub fits : size ≤ length bytes
  pub least : 2 ≤ size
  pub most : size ≤ 5

-- what a check of bytes with this map gives: their size, where they hold a legal node, or a
-- refusal of the file's own bytes
pub data SoundCheck (m k map : ℕ) (bytes : List ℕ) : Result ℕ Refusal → Type 0 where
  refused : {r : Refusal} → number_of r ≤ 10 → SoundCheck m k map bytes (Err r)
  passed : {size : ℕ} → legal map ≡ true → size ≡ size_of map → LegalReading m k bytes (node_with map (value_of map bytes)) size → SoundCheck m k map bytes (Ok size)

module _ (m k : ℕ) (bytes : List ℕ) where
  -- ---- what holds of each end of a chain of refusals holds of the chain

  by-refuse : {map : ℕ} (t : Bool) (r : Refusal) {next : Result ℕ Refusal} → number_of r ≤ 10 → (t ≡ false → SoundCheck m k map bytes next) → SoundCheck m k map bytes (refuse Err t r next)
  by-refuse {map} t r {next} h f = refuse-has (SoundCheck m k map bytes) Err t r next (refused h) f

  by-legal : (map size : ℕ) → legal map ≡ true → size ≡ size_of map → LegalNode m k (node_with map (value_of map bytes)) → size ≤ length bytes → T (leb 2 size) → T (leb size 5) → SoundCheck m k map bytes (Ok size)
  by-legal map size map_is size_is ok fits least most = passed map_is size_is (record { legal = ok; fits = fits; least = lit≤ least; most = lit≤ most })

  -- ---- the five chains

  relation-sound : SoundCheck m k 1 bytes (check_fields m k 1 bytes)
  unfolding check_fields size_of
  relation-sound =
      by-refuse _ _ (lit≤ tt) λ enough.
      by-refuse _ _ (lit≤ tt) λ relation.
      by-legal 1 _ refl refl (leb-false _ _ relation) (ltb-false _ _ enough) tt tt

  binary-sound : SoundCheck m k 14 bytes (check_fields m k 14 bytes)
  unfolding check_fields size_of
  binary-sound =
      by-refuse _ _ (lit≤ tt) λ enough.
      by-refuse _ _ (lit≤ tt) λ left.
      by-refuse _ _ (lit≤ tt) λ right.
      by-refuse _ _ (lit≤ tt) λ code.
      by-legal 14 _ refl refl (leb-false _ _ left, leb-false _ _ right) (ltb-false _ _ enough) tt tt

  with-set-sound : SoundCheck m k 26 bytes (check_fields m k 26 bytes)
  unfolding check_fields size_of
  with-set-sound =
      by-refuse _ _ (lit≤ tt) λ enough.
      by-refuse _ _ (lit≤ tt) λ operand.
      by-refuse _ _ (lit≤ tt) λ code.
      by-refuse _ _ (lit≤ tt) λ set.
      by-legal 26 _ refl refl (leb-false _ _ operand, clear-set _ set) (ltb-false _ _ enough) tt tt

  renaming-sound : SoundCheck m k 98 bytes (check_fields m k 98 bytes)
  unfolding check_fields size_of
  renaming-sound =
      by-refuse _ _ (lit≤ tt) λ enough.
      by-refuse _ _ (lit≤ tt) λ operand.
      by-refuse _ _ (lit≤ tt) λ old.
      by-refuse _ _ (lit≤ tt) λ new.
      by-legal 98 _ refl refl (leb-false _ _ operand, not-false _ old, not-false _ new) (ltb-false _ _ enough) tt tt

  projecting-out-sound : SoundCheck m k 34 bytes (check_fields m k 34 bytes)
  unfolding check_fields size_of
  projecting-out-sound =
      by-refuse _ _ (lit≤ tt) λ enough.
      by-refuse _ _ (lit≤ tt) λ operand.
      by-refuse _ _ (lit≤ tt) λ old.
      by-legal 34 _ refl refl (leb-false _ _ operand, not-false _ old) (ltb-false _ _ enough) tt tt

  pub check_sound : SoundCheck m k (get_or bytes 0 0) bytes (check_node m k bytes)
  unfolding check_node
  check_sound =
      by-refuse _ _ (lit≤ tt) λ some.
      by-refuse _ _ (lit≤ tt) λ map.
      legal-cases (get_or bytes 0 0) (λ (map : ℕ). SoundCheck m k map bytes (check_fields m k map bytes)) relation-sound binary-sound with-set-sound renaming-sound projecting-out-sound (not-false _ map)

-- ---- what bytes that passed are

-- what the bytes of a node that passed its check are
pub record Passed (m k : ℕ) (bytes : List ℕ) (size : ℕ) : Type 0 where
  pub map-legal : legal (get_or bytes 0 0) ≡ true
  pub size_is : size ≡ size_of (get_or bytes 0 0)
  pub reading : LegalReading m k bytes (node_of bytes) size

passed_is : {m k size : ℕ} {bytes : List ℕ} → SoundCheck m k (get_or bytes 0 0) bytes (Ok size) → Passed m k bytes size
unfolding node_of
passed_is (passed map_is size_is reading) = record { map-legal = map_is; size_is = size_is; reading = reading }

pub node-passed : (m k : ℕ) (bytes : List ℕ) (size : ℕ) → check_node m k bytes ≡ Ok size → Passed m k bytes size
node-passed m k bytes size e = passed_is (subst (SoundCheck m k (get_or bytes 0 0) bytes) e (check_sound m k bytes))

pub refused-number : {m k map : ℕ} {bytes : List ℕ} {r : Refusal} → SoundCheck m k map bytes (Err r) → number_of r ≤ 10
refused-number (refused h) = h
