-- Laws of columns in planes, for any number of planes: what stands in one, and how a loop over 32 bytes fills it.
use Rattle.std.specs.Prelude.{ℕ, ◌+◌, ◌*◌, ◌/◌, ◌%◌, ◌≤◌, ◌<◌, ◌≡◌, refl, Bool, List, ◌⊎◌, length, set}
use Rattle.std.proofs.Math.Path.{sym, ap, fun_ext}
use Rattle.std.proofs.Common.{ap₂, ◌∙◌, inl, inr, eq-or-lt_of_le, mod-lt, lit<, length-set, get_or-set_same, get_or-set_other}
use native.Mathlib.Omega.{arith}
use Rattle.std.proofs.Math.ListN.{get_or}
use Rattle.bits.specs.Bit.{bit}
use Rattle.bits.specs.Pack.{pack, bit-pack, pack-same}
use Rattle.bits.specs.Tab.{length-tab, get_or-tab, tab-is}
use Rattle.planes.specs.Planes.{map_byte, planes_of, bit_in, stepped_column, stepped_column2}

pub map-byte : (test : ℕ → Bool) (j : ℕ) → map_byte test j ≡ pack 8 (λ i. test (j * 8 + i))
unfolding map_byte
map-byte test j = refl

pub bit_at : (column : List ℕ) (s p : ℕ) → bit_in column s p ≡ bit (get_or column (p * 32 + s / 8) 0) (s % 8)
unfolding bit_in
bit_at column s p = refl

map-bit : (test : ℕ → Bool) (s : ℕ) → bit (map_byte test (s / 8)) (s % 8) ≡ test s
unfolding map_byte
map-bit test s =
    let whole : s / 8 * 8 + s % 8 ≡ s = omega arith in
    bit-pack 8 (λ i. test (s / 8 * 8 + i)) (s % 8) (mod-lt s (lit< tt)) ∙ ap test whole

-- two tests that agree on the 256 states make one map
pub map_same : (f g : ℕ → Bool) → ((s : ℕ) → s < 256 → f s ≡ g s) → (j : ℕ) → j < 32 → map_byte f j ≡ map_byte g j
unfolding map_byte
map_same f g e j h = pack-same 8 (λ i. f (j * 8 + i)) (λ i. g (j * 8 + i)) (λ i below. e (j * 8 + i) (omega arith))

module _ (b : ℕ) (tests : ℕ → ℕ → Bool) where
  pub planes-length : length (planes_of b tests) ≡ b * 32
  unfolding planes_of
  planes-length = length-tab (b * 32) (λ q. map_byte (tests (q / 32)) (q % 32))

  pub plane-byte : (p j : ℕ) → p < b → j < 32 → get_or (planes_of b tests) (p * 32 + j) 0 ≡ map_byte (tests p) j
  unfolding planes_of
  plane-byte p j hp hj =
      let plane : (p * 32 + j) / 32 ≡ p = omega arith in
      let place : (p * 32 + j) % 32 ≡ j = omega arith in
      get_or-tab (b * 32) (λ q. map_byte (tests (q / 32)) (q % 32)) (p * 32 + j) 0 (omega arith) ∙ rw (plane, place)

  pub bit_in_lem : (p s : ℕ) → p < b → s < 256 → bit_in (planes_of b tests) s p ≡ tests p s
  unfolding bit_in
  bit_in_lem p s hp hs = ap (λ (x : ℕ). bit x (s % 8)) (plane-byte p (s / 8) hp (omega arith)) ∙ map-bit (tests p) s

-- ---- filling a column, byte by byte, plane by plane

-- a loop over the 32 bytes: bytes 0 to j - 1 of every plane are written, and byte j of the first c planes
pub record Filling (b : ℕ) (tests : ℕ → ℕ → Bool) (j c : ℕ) (column : List ℕ) : Type 0 where
  pub size : length column ≡ b * 32
  pub before : (p i : ℕ) → p < b → i < j → get_or column (p * 32 + i) 0 ≡ map_byte (tests p) i
  pub here : (p : ℕ) → p < c → get_or column (p * 32 + j) 0 ≡ map_byte (tests p) j

module _ (b : ℕ) (tests : ℕ → ℕ → Bool) where
  pub filling-none : (column : List ℕ) → length column ≡ b * 32 → Filling b tests 0 0 column
  filling-none column size = record { size = size; before = λ p i hp h. absurd (omega arith); here = λ p h. absurd (omega arith) }

  pub filling-plane : (j c : ℕ) (column : List ℕ) (x : ℕ) → c < b → j < 32 → x ≡ map_byte (tests c) j → Filling b tests j c column → Filling b tests j (c + 1) (set column (c * 32 + j) x)
  filling-plane j c column x hc hj is f =
      record {
        size = length-set column (c * 32 + j) x ∙ f.size;
        before = λ p i hp h. get_or-set_other column (c * 32 + j) (p * 32 + i) x 0 (λ e. omega arith) ∙ f.before p i hp h;
        here = λ p h. at p (eq-or-lt_of_le (le_of p h));
      }
    where
      le_of : (p : ℕ) → p < c + 1 → p ≤ c
      le_of p h = omega arith

      at : (p : ℕ) → (p ≡ c) ⊎ (p < c) → get_or (set column (c * 32 + j) x) (p * 32 + j) 0 ≡ map_byte (tests p) j
      at p (inl e) =
          let inside : c * 32 + j < length column = let z = f.size in omega arith in
          ap (λ (q : ℕ). get_or (set column (c * 32 + j) x) (q * 32 + j) 0) e ∙ get_or-set_same column (c * 32 + j) x 0 inside ∙ is ∙ ap (λ (q : ℕ). map_byte (tests q) j) (sym e)
      at p (inr h) = get_or-set_other column (c * 32 + j) (p * 32 + j) x 0 (λ e. omega arith) ∙ f.here p h

  pub filling-next : (j : ℕ) (column : List ℕ) → Filling b tests j b column → Filling b tests (j + 1) 0 column
  filling-next j column f =
      record {
        size = f.size;
        before = λ p i hp h. at p i hp (eq-or-lt_of_le (le_of i h));
        here = λ p h. absurd (omega arith);
      }
    where
      le_of : (i : ℕ) → i < j + 1 → i ≤ j
      le_of i h = omega arith

      at : (p i : ℕ) → p < b → (i ≡ j) ⊎ (i < j) → get_or column (p * 32 + i) 0 ≡ map_byte (tests p) i
      at p i hp (inl e) = ap (λ (k : ℕ). get_or column (p * 32 + k) 0) e ∙ f.here p hp ∙ ap (map_byte (tests p)) (sym e)
      at p i hp (inr h) = f.before p i hp h

  pub filling-done : (column : List ℕ) → Filling b tests 32 0 column → column ≡ planes_of b tests
  unfolding planes_of
  filling-done column f =
      tab-is (b * 32) _ 0 column f.size
      (λ q h. let whole : q / 32 * 32 + q % 32 ≡ q = omega arith in sym (ap (λ (k : ℕ). get_or column k 0) whole) ∙ f.before (q / 32) (q % 32) (omega arith) (mod-lt q (lit< tt)))

-- two families of tests that agree on the 256 states make one column
pub planes-same : (b : ℕ) (f g : ℕ → ℕ → Bool) → ((p s : ℕ) → p < b → s < 256 → f p s ≡ g p s) → planes_of b f ≡ planes_of b g
planes-same b f g e =
    filling-done b g (planes_of b f)
    (record {
      size = planes-length b f;
      before = λ p i hp h. plane-byte b f p i hp h ∙ map_same (f p) (g p) (λ s k. e p s hp k) i h;
      here = λ p h. absurd (omega arith);
    })

-- ---- a step on bits, made at each state of byte j

plane-bit : (column : List ℕ) (j i p : ℕ) → i < 8 → bit_in column (j * 8 + i) p ≡ bit (get_or column (p * 32 + j) 0) i
unfolding bit_in
plane-bit column j i p h =
    let byte : (j * 8 + i) / 8 ≡ j = omega arith in
    let place : (j * 8 + i) % 8 ≡ i = omega arith in
    rw (byte, place)

pub map-step : (step : (ℕ → Bool) → Bool) (column : List ℕ) (j : ℕ) → pack 8 (λ i. step (λ p. bit (get_or column (p * 32 + j) 0) i)) ≡ map_byte (λ s. step (bit_in column s)) j
unfolding map_byte
map-step step column j = pack-same 8 _ (λ i. step (bit_in column (j * 8 + i))) (λ i h. ap step (fun_ext λ p. sym (plane-bit column j i p h)))

pub map-step2 :
    (step : (ℕ → Bool) → (ℕ → Bool) → Bool) (left right : List ℕ) (j : ℕ)
    → pack 8 (λ i. step (λ p. bit (get_or left (p * 32 + j) 0) i) (λ p. bit (get_or right (p * 32 + j) 0) i))
    ≡ map_byte (λ s. step (bit_in left s) (bit_in right s)) j
unfolding map_byte
map-step2 step left right j =
    pack-same 8 _ (λ i. step (bit_in left (j * 8 + i)) (bit_in right (j * 8 + i)))
    (λ i h. ap₂ step (fun_ext λ p. sym (plane-bit left j i p h)) (fun_ext λ p. sym (plane-bit right j i p h)))

-- ---- the column that a step makes, by its planes

pub stepped-is : (b : ℕ) (step : (ℕ → Bool) → ℕ → Bool) (column : List ℕ) → planes_of b (λ p s. step (bit_in column s) p) ≡ stepped_column b step column
unfolding stepped_column
stepped-is b step column = refl

pub stepped-is2 : (b : ℕ) (step : (ℕ → Bool) → (ℕ → Bool) → ℕ → Bool) (left right : List ℕ) → planes_of b (λ p s. step (bit_in left s) (bit_in right s) p) ≡ stepped_column2 b step left right
unfolding stepped_column2
stepped-is2 b step left right = refl
