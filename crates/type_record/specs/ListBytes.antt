-- The bytes of one list: what stands in them, and that reading and writing undo each other.
use Rattle.std.specs.Prelude.{ℕ, zero, suc, ◌+◌, ◌*◌, ◌/◌, ◌%◌, ◌≤◌, ◌<◌, ◌≡◌, refl, List, [], ◌∷◌, ◌++◌, length, get_or, take, Ok}
use Rattle.std.proofs.Common.{sym, subst, ◌∙◌, arith, length-append, ext_get_or, get_or-take, length-take-le}
use Rattle.std.proofs.Math.ListN.{get_or-append}
use Rattle.bits.specs.Rising.{Rising}
use Rattle.bits.specs.Tab.{tab-is}
use Rattle.bits.specs.Word.{Bytes}
use Rattle.type_record.specs.Lists.{attribute_at, read_list, listed, word_bytes, list_bytes}
use Rattle.type_record.specs.ListLaws.{attribute-is, HoldsList, list-holds, holds-list, listed-tab, listed-length, listed_at, listed_below}

-- what a list can be: rising from 16 on, at most 255 attributes of two bytes
pub record IsList (l : List ℕ) : Type 0 where
  pub rising : Rising 15 l
  pub few : length l ≤ 255
  pub below : (i : ℕ) → get_or l i 0 < 65536

-- ---- what stands in the bytes

pub word-length : (l : List ℕ) → length (word_bytes l) ≡ length l * 2
word-length [] = refl
word-length (a ∷ l) = let rest = word-length l in omega arith

pub word_low : (l : List ℕ) (k : ℕ) → get_or (word_bytes l) (k * 2) 0 ≡ get_or l k 0 % 256
word_low [] k = refl
word_low (a ∷ l) zero = refl
word_low (a ∷ l) (suc k) =
    let next : suc k * 2 ≡ suc (suc (k * 2)) = omega arith in
    rw next (word_low l k)

pub word-high : (l : List ℕ) (k : ℕ) → get_or (word_bytes l) (k * 2 + 1) 0 ≡ get_or l k 0 / 256
word-high [] k = refl
word-high (a ∷ l) zero = refl
word-high (a ∷ l) (suc k) =
    let next : suc k * 2 + 1 ≡ suc (suc (k * 2 + 1)) = omega arith in
    rw next (word-high l k)

pub bytes-length : (l : List ℕ) → 1 ≤ length l → length (list_bytes l) ≡ length l * 2 + 1
bytes-length [] some = absurd (omega arith)
bytes-length (a ∷ l) some = let words = word-length l in omega arith

pub bytes_count : (l : List ℕ) → get_or (list_bytes l) 0 0 ≡ length l
bytes_count [] = refl
bytes_count (a ∷ l) = refl

pub bytes_low : (l : List ℕ) (k : ℕ) → get_or (list_bytes l) (k * 2 + 1) 0 ≡ get_or l k 0 % 256
bytes_low [] k = refl
bytes_low (a ∷ l) k =
    let next : k * 2 + 1 ≡ suc (k * 2) = omega arith in
    rw next (word_low (a ∷ l) k)

pub bytes_high : (l : List ℕ) (k : ℕ) → get_or (list_bytes l) (k * 2 + 2) 0 ≡ get_or l k 0 / 256
bytes_high [] k = refl
bytes_high (a ∷ l) k =
    let next : k * 2 + 2 ≡ suc (k * 2 + 1) = omega arith in
    rw next (word-high (a ∷ l) k)

-- each place of a list's bytes is one of these
places : (P : ℕ → Type 0) → P 0 → ((k : ℕ) → P (k * 2 + 1)) → ((k : ℕ) → P (k * 2 + 2)) → (p : ℕ) → P p
places P count low high zero = count
places P count low high (suc q) = go (q % 2) refl
  where
    go : (d : ℕ) → q % 2 ≡ d → P (suc q)
    go zero e = let place : q / 2 * 2 + 1 ≡ suc q = omega arith in subst P place (low (q / 2))
    go (suc zero) e = let place : q / 2 * 2 + 2 ≡ suc q = omega arith in subst P place (high (q / 2))
    go (suc (suc d)) e = absurd (omega arith)

-- each is a byte
pub list-bytes : (l : List ℕ) → length l ≤ 255 → ((i : ℕ) → get_or l i 0 < 65536) → Bytes (list_bytes l)
list-bytes l few below =
    places (λ (p : ℕ). get_or (list_bytes l) p 0 < 256)
    (rw bytes_count (omega arith))
    (λ k. rw bytes_low (omega arith))
    (λ k. let attribute = below k in rw bytes_high (omega arith))

-- ---- reading, and writing what was read

module _ (bytes : List ℕ) (n : ℕ) (below : Bytes bytes) (e : read_list bytes ≡ Ok n) where
  holds : HoldsList bytes n
  holds = list-holds bytes n e

  pub list_read : IsList (listed n bytes)
  list_read =
      let count = holds.count in
      let first = below 0 in
      record {
        rising = holds.rising;
        few = rw listed-length (omega arith);
        below = λ i. listed_below bytes n i below;
      }

  pub list-some : 1 ≤ length (listed n bytes)
  list-some = rw listed-length holds.some

  attribute-same : (k : ℕ) → k < n → get_or (listed n bytes) k 0 ≡ get_or bytes (k * 2 + 1) 0 + get_or bytes (k * 2 + 2) 0 * 256
  attribute-same k h = listed_at bytes n k h ∙ attribute-is bytes k

  byte-same : (p : ℕ) → p < n * 2 + 1 → get_or (list_bytes (listed n bytes)) p 0 ≡ get_or bytes p 0
  byte-same =
      places (λ (p : ℕ). p < n * 2 + 1 → get_or (list_bytes (listed n bytes)) p 0 ≡ get_or bytes p 0)
      (λ h. bytes_count (listed n bytes) ∙ listed-length bytes n ∙ sym holds.count)
      (λ k h.
      let at = attribute-same k (omega arith) in
      let low = bytes_low (listed n bytes) k in
      omega (arith, below (k * 2 + 1)))
      (λ k h.
      let at = attribute-same k (omega arith) in
      let high = bytes_high (listed n bytes) k in
      omega (arith, below (k * 2 + 1)))

  -- writing what was read gives the same bytes
  pub list_written : list_bytes (listed n bytes) ≡ take (n * 2 + 1) bytes
  list_written =
      let size = bytes-length (listed n bytes) list-some in
      let count = listed-length bytes n in
      let front = length-take-le (n * 2 + 1) bytes holds.fits in
      ext_get_or 0 (list_bytes (listed n bytes)) (take (n * 2 + 1) bytes) (omega arith)
      (λ p h. let inside : p < n * 2 + 1 = omega arith in byte-same p inside ∙ sym (get_or-take (n * 2 + 1) bytes p 0 inside))

-- ---- reading what was written

module _ (l rest : List ℕ) (some : 1 ≤ length l) where
  -- the bytes of a list, and what follows
  abbrev written : List ℕ
  written = list_bytes l ++ rest

  written_at : (p : ℕ) → p < length l * 2 + 1 → get_or written p 0 ≡ get_or (list_bytes l) p 0
  written_at p h = let size = bytes-length l some in get_or-append (list_bytes l) rest 0 p (omega arith)

  -- the same attributes
  pub written_listed : listed (length l) written ≡ l
  written_listed =
      listed-tab written (length l)
      ∙ sym
      (tab-is (length l) (attribute_at written) 0 l refl
      (λ k h.
      let low = written_at (k * 2 + 1) (omega arith) ∙ bytes_low l k in
      let high = written_at (k * 2 + 2) (omega arith) ∙ bytes_high l k in
      let at = attribute-is written k in
      omega arith))

  -- and as many
  pub written-list : Rising 15 l → read_list written ≡ Ok (length l)
  written-list rising =
      let size = bytes-length l some in
      let whole = length-append (list_bytes l) rest in
      holds-list written (length l)
      (record {
        some = some;
        count = written_at 0 (omega arith) ∙ bytes_count l;
        fits = omega arith;
        rising = rw written_listed rising;
      })
