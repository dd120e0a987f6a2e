-- Laws of lists of attributes: one attribute more, and what is read against what stands in the bytes.
use Prim.Native.Nat.{ℕ, zero, suc, ◌+◌, ◌*◌, ◌≤◌, ◌<◌}
use Rattle.std.specs.Prelude.{◌≡◌, Bool, false, List, [], ◌∷◌, eqb, ltb, leb, Result, ℕ, Ok, Err}
use Rattle.std.proofs.Math.Path.{refl, ap, subst}
use Rattle.std.proofs.Common.{sym, ◌∙◌, add-zero, lit≤}
use Rattle.std.proofs.Math.Decide.{dec_le}
use Rattle.std.proofs.Math.Nat.{zero-add}
use native.Mathlib.Omega.{arith}
use borrow.Author.Tests.{ltb-false, leb-false, eqb-false, le-ltb, lt-leb, ne_eqb}
use Rattle.std.proofs.Math.ListN.{length, get_or, get_or-eq_default}
use Rattle.bits.specs.Rising.{Rising}
use Rattle.bits.specs.Tab.{tab, tab-none, tab-from, length-tab, get_or-tab}
use Rattle.bits.specs.Word.{Bytes, word_bytes, word_below}
use Rattle.refusal.specs.Chain.{refuse, refuse-passes, refuse-past, refuse-has}
use Rattle.refusal.specs.Number.{number_of}
use Rattle.refusal.specs.declared.Refusal.{Refusal}
use Rattle.refusal.specs.declared.Refusal.TheVariants.{InputTruncated, CountZero, ListedAttribute}
use Rattle.type_record.specs.Lists.{attribute_at, read_from, read_list, listed}

-- a list that is read gets past the test
passed : (t : Bool) (r : Refusal) {next : Result ℕ Refusal} {n : ℕ} → refuse Err t r next ≡ Ok n → (t ≡ false) × (next ≡ Ok n)
passed t r {next} = refuse-past Err t r next (λ e. let z : ◌≡◌ {A = ℕ} 0 1 = cc in omega arith)

module _ (bytes : List ℕ) where
  -- an attribute's two bytes
  pub attribute-is : (i : ℕ) → attribute_at bytes i ≡ get_or bytes (i * 2 + 1) 0 + get_or bytes (i * 2 + 2) 0 * 256
  attribute-is i =
      let next : i * 2 + 1 + 1 ≡ i * 2 + 2 = omega arith in
      rw (word_bytes bytes (i * 2 + 1), next)

  -- so many attributes from number i on
  abbrev from : ℕ → ℕ → List ℕ
  from left i = tab left (λ j. attribute_at bytes (i + j))

  from_more : (left i : ℕ) → from (suc left) i ≡ attribute_at bytes i ∷ from left (i + 1)
  from_more left i = tab-from left i (attribute_at bytes)

  pub read_next : (left i previous : ℕ) → i * 2 + 3 ≤ length bytes → previous < attribute_at bytes i → read_from bytes (suc left) i previous ≡ read_from bytes left (i + 1) (attribute_at bytes i)
  unfolding read_from
  read_next left i previous enough above = refuse-passes _ _ _ _ (le-ltb (length bytes) (i * 2 + 3) enough) ∙ refuse-passes _ _ _ _ (lt-leb (attribute_at bytes i) previous above)

  -- ---- attributes that are read rise and lie within the bytes

  -- so many attributes from number i on are there and rise
  record ReadFrom (left i previous n : ℕ) : Type 0 where
    end : n ≡ i + left
    fits : (i + left) * 2 + 1 ≤ length bytes
    rising : Rising previous (from left i)

  read-from : (left i previous n : ℕ) → i * 2 + 1 ≤ length bytes → read_from bytes left i previous ≡ Ok n → ReadFrom left i previous n
  unfolding read_from
  read-from zero i previous n inside e =
      let same : i ≡ n = cc in
      record { end = omega arith; fits = omega arith; rising = subst (Rising previous) (sym (tab-none (λ j. attribute_at bytes (i + j)))) tt }
  read-from (suc left) i previous n inside e =
      let enough = passed _ _ e in
      let above = passed _ _ enough.1 in
      let next : i * 2 + 3 ≤ length bytes = ltb-false _ _ enough.0 in
      let rest = read-from left (i + 1) (attribute_at bytes i) n (omega arith) above.1 in
      record {
        end = omega arith;
        fits = omega arith;
        rising = subst (Rising previous) (sym (from_more left i)) (leb-false _ _ above.0, rest.rising);
      }

  -- ---- and attributes that rise and lie within the bytes are read

  from-read : (left i previous : ℕ) → (i + left) * 2 + 1 ≤ length bytes → Rising previous (from left i) → read_from bytes left i previous ≡ Ok (i + left)
  unfolding read_from
  from-read zero i previous fits rising = ap Ok (sym (add-zero i))
  from-read (suc left) i previous fits rising =
      let more = rw from_more at rising in
      let end : i + 1 + left ≡ i + suc left = omega arith in
      read_next left i previous (omega arith) more.0
      ∙ from-read left (i + 1) (attribute_at bytes i) (omega arith) more.1
      ∙ ap Ok end

  -- ---- the whole list

  -- what the bytes hold where a list is read
  pub record HoldsList (n : ℕ) : Type 0 where
    pub some : 1 ≤ n
    pub count : get_or bytes 0 0 ≡ n
    pub fits : n * 2 + 1 ≤ length bytes
    pub rising : Rising 15 (listed n bytes)

  from_start : (n : ℕ) → from n 0 ≡ listed n bytes
  unfolding listed
  from_start n = simp zero-add

  pub list-holds : (n : ℕ) → read_list bytes ≡ Ok n → HoldsList n
  unfolding read_list
  list-holds n e =
      let enough = passed _ _ e in
      let some = passed _ _ enough.1 in
      let inside : 1 ≤ length bytes = ltb-false _ _ enough.0 in
      let count = get_or bytes 0 0 in
      let from = read-from count 0 15 n (omega arith) some.1 in
      let same : n ≡ count = omega arith in
      let nonzero = eqb-false count 0 some.0 in
      rw same
      (record {
        some = omega arith;
        count = refl;
        fits = omega arith;
        rising = rw (from_start count) at from.rising;
      })

  pub holds-list : (n : ℕ) → HoldsList n → read_list bytes ≡ Ok n
  unfolding read_list
  holds-list n h =
      refuse-passes _ _ _ _ (le-ltb (length bytes) 1 (omega arith))
      ∙ refuse-passes _ _ _ _ (ne_eqb (get_or bytes 0 0) 0 (λ z. omega (arith, h.count)))
      ∙ rw h.count
      (from-read n 0 15 (omega arith) (rw from_start h.rising) ∙ ap Ok (zero-add n))

  -- ---- the attributes of a list

  pub listed-tab : (n : ℕ) → listed n bytes ≡ tab n (attribute_at bytes)
  unfolding listed
  listed-tab n = refl

  pub listed-none : listed 0 bytes ≡ []
  listed-none = listed-tab 0 ∙ tab-none (attribute_at bytes)

  pub listed-length : (n : ℕ) → length (listed n bytes) ≡ n
  unfolding listed
  listed-length n = length-tab n (attribute_at bytes)

  pub listed_at : (n i : ℕ) → i < n → get_or (listed n bytes) i 0 ≡ attribute_at bytes i
  unfolding listed
  listed_at n i h = get_or-tab n (attribute_at bytes) i 0 h

  -- each of two bytes
  pub listed_below : (n i : ℕ) → Bytes bytes → get_or (listed n bytes) i 0 < 65536
  listed_below n i below = go (dec_le n i)
    where
      go : Dec (n ≤ i) → get_or (listed n bytes) i 0 < 65536
      go (yes h) = let none = get_or-eq_default (listed n bytes) 0 {n = i} (rw listed-length h) in omega arith
      go (no h) = rw (listed_at n i (omega arith)) (word_below bytes (i * 2 + 1) below)

-- ---- a list is refused by 14, 15 or 16

-- a list, or a refusal of at most 16
abbrev Early : Result ℕ Refusal → Type 0
Early (Ok n) = Unit {0}
Early (Err r) = number_of r ≤ 16

from-early : (bytes : List ℕ) (left i previous : ℕ) → Early (read_from bytes left i previous)
unfolding read_from
from-early bytes zero i previous = tt
from-early bytes (suc left) i previous =
    refuse-has Early Err (ltb (length bytes) (i * 2 + 3)) InputTruncated _ (lit≤ tt)
    (λ long. refuse-has Early Err (leb (attribute_at bytes i) previous) ListedAttribute _ (lit≤ tt) (λ above. from-early bytes left (i + 1) (attribute_at bytes i)))

pub list-number : (bytes : List ℕ) (r : Refusal) → read_list bytes ≡ Err r → number_of r ≤ 16
unfolding read_list
list-number bytes r e =
    subst Early e
    (refuse-has Early Err (ltb (length bytes) 1) InputTruncated _ (lit≤ tt)
    (λ long. refuse-has Early Err (eqb (get_or bytes 0 0) 0) CountZero _ (lit≤ tt) (λ some. from-early bytes (get_or bytes 0 0) 0 15)))
