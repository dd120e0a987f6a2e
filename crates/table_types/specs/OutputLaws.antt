-- Laws of the output: an attribute that no relation has, and what a typed table says about each cell.
use Rattle.std.specs.Prelude.{ℕ, ◌%◌, ◌<◌, ◌≡◌, refl, Bool, true, false, List, length, get_or}
use Rattle.std.proofs.Common.{sym, ap, ◌∙◌, mod-lt, lit<}
use Rattle.std.proofs.Math.Path.{ap₂, fun_ext}
use Rattle.std.proofs.Math.Bool.{◌&&◌}
use Rattle.bits.specs.AllBelow.{all_below, in_all, all_in}
use Rattle.bits.specs.Bit.{bit, bit-first, bit-none, digit_clear}
use Rattle.bits.specs.Booleans.{and_left, and_right}
use Rattle.bits.specs.Pack.{pack, pack-below, bit-pack, pack-same}
use Rattle.algebra.specs.Expression.{Expression, Legal}
use Rattle.algebra.specs.Cell.{plain, out, ok}
use Rattle.algebra.specs.CellLaws.{cell-none}
use Rattle.table_types.specs.Output.{special_holders, typed_in, output_map}

module _ (m : ℕ) (e : Expression) (legal : Legal m e) where
  -- an attribute that no relation has
  pub none-held : (x : ℕ) → x ≡ 0 → (ok plain e 0 (bit x) ≡ true) × (out plain e 0 (bit x) ≡ false)
  none-held x z =
      let none : bit x ≡ (λ r. false) = ap bit z ∙ fun_ext bit-none in
      rw none (cell-none plain refl refl m e legal)

  -- bit 0 of the output's map is clear
  pub map-even : (special : List ℕ) → ((r : ℕ) → get_or special r 0 % 2 ≡ 0) → output_map e special % 2 ≡ 0
  unfolding output_map
  map-even special even =
      digit_clear (pack 16 (λ i. out plain e i (special_holders special i)) % 2)
      (mod-lt (pack 16 (λ i. out plain e i (special_holders special i))) (lit< tt))
      (sym (bit-first (pack 16 (λ i. out plain e i (special_holders special i)))) ∙ lacks)
    where
      none : special_holders special 0 ≡ (λ r. false)
      none = fun_ext (λ r. bit-first (get_or special r 0) ∙ rw (even r))

      lacks : bit (pack 16 (λ i. out plain e i (special_holders special i))) 0 ≡ false
      lacks = bit-pack 16 (λ i. out plain e i (special_holders special i)) 0 (lit< tt) ∙ rw none (cell-none plain refl refl m e legal).1

-- the output's map is of two bytes
pub output-map-below : (e : Expression) (special : List ℕ) → output_map e special < 65536
unfolding output_map
output-map-below e special = pack-below 16 (λ i. out plain e i (special_holders special i))

-- the bit of a special attribute
pub output-map-bit : (e : Expression) (special : List ℕ) (i : ℕ) → i < 16 → bit (output_map e special) i ≡ out plain e i (special_holders special i)
unfolding output_map
output-map-bit e special i h = bit-pack 16 (λ i. out plain e i (special_holders special i)) i h

-- the output's map, by its bits
pub map-by-bits : (e : Expression) (special : List ℕ) (f : ℕ → Bool) → ((i : ℕ) → i < 16 → f i ≡ out plain e i (special_holders special i)) → pack 16 f ≡ output_map e special
unfolding output_map
map-by-bits e special f same = pack-same 16 f (λ i. out plain e i (special_holders special i)) same

-- ---- a typed table: each special attribute and each entry breaks no rule

module _ (e : Expression) (special entries : List ℕ) where
  pub typed-special : typed_in e special entries ≡ true → (i : ℕ) → i < 16 → ok plain e i (special_holders special i) ≡ true
  unfolding typed_in
  typed-special typed =
      all_in 16 (λ i. ok plain e i (special_holders special i))
      (and_left (all_below 16 (λ i. ok plain e i (special_holders special i)))
      (all_below (length entries) (λ i. ok plain e 0 (bit (get_or entries i 0)))) typed)

  pub typed-entry : typed_in e special entries ≡ true → (i : ℕ) → i < length entries → ok plain e 0 (bit (get_or entries i 0)) ≡ true
  unfolding typed_in
  typed-entry typed =
      all_in (length entries) (λ i. ok plain e 0 (bit (get_or entries i 0)))
      (and_right (all_below 16 (λ i. ok plain e i (special_holders special i)))
      (all_below (length entries) (λ i. ok plain e 0 (bit (get_or entries i 0)))) typed)

  pub all_typed : ((i : ℕ) → i < 16 → ok plain e i (special_holders special i) ≡ true) → ((i : ℕ) → i < length entries → ok plain e 0 (bit (get_or entries i 0)) ≡ true) → typed_in e special entries ≡ true
  unfolding typed_in
  all_typed specials listed = ap₂ ◌&&◌ (in_all 16 (λ i. ok plain e i (special_holders special i)) specials) (in_all (length entries) (λ i. ok plain e 0 (bit (get_or entries i 0))) listed)
