-- Subsets of attributes and maps of relations say the same: each is got back from the other.
use Rattle.std.specs.Prelude.{ℕ, ◌%◌, ◌^◌, ◌≤◌, ◌<◌, ◌≡◌, refl, List, eqb, length}
use Rattle.std.proofs.Math.Path.{sym, ap}
use Rattle.std.proofs.Common.{◌∙◌, lt_of_lt_of_le, mod-lt, arith, lit<, pow_mono}
use Rattle.std.proofs.Math.Decide.{dec_lt}
use Rattle.std.proofs.Math.ListN.{get_or, get_or-eq_default}
use Rattle.bits.specs.Bit.{bit, bit-first, bit-none, bit-above, digit_clear}
use Rattle.bits.specs.Pack.{pack, pack-below, pack-bits, pack-same, bit-pack, bits-once}
use Rattle.bits.specs.Tab.{tab, length-tab, get_or-tab, tab-is}
use Rattle.special_maps.specs.Special.{map_of, maps_from, subset_from, subsets_from}

module _ (subsets : List ℕ) where
  pub maps-length : length (maps_from subsets) ≡ 8
  unfolding maps_from
  maps-length = length-tab 8 (map_of subsets)

  -- what holds of 0 and of every relation's map holds of each place
  pub map-case : (r : ℕ) → (P : ℕ → Type 0) → P 0 → (r < 8 → P (map_of subsets r)) → P (get_or (maps_from subsets) r 0)
  unfolding maps_from
  map-case r P default inside = go (dec_lt r 8)
    where
      go : Dec (r < 8) → P (get_or (tab 8 (map_of subsets)) r 0)
      go (yes h) = rw (get_or-tab 8 (map_of subsets) r 0 h) (inside h)
      go (no h) = let size = length-tab 8 (map_of subsets) in rw (get_or-eq_default (tab 8 (map_of subsets)) 0 {n = r} (omega arith)) default

  map-even : get_or subsets 0 0 ≡ 0 → (r : ℕ) → map_of subsets r % 2 ≡ 0
  unfolding map_of
  map-even none r =
      digit_clear (map_of subsets r % 2) (mod-lt (map_of subsets r) (lit< tt))
      (sym (bit-first (map_of subsets r))
      ∙ bit-pack 16 (λ i. bit (get_or subsets i 0) r) 0 (lit< tt)
      ∙ ap (λ (x : ℕ). bit x r) none
      ∙ bit-none r)

  -- bit 0 is clear where attribute 0 has no relation
  pub maps-even : get_or subsets 0 0 ≡ 0 → (r : ℕ) → get_or (maps_from subsets) r 0 % 2 ≡ 0
  maps-even none r = map-case r (λ (x : ℕ). x % 2 ≡ 0) refl (λ h. map-even none r)

  -- each is of two bytes
  pub maps-small : (r : ℕ) → get_or (maps_from subsets) r 0 < 65536
  unfolding map_of
  maps-small r = map-case r (λ (x : ℕ). x < 65536) (lit< tt) (λ h. pack-below 16 (λ i. bit (get_or subsets i 0) r))

  map_at : (r : ℕ) → r < 8 → get_or (maps_from subsets) r 0 ≡ map_of subsets r
  unfolding maps_from
  map_at r h = get_or-tab 8 (map_of subsets) r 0 h

  pub map-bit : (r i : ℕ) → r < 8 → i < 16 → bit (get_or (maps_from subsets) r 0) i ≡ bit (get_or subsets i 0) r
  unfolding map_of
  map-bit r i hr hi = ap (λ (x : ℕ). bit x i) (map_at r hr) ∙ bit-pack 16 (λ i. bit (get_or subsets i 0) r) i hi

  -- where no subset has a relation from m on, the maps from m on are empty
  pub maps-empty : (m : ℕ) → ((i : ℕ) → i < 16 → get_or subsets i 0 < 2 ^ m) → (r : ℕ) → m ≤ r → get_or (maps_from subsets) r 0 ≡ 0
  maps-empty m below r past = go (dec_lt r 8)
    where
      go : Dec (r < 8) → get_or (maps_from subsets) r 0 ≡ 0
      go (yes h) =
          bits-once 16 (get_or (maps_from subsets) r 0) 0 (maps-small r) (lit< tt)
          (λ i hi. map-bit r i h hi ∙ bit-above (get_or subsets i 0) r (lt_of_lt_of_le (below i hi) (pow_mono past)) ∙ sym (bit-none i))
      go (no h) = let size = maps-length in get_or-eq_default (maps_from subsets) 0 {n = r} (omega arith)

  -- the subsets are got back
  pub subsets-back : length subsets ≡ 16 → ((i : ℕ) → get_or subsets i 0 < 256) → subsets_from (maps_from subsets) ≡ subsets
  unfolding subsets_from subset_from
  subsets-back size small =
      sym (tab-is 16 (subset_from (maps_from subsets)) 0 subsets size
      (λ i h. sym (pack-same 8 (λ r. bit (get_or (maps_from subsets) r 0) i) (bit (get_or subsets i 0)) (λ r hr. map-bit r i hr h) ∙ pack-bits 8 (get_or subsets i 0) (small i))))

module _ (maps : List ℕ) where
  pub subset-bit : (i r : ℕ) → i < 16 → r < 8 → bit (get_or (subsets_from maps) i 0) r ≡ bit (get_or maps r 0) i
  unfolding subsets_from subset_from
  subset-bit i r hi hr = ap (λ (x : ℕ). bit x r) (get_or-tab 16 (subset_from maps) i 0 hi) ∙ bit-pack 8 (λ r. bit (get_or maps r 0) i) r hr

  pub subsets-size : length (subsets_from maps) ≡ 16
  unfolding subsets_from
  subsets-size = length-tab 16 (subset_from maps)

  pub subsets-small : (i : ℕ) → get_or (subsets_from maps) i 0 < 256
  unfolding subsets_from subset_from
  subsets-small i = go (dec_lt i 16)
    where
      go : Dec (i < 16) → get_or (tab 16 (subset_from maps)) i 0 < 256
      go (yes h) = rw (get_or-tab 16 (subset_from maps) i 0 h) (pack-below 8 (λ r. bit (get_or maps r 0) i))
      go (no h) = let size = length-tab 16 (subset_from maps) in rw (get_or-eq_default (tab 16 (subset_from maps)) 0 {n = i} (omega arith)) (lit< tt)

  -- the maps are got back
  pub maps-back : length maps ≡ 8 → ((r : ℕ) → get_or maps r 0 < 65536) → maps_from (subsets_from maps) ≡ maps
  unfolding maps_from map_of
  maps-back size small =
      sym (tab-is 8 (map_of (subsets_from maps)) 0 maps size
      (λ r h. sym (pack-same 16 (λ i. bit (get_or (subsets_from maps) i 0) r) (bit (get_or maps r 0)) (λ i hi. subset-bit i r hi h) ∙ pack-bits 16 (get_or maps r 0) (small r))))

  -- attribute 0 has the empty subset where no map has bit 0
  pub subset-zero : ((r : ℕ) → get_or maps r 0 % 2 ≡ 0) → get_or (subsets_from maps) 0 0 ≡ 0
  subset-zero even =
      bits-once 8 (get_or (subsets_from maps) 0 0) 0 (subsets-small 0) (lit< tt)
      (λ r h. subset-bit 0 r (lit< tt) h ∙ bit-first (get_or maps r 0) ∙ ap (λ (d : ℕ). eqb d 1) (even r) ∙ sym (bit-none r))

  -- where the maps from m on are empty, no subset has a relation from m on
  pub subset-below : (m i : ℕ) → m ≤ 8 → i < 16 → ((r : ℕ) → m ≤ r → get_or maps r 0 ≡ 0) → get_or (subsets_from maps) i 0 < 2 ^ m
  subset-below m i few hi empty = rw small (pack-below m (bit (get_or (subsets_from maps) i 0)))
    where
      small : get_or (subsets_from maps) i 0 ≡ pack m (bit (get_or (subsets_from maps) i 0))
      small =
          bits-once 8 (get_or (subsets_from maps) i 0) (pack m (bit (get_or (subsets_from maps) i 0))) (subsets-small i) (lt_of_lt_of_le (pack-below m (bit (get_or (subsets_from maps) i 0))) (pow_mono {j = 8} few))
          (λ r h. go r h (dec_lt r m))
        where
          go : (r : ℕ) → r < 8 → Dec (r < m) → bit (get_or (subsets_from maps) i 0) r ≡ bit (pack m (bit (get_or (subsets_from maps) i 0))) r
          go r h (yes below) = sym (bit-pack m (bit (get_or (subsets_from maps) i 0)) r below)
          go r h (no above) =
              subset-bit i r hi h
              ∙ ap (λ (x : ℕ). bit x i) (empty r (omega arith))
              ∙ bit-none i
              ∙ sym (bit-above (pack m (bit (get_or (subsets_from maps) i 0))) r (lt_of_lt_of_le (pack-below m (bit (get_or (subsets_from maps) i 0))) (pow_mono (omega arith))))
