-- Special attributes, as a subset for each attribute and as a map for each relation (FORMAT 6.4).
use Rattle.std.specs.Prelude.{ℕ, ◌+◌, ◌-◌, ◌*◌, ◌/◌, ◌%◌, ◌^◌, ◌≤◌, ◌<◌, ◌≡◌, List, get_or}
use Rattle.std.proofs.Common.{ap, ◌∙◌, arith, pow_mono}
use Rattle.bits.specs.Bit.{bit}
use Rattle.bits.specs.Pack.{pack}
use Rattle.bits.specs.PackFrom.{pack_from, from-lower, from-below, bit-digit}
use Rattle.bits.specs.Tab.{tab}

-- relation r's map, of the subsets of attributes
unfoldable pub map_of : List ℕ → ℕ → ℕ
map_of subsets r = pack 16 (λ i. bit (get_or subsets i 0) r)

-- FORMAT 6.4: the maps of eight relations
unfoldable pub maps_from : List ℕ → List ℕ
maps_from subsets = tab 8 (map_of subsets)

-- attribute i's subset, of the maps of relations
unfoldable pub subset_from : List ℕ → ℕ → ℕ
subset_from maps i = pack 8 (λ r. bit (get_or maps r 0) i)

-- FORMAT 7.11: the subsets of all attributes, by number
unfoldable pub subsets_from : List ℕ → List ℕ
subsets_from maps = tab 16 (subset_from maps)

-- ---- the bits from the highest down, for both

-- bit `at` of each element, from element i of n up
abbrev pub bits_from : List ℕ → ℕ → ℕ → ℕ → ℕ
bits_from xs n at = pack_from n (λ i. bit (get_or xs i 0) at)

pub bits-lower : (xs : List ℕ) (n at i : ℕ) → 1 ≤ i → i ≤ n → bits_from xs n at (i - 1) ≡ bits_from xs n at i * 2 + get_or xs (i - 1) 0 / 2 ^ at % 2
bits-lower xs n at i some most = from-lower n (λ i. bit (get_or xs i 0) at) i some most ∙ ap (λ (d : ℕ). bits_from xs n at i * 2 + d) (bit-digit (get_or xs (i - 1) 0) at)

pub bits_below : (xs : List ℕ) (n at i : ℕ) → 1 ≤ i → bits_from xs n at i < 2 ^ (n - 1)
bits_below xs n at i some =
    let below = from-below n (λ i. bit (get_or xs i 0) at) i in
    let most = pow_mono {i = n - i} {j = n - 1} (omega arith) in
    omega arith
