-- The bytes of two planes: the subsets that have a relation, and the subsets that there are (FORMAT 3.2).
use Rattle.std.specs.Prelude.{ℕ, ◌+◌, ◌*◌, ltb}
use Rattle.bits.specs.Bit.{bit}
use Rattle.bits.specs.Pack.{pack}

-- FORMAT 3.10: byte j of the membership map of relation r, whose bit s stands where s has r
unfoldable pub member_byte : ℕ → ℕ → ℕ
member_byte r j = pack 8 (λ i. bit (j * 8 + i) r)

-- FORMAT 3.11: byte j of the plane of all subsets, of which there are `count`
unfoldable pub subset_byte : ℕ → ℕ → ℕ
subset_byte count j = pack 8 (λ i. ltb (j * 8 + i) count)
