-- The bytes that the steps compute are those of the columns' maps.
use Rattle.std.specs.Prelude.{ℕ, zero, suc, ◌+◌, ◌*◌, ◌<◌, ◌≡◌, refl, Bool, ◌&&◌, List, ltb, get_or}
use Rattle.std.proofs.Common.{sym, ap, ap₂, ◌∙◌, lt_of_le_of_lt, zero-add, arith}
use Rattle.std.specs.Int.Bits.{bit_and}
use Rattle.std.proofs.lemmas.Nat.{and_le_l}
use Rattle.bits.specs.Bit.{bit, bit-and}
use Rattle.bits.specs.Pack.{pack, bit-pack, pack-below, pack-same, byte-is}
use Rattle.planes.specs.Planes.{map_byte, bit_in}
use Rattle.planes.specs.PlaneLaws.{map-byte, map-step, map-step2}
use Rattle.column.specs.declared.steps.Unary.{Unary}
use Rattle.column.specs.declared.steps.Combination.{Combination}
use Rattle.column.specs.Tables.{member_byte, subset_byte}
use Rattle.column.specs.Steps.{unary_step, combined_step}
use Rattle.column.specs.StepLaws.{unary-local, combined-local}

-- ---- a relation

pub relation-allowed : (count j : ℕ) → subset_byte count j ≡ map_byte (λ s. ltb s count) j
unfolding subset_byte
relation-allowed count j = sym (map-byte (λ s. ltb s count) j)

pub relation-output : (count r j : ℕ) → bit_and (subset_byte count j) (member_byte r j) ≡ map_byte (λ s. ltb s count && bit s r) j
unfolding subset_byte member_byte
relation-output count r j =
    byte-is (bit_and (pack 8 (λ i. ltb (j * 8 + i) count)) (pack 8 (λ i. bit (j * 8 + i) r))) (λ i. ltb (j * 8 + i) count && bit (j * 8 + i) r)
    (lt_of_le_of_lt (and_le_l (pack 8 (λ i. ltb (j * 8 + i) count)) (pack 8 (λ i. bit (j * 8 + i) r))) (pack-below 8 (λ i. ltb (j * 8 + i) count)))
    (λ i h. bit-and (pack 8 (λ i. ltb (j * 8 + i) count)) (pack 8 (λ i. bit (j * 8 + i) r)) i ∙ ap₂ ◌&&◌ (bit-pack 8 (λ i. ltb (j * 8 + i) count) i h) (bit-pack 8 (λ i. bit (j * 8 + i) r) i h))
    ∙ sym (map-byte (λ s. ltb s count && bit s r) j)

-- ---- a step, made at each subset of byte j

-- the bits at place i of an allowed byte and of the output byte that goes with it
abbrev two : ℕ → ℕ → ℕ → ℕ → Bool
two allowed output i zero = bit allowed i
two allowed output i (suc p) = bit output i

two_is : (column : List ℕ) (j i q : ℕ) → q < 2 → two (get_or column j 0) (get_or column (32 + j) 0) i q ≡ bit (get_or column (q * 32 + j) 0) i
two_is column j i zero h = ap (λ (k : ℕ). bit (get_or column k 0) i) (sym (zero-add j))
two_is column j i (suc zero) h = refl
two_is column j i (suc (suc q)) h = absurd (omega arith)

pub unary-map : (u : Unary) (column : List ℕ) (j p : ℕ) → pack 8 (λ i. unary_step u (two (get_or column j 0) (get_or column (32 + j) 0) i) p) ≡ map_byte (λ s. unary_step u (bit_in column s) p) j
unary-map u column j p =
    pack-same 8 _ (λ i. unary_step u (λ q. bit (get_or column (q * 32 + j) 0) i) p) (λ i h. unary-local u _ _ (two_is column j i) p)
    ∙ map-step (λ x. unary_step u x p) column j

pub combined-map :
    (c : Combination) (left right : List ℕ) (j p : ℕ)
    → pack 8 (λ i. combined_step c (two (get_or left j 0) (get_or left (32 + j) 0) i) (two (get_or right j 0) (get_or right (32 + j) 0) i) p)
    ≡ map_byte (λ s. combined_step c (bit_in left s) (bit_in right s) p) j
combined-map c left right j p =
    pack-same 8 _ (λ i. combined_step c (λ q. bit (get_or left (q * 32 + j) 0) i) (λ q. bit (get_or right (q * 32 + j) 0) i) p) (λ i h. combined-local c _ _ _ _ (two_is left j i) (two_is right j i) p)
    ∙ map-step2 (λ x y. combined_step c x y p) left right j
