-- The relations that still need an attribute once those of a subset have one.
use Rattle.std.specs.Prelude.{ℕ, ◌-◌, ◌<◌, ◌≡◌, Bool, not, ◌&&◌}
use Rattle.std.proofs.Common.{sym, ap, ◌∙◌, arith}
use Rattle.std.specs.Int.Bits.{bit_or}
use Rattle.std.proofs.lemmas.Nat.{or_lt}
use Rattle.bits.specs.Bit.{bit, bit-or}
use Rattle.bits.specs.Pack.{bits-once}
use Rattle.set_cover.specs.Remainder.{both, rest, rest-bit, rest-least}

-- one subset and then another leave what both together leave
pub rest-union : (need a b : ℕ) → need < 256 → a < 256 → b < 256 → rest (rest need a) b ≡ rest need (bit_or a b)
rest-union need a b h ha hb =
    let la = rest-least need a in
    let lab = rest-least (rest need a) b in
    let lor = rest-least need (bit_or a b) in
    bits-once 8 _ _ (omega arith) (omega arith)
    (λ j l.
    rest-bit (rest need a) b j hb l
    ∙ ap (λ (x : Bool). x && not (bit b j)) (rest-bit need a j ha l)
    ∙ both (bit need j) (bit a j) (bit b j)
    ∙ sym (rest-bit need (bit_or a b) j (or_lt 8 a b ha hb) l ∙ ap (λ (x : Bool). bit need j && not x) (bit-or a b j)))
