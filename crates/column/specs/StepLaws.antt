-- What operators make of bytes, bit by bit; and that their steps look at two planes and leave clear bits clear.
use Rattle.std.specs.Prelude.{ℕ, zero, suc, ◌-◌, ◌^◌, ◌<◌, ◌≡◌, refl, Bool, false, not, ◌&&◌, ◌||◌}
use Rattle.std.proofs.Common.{ap, ◌∙◌, lit<}
use Rattle.std.proofs.Math.Bool.{and-false}
use Rattle.std.specs.Int.Bits.{bit_and, bit_or, bit_xor}
use Rattle.bits.specs.Bit.{bit, differs}
use Rattle.bits.specs.Pack.{pack, byte-is}
use Rattle.bits.specs.Bitwise.{BitsOf, packed, own_bits, and-bits, or-bits, xor-bits, not-bits}
use Rattle.column.specs.declared.steps.Unary.{Unary}
use Rattle.column.specs.declared.steps.Unary.TheVariants.{Kept, Required, Removed, Introduced, Dropped, Contradicted}
use Rattle.column.specs.declared.steps.Combination.{Combination}
use Rattle.column.specs.declared.steps.Combination.TheVariants.{Agreeing, Merging, Disjoint}
use Rattle.column.specs.Steps.{combined_allowed, combined_output, unary_step, combined_step}

-- ---- the agreement of two operands (FORMAT 3.13)

-- what arithmetic on whole numbers of w bits makes, at each bit
pub agreement-bit :
    (w la lo ra ro i : ℕ)
    → la < 2 ^ w
    → lo < 2 ^ w
    → ra < 2 ^ w
    → ro < 2 ^ w
    → i < w
    → bit (bit_and (bit_and la ra) (2 ^ w - 1 - bit_xor lo ro)) i ≡ bit la i && bit ra i && not (differs (bit lo i) (bit ro i))
agreement-bit w la lo ra ro i ha hl hb hr h =
    (and-bits (and-bits (own_bits la ha) (own_bits ra hb)) (not-bits (xor-bits (own_bits lo hl) (own_bits ro hr)))).bits i h

-- ---- the bytes of two operands

-- the bytes that an operator makes of its operands' bytes
pub record MadeBy (c : Combination) (la lo ra ro x y : ℕ) : Type 0 where
  pub allowed : x ≡ pack 8 (λ i. combined_allowed c (bit la i) (bit lo i) (bit ra i) (bit ro i))
  pub output : y ≡ pack 8 (λ i. combined_output c (bit la i) (bit lo i) (bit ra i) (bit ro i))

-- two bytes that have at each bit what an agreement promises are those of its step; so the promise fixes both
pub made-agreeing :
    (la lo ra ro x y : ℕ)
    → x < 256
    → y < 256
    → ((i : ℕ) → i < 8 → bit x i ≡ bit la i && bit ra i && not (differs (bit lo i) (bit ro i)))
    → ((i : ℕ) → i < 8 → bit y i ≡ bit x i && bit lo i)
    → MadeBy Agreeing la lo ra ro x y
made-agreeing la lo ra ro x y hx hy allowed output =
    record {
      allowed = byte-is x _ hx allowed;
      output = byte-is y _ hy (λ i h. output i h ∙ ap (λ (b : Bool). b && bit lo i) (allowed i h));
    }

module _ (la lo ra ro : ℕ) (ha : la < 256) (hl : lo < 256) (hb : ra < 256) (hr : ro < 256) where
  both : BitsOf 8 (bit_and la ra) (λ i. bit la i && bit ra i)
  both = and-bits (own_bits la ha) (own_bits ra hb)

  either : BitsOf 8 (bit_or lo ro) (λ i. bit lo i || bit ro i)
  either = or-bits (own_bits lo hl) (own_bits ro hr)

  disjoint : BitsOf 8 (bit_and (bit_and la ra) (255 - bit_and lo ro)) (λ i. bit la i && bit ra i && not (bit lo i && bit ro i))
  disjoint = and-bits both (not-bits (and-bits (own_bits lo hl) (own_bits ro hr)))

  pub made-merging : MadeBy Merging la lo ra ro (bit_and la ra) (bit_and (bit_and la ra) (bit_or lo ro))
  made-merging = record { allowed = packed both; output = packed (and-bits both either) }

  pub made-disjoint : MadeBy Disjoint la lo ra ro (bit_and (bit_and la ra) (255 - bit_and lo ro)) (bit_and (bit_and (bit_and la ra) (255 - bit_and lo ro)) (bit_or lo ro))
  made-disjoint = record { allowed = packed disjoint; output = packed (and-bits disjoint either) }

-- ---- steps on planes

-- they look at planes 0 and 1 alone
pub unary-local : (u : Unary) (x x' : ℕ → Bool) → ((q : ℕ) → q < 2 → x q ≡ x' q) → (p : ℕ) → unary_step u x p ≡ unary_step u x' p
unary-local u x x' e zero = rw (e 0 (lit< tt), e 1 (lit< tt))
unary-local u x x' e (suc p) = rw (e 0 (lit< tt), e 1 (lit< tt))

pub combined-local : (c : Combination) (x x' y y' : ℕ → Bool) → ((q : ℕ) → q < 2 → x q ≡ x' q) → ((q : ℕ) → q < 2 → y q ≡ y' q) → (p : ℕ) → combined_step c x y p ≡ combined_step c x' y' p
combined-local c x x' y y' e f zero = rw (e 0 (lit< tt), e 1 (lit< tt), f 0 (lit< tt), f 1 (lit< tt))
combined-local c x x' y y' e f (suc p) = rw (e 0 (lit< tt), e 1 (lit< tt), f 0 (lit< tt), f 1 (lit< tt))

-- where an operand's bits are clear so are the result's
pub unary-clear : (u : Unary) (p : ℕ) → unary_step u (λ q. false) p ≡ false
unary-clear Kept zero = refl
unary-clear Kept (suc p) = refl
unary-clear Required zero = refl
unary-clear Required (suc p) = refl
unary-clear Removed zero = refl
unary-clear Removed (suc p) = refl
unary-clear Introduced zero = refl
unary-clear Introduced (suc p) = refl
unary-clear Dropped zero = refl
unary-clear Dropped (suc p) = refl
unary-clear Contradicted zero = refl
unary-clear Contradicted (suc p) = refl

pub left-clear : (c : Combination) (y : ℕ → Bool) (p : ℕ) → combined_step c (λ q. false) y p ≡ false
left-clear Agreeing y zero = refl
left-clear Agreeing y (suc p) = refl
left-clear Merging y zero = refl
left-clear Merging y (suc p) = refl
left-clear Disjoint y zero = refl
left-clear Disjoint y (suc p) = refl

pub right-clear : (c : Combination) (x : ℕ → Bool) (p : ℕ) → combined_step c x (λ q. false) p ≡ false
right-clear Agreeing x zero = rw (and-false (x 0))
right-clear Agreeing x (suc p) = rw (and-false (x 0))
right-clear Merging x zero = rw (and-false (x 0))
right-clear Merging x (suc p) = rw (and-false (x 0))
right-clear Disjoint x zero = rw (and-false (x 0))
right-clear Disjoint x (suc p) = rw (and-false (x 0))
