use Prim.Native.Nat.{ℕ, ◌+◌, ◌-◌, ◌≤◌, ◌<◌}
use mathlib.Core.Path.{◌≡◌, sym, ap, ◌∙◌}
use mathlib.Core.Bool.{Bool, cond}
use mathlib.Core.List.{List}
use mathlib.Core.Logic.{◌⊎◌, inl, inr}
use native.Mathlib.Nat.{eq-zero-or-pos}
use native.Mathlib.Omega.{arith}
use borrow.Author.Tests.{ne_eqb}
use lib.Dec.{eqb}
use lib.ListN.{length, get_or, replicate}
use lib.Seq.{paste, length-paste}
use Rattle.copying.specs.Copied.{paste-inside, paste-outside}
use Rattle.instantiation.specs.Instantiation.{subsets_of}
use Rattle.instantiation.specs.TableLaws.{subsets-are}
use Rattle.instantiation_reader.proofs.reading.subsets_of.Goals as goal

-- fifteen bytes after a zero
copied : (bytes : List ℕ) → 15 ≤ length bytes → paste (replicate 16 0) 1 bytes 15 ≡ subsets_of bytes
copied bytes enough = subsets-are bytes _ (length-paste (replicate 16 0) 1 bytes 15 (omega arith) enough) (λ i h. go i h (eq-zero-or-pos i))
  where
    go : (i : ℕ) → i < 16 → (i ≡ 0) ⊎ (0 < i) → get_or (paste (replicate 16 0) 1 bytes 15) i 0 ≡ cond (eqb i 0) 0 (get_or bytes (i - 1) 0)
    go i h (inl first) = rw first (paste-outside (replicate 16 0) bytes 1 15 (omega arith) enough 0 (inl (omega arith)))
    go i h (inr other) =
        let place : i ≡ 1 + (i - 1) = omega arith in
        ap (λ (k : ℕ). get_or (paste (replicate 16 0) 1 bytes 15) k 0) place
        ∙ paste-inside (replicate 16 0) bytes 1 15 (omega arith) enough (i - 1) (omega arith)
        ∙ sym (ap (λ (t : Bool). cond t 0 (get_or bytes (i - 1) 0)) (ne_eqb i 0 (λ e. omega arith)))

pub returns : goal.returns
returns c =
    let long = c.requires in
    c.copy_bytes.ensures ∙ copied c.args.bytes.now (omega arith)
