use Prim.Native.Nat.{ℕ, ◌+◌, ◌-◌, ◌≤◌}
use mathlib.Core.Path.{◌≡◌, ap, ◌∙◌}
use mathlib.Core.List.{List}
use mathlib.Core.Logic.{inr}
use native.Mathlib.Omega.{arith}
use lib.ListN.{length, get_or, take, drop, length-drop}
use lib.Seq.{paste, length-paste, get_or-drop}
use Rattle.bits.specs.Part.{part-from}
use Rattle.bits.specs.Tab.{tab, over}
use Rattle.bits.specs.Written.{written_all}
use Rattle.copying.specs.Copied.{paste-front, paste-outside}
use Rattle.instantiation_writer.proofs.writing.write_special.Goals as goal

-- fifteen subsets after the first
copied :
    (out subsets : List ℕ)
    → length subsets ≡ 16
    → 15 ≤ length out
    → paste out 0 (take (length subsets - 1) (drop 1 subsets)) 15 ≡ over (tab 15 (λ i. get_or subsets (i + 1) 0)) out
copied out subsets size room =
    rw (part-from subsets 1)
    (written_all (λ i. get_or subsets (i + 1) 0) 15 out (paste out 0 (drop 1 subsets) 15) room
    (record {
      size = length-paste out 0 (drop 1 subsets) 15 (omega arith) enough;
      front = λ i h. paste-front out (drop 1 subsets) 15 room enough i h ∙ get_or-drop 1 subsets i 0 ∙ ap (λ (k : ℕ). get_or subsets k 0) (next i);
      back = λ i h. paste-outside out (drop 1 subsets) 0 15 (omega arith) enough i (inr (omega arith));
    }))
  where
    enough : 15 ≤ length (drop 1 subsets)
    enough = let rest = length-drop 1 subsets in omega arith

    next : (i : ℕ) → 1 + i ≡ i + 1
    next i = omega arith

pub returns : goal.returns
returns c =
    c.copy_bytes.ensures ∙ copied c.args.out.now c.args.subsets.now c.requires.subsets_len c.requires.in_bounds
