-- The map by the subsets of the entries, one entry after the other.
use Rattle.std.specs.Prelude.{ℕ, ◌+◌, ◌*◌, ◌≡◌, not, List, map, length, get_or, []}
use Rattle.std.proofs.Math.Path.{sym, ap}
use Rattle.std.proofs.Common.{◌∙◌}
use native.Mathlib.Omega.{arith}
use Rattle.std.proofs.Math.Dec.{eqb}
use Rattle.bits.specs.Pack.{pack-same}
use Rattle.bits.specs.Rising.{member}
use Rattle.bits.specs.Tab.{tab, tab-is, length-tab, get_or-tab}
use Rattle.membership.specs.Entries.{subset_of}
use Rattle.instantiation.specs.Instantiation.{lists_of, map_byte}
use Rattle.instantiation.specs.EntriesLaws.{list_at_lem}
use Rattle.instantiation.specs.SubsetBits.{bits_of, member-some}

-- ---- the lists that are not empty

pub bits-all : (es : List ℕ) → tab 32 (bits_of es) ≡ tab 32 (map_byte (lists_of es))
unfolding bits_of map_byte
bits-all es =
    tab-is 32 (map_byte (lists_of es)) 0 (tab 32 (bits_of es)) (length-tab 32 (bits_of es))
    (λ j below. get_or-tab 32 (bits_of es) j 0 below
    ∙ pack-same 8 (λ i. member (j * 8 + i) (map subset_of es)) (λ i. not (eqb (length (get_or (lists_of es) (j * 8 + i) [])) 0))
    (λ i inside. member-some (j * 8 + i) es ∙ ap (λ (l : List ℕ). not (eqb (length l) 0)) (sym (list_at_lem es (j * 8 + i) (omega arith)))))
