-- The three parts of an instantiation, each written after the one before it, and the whole.
use Prim.Native.Nat.{ℕ, ◌+◌, ◌-◌, ◌≤◌}
use mathlib.Core.Path.{◌≡◌, sym, ap, subst, ◌∙◌}
use mathlib.Core.List.{List, ◌++◌}
use native.Mathlib.Omega.{arith}
use borrow.Rule.Slice.PartMut.{put_mid, mid_of}
use lib.ListN.{length, get_or, take, length-append}
use lib.Seq.{length-take-le}
use Rattle.bits.specs.Part.{over-more}
use Rattle.bits.specs.Tab.{tab, length-tab, over}
use Rattle.entry_sorting.specs.Passes.{pass-fit}
use Rattle.entry_sorting.specs.SortedLaws.{RisingSubsets, subset-rising}
use Rattle.entry_sorting.specs.Sorting.{by_digit}
use Rattle.instantiation.specs.Instantiation.{lists_of, map_byte, lists_bytes, instantiation_bytes, WritesFrom}
use Rattle.instantiation.specs.EntriesLaws.{lists-most}
use Rattle.instantiation.specs.ReadLaws.{instantiation-parts, instantiation-length}
use Rattle.instantiation.specs.Runs.{BySubset, sorted-lists-of}

-- what a part gives in the whole, where so many bytes stand before it
part-over : (at : ℕ) (a b old out part : List ℕ) → length a ≡ at → out ≡ over a old → part ≡ over b (mid_of at (length out - at) out) →
    put_mid at (length out - at) out part ≡ over (a ++ b) old
part-over at a b old out part size before is = rw (is, ← size) (over-more a b old out before)

abbrev special : List ℕ → List ℕ
special subsets = tab 15 (λ i. get_or subsets (i + 1) 0)

-- ---- the entries by subset

module _ {subsets : List ℕ} (items : List ℕ) (count : ℕ) (w : WritesFrom subsets items count) (spare : List ℕ)
    (sorted : take count spare ≡ by_digit 1 (take count items)) where
  pub by-subset : count ≤ length spare → BySubset spare count
  by-subset enough =
      record {
        few = w.few;
        fit = pass-fit w.fit 1 enough sorted;
        rising = subst (RisingSubsets 0) (sym sorted) (subset-rising (take count items));
      }

  pub same_lists : lists_of (take count spare) ≡ lists_of (take count items)
  same_lists = ap lists_of sorted ∙ sorted-lists-of (take count items)

-- ---- the parts

module _ (old subsets : List ℕ) (ls : List (List ℕ)) {out : List ℕ} (out-is : out ≡ over (special subsets) old) where
  module _ {map : List ℕ} (map-written : map ≡ over (tab 32 (map_byte ls)) (mid_of 15 (length out - 15) out)) where
    head-length : length (special subsets ++ tab 32 (map_byte ls)) ≡ 47
    head-length =
        let a = length-tab 15 (λ i. get_or subsets (i + 1) 0) in
        let b = length-tab 32 (map_byte ls) in
        let both = length-append (special subsets) (tab 32 (map_byte ls)) in
        omega arith

    head-is : put_mid 15 (length out - 15) out map ≡ over (special subsets ++ tab 32 (map_byte ls)) old
    head-is = part-over 15 (special subsets) (tab 32 (map_byte ls)) old out map (length-tab 15 (λ i. get_or subsets (i + 1) 0)) out-is map-written

    pub whole-written :
        {lists : List ℕ} {written : List (List ℕ)}
        → written ≡ ls
        → lists
        ≡ over (lists_bytes written) (mid_of 47 (length (put_mid 15 (length out - 15) out map) - 47) (put_mid 15 (length out - 15) out map))
        → put_mid 47 (length (put_mid 15 (length out - 15) out map) - 47) (put_mid 15 (length out - 15) out map) lists
        ≡ over (instantiation_bytes subsets ls) old
    whole-written {lists} same lists-written =
        part-over 47 (special subsets ++ tab 32 (map_byte ls)) (lists_bytes ls) old (put_mid 15 (length out - 15) out map) lists head-length
        head-is (rw same at lists-written)
        ∙ ap (λ (l : List ℕ). over l old) (instantiation-parts subsets ls)

pub whole_length : {n : ℕ} (subsets : List ℕ) (ls : List (List ℕ)) {written : List (List ℕ)} → written ≡ ls →
    n ≡ length (lists_bytes written) → 47 + n ≡ length (instantiation_bytes subsets ls)
whole_length {n} subsets ls same n-is =
    let size = n-is ∙ ap (λ (l : List (List ℕ)). length (lists_bytes l)) same in
    let whole = instantiation-length subsets ls in
    omega arith

pub lists-short : {subsets : List ℕ} (items : List ℕ) (count : ℕ) {written : List (List ℕ)} → WritesFrom subsets items count →
    written ≡ lists_of (take count items) → length (lists_bytes written) ≤ 765
lists-short items count w same =
    let most = lists-most (take count items) in
    let taken = length-take-le count items w.fit.enough in
    let few = w.few in
    let size = ap (λ (ls : List (List ℕ)). length (lists_bytes ls)) same in
    omega arith
