-- Laws of instantiations: what is read are lists, and writing and reading undo each other.
use Prim.Native.Nat.{ℕ, zero, suc, ◌+◌, ◌-◌, ◌*◌, ◌/◌, ◌%◌, ◌≤◌, ◌<◌}
use Rattle.std.specs.Prelude.{◌≡◌, eqb, length, drop}
use Rattle.std.proofs.Math.Path.{sym, ap}
use Rattle.std.proofs.Common.{ap₂, ◌∙◌, ne_eqb, length-append, length-take-le}
use Rattle.std.proofs.Math.Bool.{cond}
use mathlib.Core.List.{List, [], ◌++◌, append_assoc}
use native.Mathlib.Omega.{arith}
use Rattle.std.proofs.Math.ListN.{get_or, take, length-drop, take-append-drop, get_or-append}
use Rattle.std.proofs.Math.Seq.{get_or-take, get_or-drop, get_or-append-add, drop-drop, drop_at}
use Rattle.bits.specs.Bit.{bit}
use Rattle.bits.specs.Pack.{bit-pack, byte-is}
use Rattle.bits.specs.Rising.{Rising}
use Rattle.bits.specs.Tab.{tab, length-tab, get_or-tab, tab-is}
use Rattle.bits.specs.Word.{Bytes}
use Rattle.instantiation.specs.Instantiation.{standing, read_lists, subsets_of, lists_bytes, map_byte, instantiation_bytes}
use Rattle.instantiation.specs.ListsLaws.{some, all-at, at_all, ReadFrom, read-from, written_from}
use Rattle.refusal.specs.Several.{several_read as lists_read}

-- what lists can be: 256 of them, each rising from 16 on, at most 255 attributes of two bytes
pub record IsLists (ls : List (List ℕ)) : Type 0 where
  pub size : length ls ≡ 256
  pub rising : (s : ℕ) → Rising 15 (get_or ls s [])
  pub few : (s : ℕ) → length (get_or ls s []) ≤ 255
  pub below : (s i : ℕ) → get_or (get_or ls s []) i 0 < 65536

-- ---- reading

module _ (bytes : List ℕ) (ls : List (List ℕ)) (below : Bytes bytes) (enough : 47 ≤ length bytes) (e : read_lists bytes 256 0 (drop 47 bytes) ≡ lists_read ls) where
  read : ReadFrom bytes 256 0 (drop 47 bytes) ls
  read = read-from bytes 256 0 (drop 47 bytes) ls (λ i. rw get_or-drop (below (47 + i))) e

  -- what is read are lists
  pub lists-read : IsLists ls
  lists-read =
      record {
        size = read.size;
        rising = λ s. (all-at ls read.all s).rising;
        few = λ s. (all-at ls read.all s).few;
        below = λ s. (all-at ls read.all s).below;
      }

  -- the bits of the lists that are not empty stand, and no other
  pub lists-standing : (s : ℕ) → s < 256 → standing bytes s ≡ some (get_or ls s [])
  lists-standing s h = let same : 0 + s ≡ s = omega arith in ap (standing bytes) (sym same) ∙ read.stands s h

  -- ---- writing what was read

  subset-bytes : take 15 bytes ≡ tab 15 (λ i. get_or (subsets_of bytes) (i + 1) 0)
  unfolding subsets_of
  subset-bytes =
      tab-is 15 (λ i. get_or (subsets_of bytes) (i + 1) 0) 0 (take 15 bytes) (length-take-le 15 bytes (omega arith))
      (λ i h.
      let same : i + 1 - 1 ≡ i = omega arith in
      get_or-take 15 bytes i 0 h ∙ sym (get_or-tab 16 (λ i. cond (eqb i 0) 0 (get_or bytes (i - 1) 0)) (i + 1) 0 (omega arith) ∙ rw (ne_eqb (i + 1) 0 (λ z. omega arith), same)))

  map-bit : (j i : ℕ) → j < 32 → i < 8 → bit (get_or bytes (15 + j) 0) i ≡ some (get_or ls (j * 8 + i) [])
  map-bit j i hj hi =
      let byte : (0 + (j * 8 + i)) / 8 ≡ j = omega arith in
      let place : (0 + (j * 8 + i)) % 8 ≡ i = omega arith in
      ap₂ (λ (b p : ℕ). bit (get_or bytes (15 + b) 0) p) (sym byte) (sym place) ∙ read.stands (j * 8 + i) (omega arith)

  map-bytes : take 32 (drop 15 bytes) ≡ tab 32 (map_byte ls)
  unfolding map_byte
  map-bytes =
      let left = length-drop 15 bytes in
      tab-is 32 (map_byte ls) 0 (take 32 (drop 15 bytes)) (length-take-le 32 (drop 15 bytes) (omega arith))
      (λ j h. get_or-take 32 (drop 15 bytes) j 0 h ∙ get_or-drop 15 bytes j 0 ∙ byte-is (get_or bytes (15 + j) 0) (λ i. some (get_or ls (j * 8 + i) [])) (below (15 + j)) (λ i hi. map-bit j i h hi))

  -- writing what was read gives the same bytes
  pub lists-written : instantiation_bytes (subsets_of bytes) ls ≡ bytes
  unfolding instantiation_bytes
  lists-written =
      rw (← subset-bytes, ← map-bytes, read.written, ← drop-drop 32 15 bytes)
      (ap (λ (bs : List ℕ). take 15 bytes ++ bs) (take-append-drop 32 (drop 15 bytes)) ∙ take-append-drop 15 bytes)

-- ---- reading what was written

module _ (subsets : List ℕ) (ls : List (List ℕ)) where
  -- the 15 bytes of the special attributes
  abbrev front : List ℕ
  front = tab 15 (λ i. get_or subsets (i + 1) 0)

  -- the subsets, the map and the lists
  pub instantiation-parts : (tab 15 (λ i. get_or subsets (i + 1) 0) ++ tab 32 (map_byte ls)) ++ lists_bytes ls ≡ instantiation_bytes subsets ls
  unfolding instantiation_bytes
  instantiation-parts = append_assoc front (tab 32 (map_byte ls)) (lists_bytes ls)

  pub instantiation-length : length (instantiation_bytes subsets ls) ≡ 47 + length (lists_bytes ls)
  unfolding instantiation_bytes
  instantiation-length =
      let size = length-tab 15 (λ i. get_or subsets (i + 1) 0) in
      let all = length-tab 32 (map_byte ls) in
      rw (length-append, length-append) (omega arith)

  pub written-long : 47 ≤ length (instantiation_bytes subsets ls)
  written-long = let size = instantiation-length in omega arith

  written_after : drop 47 (instantiation_bytes subsets ls) ≡ lists_bytes ls
  unfolding instantiation_bytes
  written_after =
      sym (drop-drop 32 15 (front ++ (tab 32 (map_byte ls) ++ lists_bytes ls)))
      ∙ ap (drop 32) (drop_at front (tab 32 (map_byte ls) ++ lists_bytes ls) 15 (length-tab 15 (λ i. get_or subsets (i + 1) 0)))
      ∙ drop_at (tab 32 (map_byte ls)) (lists_bytes ls) 32 (length-tab 32 (map_byte ls))

  -- byte j of the map
  written-map : (j : ℕ) → j < 32 → get_or (instantiation_bytes subsets ls) (15 + j) 0 ≡ map_byte ls j
  unfolding instantiation_bytes
  written-map j h =
      let size = length-tab 15 (λ i. get_or subsets (i + 1) 0) in
      let all = length-tab 32 (map_byte ls) in
      ap (λ (n : ℕ). get_or (front ++ (tab 32 (map_byte ls) ++ lists_bytes ls)) (n + j) 0) (sym size)
      ∙ get_or-append-add front (tab 32 (map_byte ls) ++ lists_bytes ls) j 0
      ∙ get_or-append (tab 32 (map_byte ls)) (lists_bytes ls) 0 j (omega arith)
      ∙ get_or-tab 32 (map_byte ls) j 0 h

  -- the bits of the lists that are not empty stand
  written_stands : (s : ℕ) → s < 256 → standing (instantiation_bytes subsets ls) s ≡ some (get_or ls s [])
  unfolding map_byte
  written_stands s h =
      let place : s / 8 * 8 + s % 8 ≡ s = omega arith in
      ap (λ (x : ℕ). bit x (s % 8)) (written-map (s / 8) (omega arith))
      ∙ bit-pack 8 (λ i. some (get_or ls (s / 8 * 8 + i) [])) (s % 8) (omega arith)
      ∙ ap (λ (n : ℕ). some (get_or ls n [])) place

  -- reading what was written gives the same lists
  pub written-lists : IsLists ls → read_lists (instantiation_bytes subsets ls) 256 0 (drop 47 (instantiation_bytes subsets ls)) ≡ lists_read ls
  written-lists is =
      let size = is.size in
      let all = at_all ls (λ s. record { rising = is.rising s; few = is.few s; below = is.below s }) in
      rw (written_after, ← size)
      (written_from (instantiation_bytes subsets ls) ls 0 all (λ i h. let same : 0 + i ≡ i = omega arith in rw same (written_stands i (omega arith))))

  -- and the same subsets
  pub written-subsets : length subsets ≡ 16 → get_or subsets 0 0 ≡ 0 → subsets_of (instantiation_bytes subsets ls) ≡ subsets
  unfolding subsets_of instantiation_bytes
  written-subsets size none = sym (tab-is 16 (λ i. cond (eqb i 0) 0 (get_or (instantiation_bytes subsets ls) (i - 1) 0)) 0 subsets size each)
    where
      each : (i : ℕ) → i < 16 → get_or subsets i 0 ≡ cond (eqb i 0) 0 (get_or (instantiation_bytes subsets ls) (i - 1) 0)
      each zero h = none
      each (suc i) h =
          let before : suc i - 1 ≡ i = omega arith in
          let next : i + 1 ≡ suc i = omega arith in
          let whole = length-tab 15 (λ i. get_or subsets (i + 1) 0) in
          rw (ne_eqb (suc i) 0 (λ z. omega arith), before)
          (sym
          (get_or-append front (tab 32 (map_byte ls) ++ lists_bytes ls) 0 i (omega arith)
          ∙ get_or-tab 15 (λ i. get_or subsets (i + 1) 0) i 0 (omega arith)
          ∙ ap (λ (n : ℕ). get_or subsets n 0) next))
