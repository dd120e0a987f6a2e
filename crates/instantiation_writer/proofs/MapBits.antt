-- How the map is written: the bits of the subsets of the entries before i stand.
use Prim.Native.Nat.{ℕ, suc, ◌+◌, ◌*◌, ◌/◌, ◌%◌, ◌^◌, ◌≤◌, ◌<◌}
use mathlib.Core.Path.{◌≡◌, refl, sym, ap, ◌∙◌}
use mathlib.Core.List.{List}
use native.Mathlib.Decide.{ℕ_discrete}
use native.Mathlib.Numerals.{add-one}
use native.Mathlib.Omega.{arith}
use lib.Bits.{bit_or}
use lib.ListN.{length, get_or, set, take, length-set}
use lib.Seq.{get_or-take, get_or-set_same, get_or-set_other, length-take-le, take_all}
use Rattle.bits.specs.Tab.{tab, length-tab, get_or-tab, over, over-front, over-covered}
use Rattle.bits.specs.Written.{Written, written_all}
use Rattle.instantiation.specs.Instantiation.{lists_of, map_byte}
use Rattle.instantiation.specs.SubsetBits.{bits_of, bits_none, bits-here, bits-other}
use Rattle.instantiation.proofs.SubsetBits.{bits-all}

pub record Mapping (es old out : List ℕ) (i : ℕ) : Type 0 where
  pub up_to : i ≤ length es
  pub written : Written (bits_of (take i es)) 32 old out

pub mapping-none : (es old : List ℕ) → ((j : ℕ) → j < 32 → get_or old j 0 ≡ 0) → Mapping es old old 0
mapping-none es old clear = record { up_to = omega arith; written = record { size = refl; front = λ j h. clear j h ∙ sym (bits_none j); back = λ j h. refl } }

module _ (items : List ℕ) (count : ℕ) (enough : count ≤ length items) {old out : List ℕ} {i : ℕ} (room : 32 ≤ length old)
    (m : Mapping (take count items) old out i) where
  all : length (take count items) ≡ count
  all = length-take-le count items enough

  pub mapping-next : {s : ℕ} → i < count → s ≡ get_or items i 0 % 256 →
      Mapping (take count items) old (set out (s / 8) (bit_or (get_or out (s / 8) 0) (1 * 2 ^ (s % 8) % 256))) (i + 1)
  mapping-next {s} inside is =
      let size = all in
      record {
        up_to = omega arith;
        written =
            rw (add-one i)
            (record {
              size = length-set out (s / 8) _
                  ∙ m.written.size;
              front = λ j h. front j h (ℕ_discrete j (s / 8));
              back = λ j h. get_or-set_other out (s / 8) j _ 0 (λ e. omega arith)
                  ∙ m.written.back j h;
            });
      }
    where
      own : s ≡ get_or (take count items) i 0 % 256
      own = is ∙ ap (λ (e : ℕ). e % 256) (sym (get_or-take count items i 0 inside))

      within : i < length (take count items)
      within = let size = all in omega arith

      front : (j : ℕ) → j < 32 → Dec (j ≡ s / 8) →
          get_or (set out (s / 8) (bit_or (get_or out (s / 8) 0) (1 * 2 ^ (s % 8) % 256))) j 0 ≡ bits_of (take (suc i) (take count items)) j
      front j h (yes same) =
          let size = m.written.size in
          rw same
          (get_or-set_same out (s / 8) (bit_or (get_or out (s / 8) 0) (1 * 2 ^ (s % 8) % 256)) 0 (omega arith)
          ∙ ap (λ (x : ℕ). bit_or x (1 * 2 ^ (s % 8) % 256)) (m.written.front (s / 8) (omega arith))
          ∙ bits-here (take count items) i within own)
      front j h (no other) =
          get_or-set_other out (s / 8) j (bit_or (get_or out (s / 8) 0) (1 * 2 ^ (s % 8) % 256)) 0 other ∙ m.written.front j h
          ∙ bits-other (take count items) i within own j other

  pub mapping-end : count ≤ i → out ≡ over (tab 32 (map_byte (lists_of (take count items)))) old
  mapping-end last =
      let size = all in
      let up_to = m.up_to in
      written_all (bits_of (take i (take count items))) 32 old out room m.written
      ∙ ap (λ (l : List ℕ). over (tab 32 (bits_of l)) old) (take_all i (take count items) (omega arith))
      ∙ ap (λ (l : List ℕ). over l old) (bits-all (take count items))

-- ---- a map that was cleared

pub cleared : (old out : List ℕ) → out ≡ over (tab 32 (λ j. 0)) old → (j : ℕ) → j < 32 → get_or out j 0 ≡ 0
cleared old out is j h =
    let size = length-tab {A = ℕ} 32 (λ j. 0) in
    ap (λ (l : List ℕ). get_or l j 0) is ∙ over-front (tab 32 (λ j. 0)) old j 0 (omega arith) ∙ get_or-tab 32 (λ j. 0) j 0 h

-- what is written over it
pub over-cleared : (f : ℕ → ℕ) (old out map : List ℕ) → out ≡ over (tab 32 (λ j. 0)) old → map ≡ over (tab 32 f) out → map ≡ over (tab 32 f) old
over-cleared f old out map out-is map_is =
    map_is ∙ ap (over (tab 32 f)) out-is
    ∙ over-covered (tab 32 f) (tab 32 (λ j. 0)) old (length-tab {A = ℕ} 32 (λ j. 0) ∙ sym (length-tab 32 f))
