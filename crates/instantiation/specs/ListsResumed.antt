-- The reading of an instantiation's lists, resumed at subset s and byte `at`: after one more list, where bits are
-- clear, at a refusal and at the end.
use Rattle.std.specs.Prelude.{ℕ, suc, ◌+◌, ◌-◌, ◌*◌, ◌/◌, ◌%◌, ◌^◌, ◌≤◌, ◌<◌, ◌≡◌, refl, true, false, List, [], ◌∷◌, ◌++◌, length, get_or, take, drop, Result, Ok, Err}
use Rattle.std.proofs.Common.{sym, ap, ◌∙◌, length-append, length-drop, drop_of_length-le, pow_pos, pow_mono, drop-drop, drop-cons, get_or-drop}
use Rattle.std.proofs.Math.Nat.{lt-div-mul-add}
use native.Mathlib.Omega.{arith}
use Rattle.bits.specs.Bit.{bit-above}
use Rattle.bits.specs.Part.{part-from}
use Rattle.bits.specs.Tab.{tab}
use Rattle.bits.specs.Word.{word, Bytes}
use Rattle.refusal.specs.declared.Refusal.{Refusal}
use Rattle.refusal.specs.declared.Refusal.TheVariants.{InputFollowed}
use Rattle.refusal.specs.Several.{several_refused as lists_refused, several_read as lists_read, precede, at_end, precede_all, precede-more, precede-refused, precede-none}
use Rattle.type_record.specs.Lists.{read_list, listed}
use Rattle.type_record.specs.ListLaws.{HoldsList, list-holds, listed-tab}
use Rattle.membership.specs.Entries.{ListFits}
use Rattle.instantiation.specs.Instantiation.{standing, follow, read_lists}
use Rattle.instantiation.specs.ReadStep.{read-clear, read-stands}

pub record Walk (bytes : List ℕ) (at s : ℕ) : Type 0 where
  -- the lists of the subsets before s
  pub done : List (List ℕ)
  pub count : length done ≡ s
  pub most : s ≤ 256
  pub inside : at ≤ length bytes
  pub rest : read_lists bytes 256 0 (drop 47 bytes) ≡ precede_all done (read_lists bytes (256 - s) s (drop at bytes))

abbrev pub walk_start : (bytes : List ℕ) → 47 ≤ length bytes → Walk bytes 47 0
walk_start bytes enough = record { done = []; count = refl; most = omega arith; inside = enough; rest = refl }

-- ---- clear bits

-- the bits that are left of a byte of the map are clear
pub rest-clear : (bytes : List ℕ) (s : ℕ) → ◌≡◌ {A = ℕ} (get_or bytes (15 + s / 8) 0 / 2 ^ (s % 8)) 0 → (i : ℕ) → s % 8 + i < 8 → standing bytes (s + i) ≡ false
rest-clear bytes s none i inside =
    let byte : (s + i) / 8 ≡ s / 8 = omega arith in
    let place : (s + i) % 8 ≡ s % 8 + i = omega arith in
    let least = lt-div-mul-add {a = get_or bytes (15 + s / 8) 0} {b = 2 ^ (s % 8)} (pow_pos (s % 8)) in
    let below = rw none at least in
    let more = pow_mono {i = s % 8} {j = s % 8 + i} (omega arith) in
    rw (byte, place) (bit-above (get_or bytes (15 + s / 8) 0) (s % 8 + i) (omega arith))

module _ {bytes : List ℕ} {at s : ℕ} (w : Walk bytes at s) where
  pub none_more : s < 256 → standing bytes s ≡ false →
      read_lists bytes (256 - s) s (drop at bytes) ≡ precede [] (read_lists bytes (256 - (s + 1)) (s + 1) (drop at bytes))
  none_more more clear =
      let left : 256 - s ≡ suc (256 - (s + 1)) = omega arith in
      rw left (read-clear bytes (256 - (s + 1)) s (drop at bytes) clear)

  -- one list more
  pub more-lists : (l : List ℕ) → length (w.done ++ (l ∷ [])) ≡ s + 1
  more-lists l = let c = w.count in let whole = length-append w.done (l ∷ []) in omega arith

  abbrev pub walk-clear : s < 256 → standing bytes s ≡ false → Walk bytes at (s + 1)
  walk-clear more clear =
      record {
        done = w.done ++ ([] ∷ []);
        count = more-lists [];
        most = omega arith;
        inside = w.inside;
        rest = w.rest ∙ ap (precede_all w.done) (none_more more clear) ∙ precede-more w.done [] (read_lists bytes (256 - (s + 1)) (s + 1) (drop at bytes));
      }

  -- ---- a list

  -- the list at `at` as the code reads it
  abbrev pub Reads : Result ℕ Refusal → Type 0
  Reads x = read_list (take (length bytes - at) (drop at bytes)) ≡ x

  pub one_more : (x : Result ℕ Refusal) → s < 256 → standing bytes s ≡ true → Reads x →
      read_lists bytes (256 - s) s (drop at bytes) ≡ follow x (drop at bytes) (read_lists bytes (256 - (s + 1)) (s + 1))
  one_more x more stands e =
      let left : 256 - s ≡ suc (256 - (s + 1)) = omega arith in
      let reading : read_list (drop at bytes) ≡ x = rw part-from at e in
      rw (left, ← reading) (read-stands bytes (256 - (s + 1)) s (drop at bytes) stands)

  pub walk_refused : {x : Refusal} → s < 256 → standing bytes s ≡ true → Reads (Err x) → read_lists bytes 256 0 (drop 47 bytes) ≡ lists_refused x
  walk_refused {x} more stands e = w.rest ∙ ap (precede_all w.done) (one_more (Err x) more stands e) ∙ precede-refused w.done x

  module _ {n : ℕ} (below : Bytes bytes) (e : Reads (Ok n)) where
    after : Bytes (drop at bytes)
    after i = rw get_or-drop (below (at + i))

    holds : HoldsList (drop at bytes) n
    holds = list-holds (drop at bytes) n (rw part-from at e)

    -- its bytes
    pub list_inside : (n ≤ 255) × (at + (n * 2 + 1) ≤ length bytes)
    list_inside =
        let count = holds.count in
        let first = after 0 in
        let fits = holds.fits in
        let left = length-drop at bytes in
        let inside = w.inside in
        (omega arith, omega arith)

    pub list-fits : ListFits n (take (length bytes - at) (drop at bytes))
    list-fits i some = let fits = holds.fits in rw part-from (omega arith)

    -- its attributes, as the code has them
    pub attributes-are : tab n (λ x. word (take (length bytes - at) (drop at bytes)) (x * 2 + 1)) ≡ listed n (drop at bytes)
    attributes-are = rw (part-from bytes at) (sym (listed-tab (drop at bytes) n))

    abbrev pub walk-next : s < 256 → standing bytes s ≡ true → Walk bytes (at + (n * 2 + 1)) (s + 1)
    walk-next more stands =
        record {
          done = w.done ++ (listed n (drop at bytes) ∷ []);
          count = more-lists (listed n (drop at bytes));
          most = omega arith;
          inside = list_inside.1;
          rest =
              w.rest
              ∙ ap (precede_all w.done) (one_more (Ok n) more stands e)
              ∙ precede-more w.done (listed n (drop at bytes)) (read_lists bytes (256 - (s + 1)) (s + 1) (drop (n * 2 + 1) (drop at bytes)))
              ∙ rw (drop-drop (n * 2 + 1) at bytes);
        }

  -- ---- after all 256 subsets

  module _ (last : 256 ≤ s) where
    ended : read_lists bytes 256 0 (drop 47 bytes) ≡ precede_all w.done (at_end InputFollowed (drop at bytes))
    unfolding read_lists
    ended =
        let none : 256 - s ≡ 0 = omega arith in
        w.rest ∙ rw none

    -- 17: bytes follow the last list
    pub walk-followed : at < length bytes → read_lists bytes 256 0 (drop 47 bytes) ≡ lists_refused InputFollowed
    walk-followed more = ended ∙ ap (λ (l : List ℕ). precede_all w.done (at_end InputFollowed l)) (drop-cons bytes at 0 more)
        ∙ precede-refused w.done InputFollowed

    pub walk_end : length bytes ≤ at → read_lists bytes 256 0 (drop 47 bytes) ≡ lists_read w.done
    walk_end none = ended ∙ ap (λ (l : List ℕ). precede_all w.done (at_end InputFollowed l)) (drop_of_length-le bytes none) ∙ precede-none w.done

    -- where the lists are read, these are they
    pub walk-read : {ls : List (List ℕ)} → read_lists bytes 256 0 (drop 47 bytes) ≡ lists_read ls → w.done ≡ ls
    walk-read {ls} read = go (drop at bytes) (sym ended ∙ read)
      where
        go : (l : List ℕ) → precede_all w.done (at_end InputFollowed l) ≡ lists_read ls → w.done ≡ ls
        go [] h = let same = sym (precede-none w.done) ∙ h in cc
        go (b ∷ l) h = let same = sym (precede-refused w.done InputFollowed) ∙ h in absurd (let z : ◌≡◌ {A = ℕ} 0 1 = cc in omega arith)
