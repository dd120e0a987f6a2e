-- The reading of a list, resumed at attribute i of n: what it answers after one more attribute, at a refusal and at the end.
use Prim.Native.Nat.{ℕ, suc, ◌+◌, ◌-◌, ◌*◌, ◌/◌, ◌≤◌, ◌<◌, min}
use mathlib.Core.Path.{◌≡◌, refl, sym, ap, ◌∙◌}
use mathlib.Core.Bool.{Bool, true, false, not, ◌&&◌}
use mathlib.Core.List.{List}
use native.Mathlib.Nat.{sub-zero}
use native.Mathlib.Omega.{arith}
use borrow.Author.Tests.{ltb-true, ltb-false, lt-ltb, le-ltb, le-leb, ne_eqb}
use lib.Dec.{ltb}
use lib.ListN.{length, get_or}
use Rattle.refusal.specs.Chain.{refuse, refuse-stops, refuse-passes}
use Rattle.refusal.specs.declared.Refusal.TheVariants.{InputTruncated, ListedAttribute}
use Rattle.type_record.specs.Lists.{attribute_at, read_from, read_list}
use Rattle.type_record.specs.ListLaws.{read_next}
use Rattle.std.specs.Prelude.{Result, ℕ, Ok, Err}
use Rattle.refusal.specs.declared.Refusal.{Refusal}

-- the answer at attribute i: the reading resumed here while the attributes before it rise, and refusal 16 once one of them does not
abbrev resumed : List ℕ → ℕ → Bool → ℕ → ℕ → Result ℕ Refusal
resumed bytes n rises previous i = refuse Err (not rises) ListedAttribute (read_from bytes (n - i) i previous)

-- one more attribute, which is above the one before it or not
tested :
    (bytes : List ℕ) (n previous i : ℕ) (rises above : Bool)
    → i < n
    → i * 2 + 3 ≤ length bytes
    → ltb previous (attribute_at bytes i) ≡ above
    → resumed bytes n rises previous i ≡ resumed bytes n (rises && above) (attribute_at bytes i) (i + 1)
unfolding refuse read_from
tested bytes n previous i false above more enough e = refl
tested bytes n previous i true true more enough e =
    let left : n - i ≡ suc (n - (i + 1)) = omega arith in
    rw left (read_next bytes (n - (i + 1)) i previous enough (ltb-true _ _ e))
tested bytes n previous i true false more enough e =
    let left : n - i ≡ suc (n - (i + 1)) = omega arith in
    rw left
    (refuse-passes _ _ _ _ (le-ltb (length bytes) (i * 2 + 3) enough)
    ∙ refuse-stops _ _ _ _ (le-leb (attribute_at bytes i) previous (ltb-false _ _ e)))

-- where the loop stands before attribute i: of the n attributes `whole` are complete in the bytes
pub record Resumed (bytes : List ℕ) (n whole : ℕ) (rises : Bool) (previous i : ℕ) : Type 0 where
  pub complete : whole ≡ min n ((length bytes - 1) / 2)
  pub within : i ≤ whole
  pub answer : resumed bytes n rises previous i ≡ read_list bytes

pub resumed-start : (bytes : List ℕ) {whole : ℕ} → 1 ≤ length bytes → (get_or bytes 0 0 ≡ 0 → ⊥) →
    whole ≡ min (get_or bytes 0 0) ((length bytes - 1) / 2) → Resumed bytes (get_or bytes 0 0) whole true 15 0
unfolding refuse read_list
resumed-start bytes enough some complete =
    record {
      complete = complete;
      within = omega arith;
      answer = rw sub-zero (sym (refuse-passes _ _ _ _ (le-ltb (length bytes) 1 enough) ∙ refuse-passes _ _ _ _ (ne_eqb (get_or bytes 0 0) 0 some)));
    }

module _ {bytes : List ℕ} {n whole previous i : ℕ} {rises : Bool} (so_far : Resumed bytes n whole rises previous i) where
  pub resumed-next : i < whole → {a : ℕ} → a ≡ attribute_at bytes i → Resumed bytes n whole (rises && ltb previous a) a (i + 1)
  resumed-next more is =
      let complete = so_far.complete in
      record {
        complete = complete;
        within = omega arith;
        answer = rw is (sym (tested bytes n previous i rises _ (omega arith) (omega arith) refl) ∙ so_far.answer);
      }

  pub resumed-refused : not rises ≡ true → Err ListedAttribute ≡ read_list bytes
  resumed-refused one = sym (refuse-stops _ _ _ _ one) ∙ so_far.answer

  pub resumed-truncated : not rises ≡ false → whole ≤ i → whole < n → Err InputTruncated ≡ read_list bytes
  unfolding read_from
  resumed-truncated all over short =
      let complete = so_far.complete in
      let left : n - i ≡ suc (n - (i + 1)) = omega arith in
      let cut : length bytes < i * 2 + 3 = omega arith in
      sym (refuse-passes _ _ _ _ all ∙ rw left (refuse-stops _ _ _ _ (lt-ltb (length bytes) (i * 2 + 3) cut))) ∙ so_far.answer

  pub resumed-end : not rises ≡ false → whole ≤ i → n ≤ whole → Ok n ≡ read_list bytes
  unfolding read_from
  resumed-end all over full =
      let complete = so_far.complete in
      let none : n - i ≡ 0 = omega arith in
      let end : i ≡ n = omega arith in
      sym (refuse-passes _ _ _ _ all ∙ rw none (ap Ok end)) ∙ so_far.answer
