-- Lists whose first elements are the same: rows of costs, and columns that allow the same.
use Rattle.std.specs.Prelude.{ℕ, ◌+◌, ◌/◌, ◌%◌, ◌≤◌, ◌<◌, ◌≡◌, refl, Bool, true, false, cond, List, eqb, get_or}
use Rattle.std.proofs.Common.{sym, ap, ◌∙◌, arith, eq-eqb, ne_eqb, eqb-true}
use Rattle.std.proofs.lemmas.Bool.{eqb-false}
use Rattle.bits.specs.AllBelow.{all_below, all_in, all-next, not-all, all-fails}
use Rattle.bits.specs.Bit.{bit}
use Rattle.column.specs.Column.{allowed_in}
use Rattle.column.specs.ColumnLaws.{allowed-bit}

-- the first n elements of both are the same
unfoldable pub alike : ℕ → List ℕ → List ℕ → Bool
alike n xs ys = all_below n (λ i. eqb (get_or xs i 0) (get_or ys i 0))

pub alike_is : (n : ℕ) (xs ys : List ℕ) → alike n xs ys ≡ all_below n (λ i. eqb (get_or xs i 0) (get_or ys i 0))
unfolding alike
alike_is n xs ys = refl

-- counted: where none of the first i differ, and one element more
pub alike_next : (i : ℕ) (xs ys : List ℕ) (count : ℕ) → eqb count 0 ≡ alike i xs ys → eqb (count + cond (eqb (get_or xs i 0) (get_or ys i 0)) 0 1) 0 ≡ alike (i + 1) xs ys
alike_next i xs ys count is = go (eqb (get_or xs i 0) (get_or ys i 0)) refl (alike i xs ys) refl
  where
    go : (t : Bool) → eqb (get_or xs i 0) (get_or ys i 0) ≡ t → (u : Bool) → alike i xs ys ≡ u → eqb (count + cond t 0 1) 0 ≡ alike (i + 1) xs ys
    go true here true before =
        let none = eqb-true count 0 (is ∙ before) in
        eq-eqb (count + 0) 0 (omega arith) ∙ sym (alike_is (i + 1) xs ys ∙ all-next i (λ j. eqb (get_or xs j 0) (get_or ys j 0)) (sym (alike_is i xs ys) ∙ before) here)
    go true here false before =
        let other = all-fails i (λ j. eqb (get_or xs j 0) (get_or ys j 0)) (sym (alike_is i xs ys) ∙ before) in
        let less = other.1.0 in
        ne_eqb (count + 0) 0 (λ e. eqb-false count 0 (is ∙ before) (omega arith)) ∙ sym (alike_is (i + 1) xs ys ∙ not-all (i + 1) (λ j. eqb (get_or xs j 0) (get_or ys j 0)) other.0 (omega arith) other.1.1)
    go false here u before = ne_eqb (count + 1) 0 (λ e. omega arith) ∙ sym (alike_is (i + 1) xs ys ∙ not-all (i + 1) (λ j. eqb (get_or xs j 0) (get_or ys j 0)) i (omega arith) here)

pub alike_at : (n : ℕ) (xs ys : List ℕ) → alike n xs ys ≡ true → (i : ℕ) → i < n → get_or xs i 0 ≡ get_or ys i 0
alike_at n xs ys same i h = eqb-true (get_or xs i 0) (get_or ys i 0) (all_in n (λ i. eqb (get_or xs i 0) (get_or ys i 0)) (sym (alike_is n xs ys) ∙ same) i h)

-- columns whose first 32 bytes are the same allow the same
pub alike-allowed : (column other : List ℕ) → alike 32 column other ≡ true → (s : ℕ) → s < 256 → allowed_in column s ≡ allowed_in other s
alike-allowed column other same s h =
    allowed-bit column s
    ∙ ap (λ (x : ℕ). bit x (s % 8)) (alike_at 32 column other same (s / 8) (omega arith))
    ∙ sym (allowed-bit other s)

-- one difference at most in each place
pub one_at_most : (b : Bool) → cond b 0 1 ≤ 1
one_at_most true = omega arith
one_at_most false = omega arith

pub alike-none : (xs ys : List ℕ) → eqb 0 0 ≡ alike 0 xs ys
alike-none xs ys = sym (alike_is 0 xs ys)
