-- A list that is written from the front: the first p elements are those of a function, the rest is as it was.
use Rattle.std.specs.Prelude.{ℕ, ◌+◌, ◌≤◌, ◌<◌, ◌≡◌, refl, List, length, get_or, set}
use Rattle.std.proofs.Common.{sym, ap, ◌∙◌, ⊎_elim, eq-or-lt_of_le, arith, length-set, get_or-set_same, get_or-set_other}
use Rattle.bits.specs.Tab.{tab, length-tab, get_or-tab, tab-is, over, over-is}

-- the first p elements of `now` are those of f, the rest is as in `old`
pub record Written (f : ℕ → ℕ) (p : ℕ) (old now : List ℕ) : Type 0 where
  pub size : length now ≡ length old
  pub front : (i : ℕ) → i < p → get_or now i 0 ≡ f i
  pub back : (i : ℕ) → p ≤ i → get_or now i 0 ≡ get_or old i 0

pub written_none : (f : ℕ → ℕ) (old : List ℕ) → Written f 0 old old
written_none f old = record { size = refl; front = λ i h. absurd (omega arith); back = λ i h. refl }

pub written-self : (f : ℕ → ℕ) (p : ℕ) (old now : List ℕ) → Written f p old now → Written f p now now
written-self f p old now w = record { size = refl; front = w.front; back = λ i h. refl }

-- what is written on, from a list that was written before
pub written-again : (f : ℕ → ℕ) (p q : ℕ) (old mid now : List ℕ) → p ≤ q → Written f p old mid → Written f q mid now → Written f q old now
written-again f p q old mid now h before after =
    record {
      size = after.size ∙ before.size;
      front = after.front;
      back = λ i above. after.back i above ∙ before.back i (omega arith);
    }

-- one element more
pub written-more : (f : ℕ → ℕ) (p : ℕ) (old now : List ℕ) (v : ℕ) → p < length now → Written f p old now → v ≡ f p → Written f (p + 1) old (set now p v)
written-more f p old now v inside w e =
    record {
      size = length-set now p v ∙ w.size;
      front = λ i h. ⊎_elim (λ same. here i same) (λ before. get_or-set_other now p i v 0 (λ k. omega arith) ∙ w.front i before) (eq-or-lt_of_le (le_of i h));
      back = λ i h. get_or-set_other now p i v 0 (λ k. omega arith) ∙ w.back i (omega arith);
    }
  where
    le_of : (i : ℕ) → i < p + 1 → i ≤ p
    le_of i h = omega arith

    here : (i : ℕ) → i ≡ p → get_or (set now p v) i 0 ≡ f i
    here i same = ap (λ (k : ℕ). get_or (set now p v) k 0) same ∙ get_or-set_same now p v 0 inside ∙ e ∙ ap f (sym same)

-- the whole
pub written_all : (f : ℕ → ℕ) (n : ℕ) (old now : List ℕ) → n ≤ length old → Written f n old now → now ≡ over (tab n f) old
written_all f n old now fits w =
    let size = length-tab n f in
    over-is (tab n f) old now 0 (omega arith) w.size
    (λ i h. let below : i < n = omega arith in w.front i below ∙ sym (get_or-tab n f i 0 below))
    (λ i h. w.back i (omega arith))

-- a list of n elements, written whole
pub written-whole : (f : ℕ → ℕ) (n : ℕ) (old now : List ℕ) → length old ≡ n → Written f n old now → now ≡ tab n f
written-whole f n old now size w = tab-is n f 0 now (w.size ∙ size) w.front
