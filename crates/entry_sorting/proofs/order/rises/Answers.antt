use Rattle.std.proofs.Common.{ℕ, zero, suc, List, [], ◌∷◌, Bool, true, false, cond, ltb, leb, length, get_or, ◌≡◌, ◌/◌, ◌≤◌, ◌<◌, sym, refl, arith, rules, add-one, le-leb}
use Rattle.std.specs.List.{IsAllAdjacentAnswer}
use Rattle.std.proofs.lemmas.Bool.{lt-leb, ltb-true, ltb-false}
use Rattle.std.proofs.lemmas.List.Sorted.{answers_always}
use Rattle.membership.specs.Entries.{attribute_of}
use Rattle.entry_sorting.specs.Order.{ascending, ascending_from}
use Rattle.entry_sorting.proofs.order.rises.Goals as goal

up : (e : ℕ) (es : List ℕ) → ((k : ℕ) → k < length es → attribute_of (get_or (e ∷ es) k 0) < attribute_of (get_or es k 0)) → ascending_from (attribute_of e) es ≡ true
up e [] all = refl
up e (f ∷ es) all = rw (lt-leb (attribute_of f) (attribute_of e) (all 0 (omega arith))) (up f es (λ k h. all (suc k) (omega arith)))

down : (e : ℕ) (es : List ℕ) (k : ℕ) → k < length es → attribute_of (get_or es k 0) ≤ attribute_of (get_or (e ∷ es) k 0) → ascending_from (attribute_of e) es ≡ false
down e [] k inside stop = absurd (omega arith)
down e (f ∷ es) zero inside stop = rw (le-leb (attribute_of f) (attribute_of e) stop)
down e (f ∷ es) (suc k) inside stop = go (leb (attribute_of f) (attribute_of e)) (down f es k (omega arith) stop)
  where
    go : (t : Bool) → ascending_from (attribute_of f) es ≡ false → cond t false (ascending_from (attribute_of f) es) ≡ false
    go true rest = refl
    go false rest = rest

risen : (es : List ℕ) (r : Bool) → IsAllAdjacentAnswer (λ x y b. b ≡ ltb (x / 256) (y / 256)) es r → r ≡ ascending es
unfolding ascending
risen [] true h = refl
risen [] false h = let inside = h.1 in absurd (omega arith)
risen (e ∷ es) true h = sym (up e es (λ k less. ltb-true _ _ (sym (rw (add-one k) at (h k 0 (omega arith))))))
risen (e ∷ es) false h = let inside = h.1 in sym (down e es h.0 (omega arith) (ltb-false _ _ (sym (rw (add-one h.0) at (h.2 0)))))

pub returns : goal.returns
returns c = risen _ _ (c.is_sorted_by.ensures.cases (λ x y. ltb (x / 256) (y / 256)) (answers_always _ _ _ (λ f a r f' h. search rules)))
