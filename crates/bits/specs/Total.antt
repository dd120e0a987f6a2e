-- Sums over the numbers below a bound, and how many of them pass a test.
use Rattle.std.specs.Prelude.{ℕ, zero, suc, ◌+◌, ◌*◌, ◌/◌, ◌%◌, ◌^◌, ◌≤◌, ◌<◌, ◌≡◌, refl, Bool, true, false, cond, ◌⊎◌, eqb}
use Rattle.std.proofs.Common.{sym, ap, ap₂, ◌∙◌, inl, inr, ⊎_elim, add_assoc, add-zero, zero-mul, suc-mul, eq-or-lt_of_le, le_of_suc-le-suc, mod-lt, pow-suc, add-one, arith, eq-eqb, ne_eqb, lit<}
use Rattle.std.proofs.Math.Decide.{dec_lt}
use Rattle.std.proofs.Math.Arith.{lt-one}
use Rattle.std.specs.Int.Count.{ones, ones_step, ones-ones}
use Rattle.bits.specs.Bit.{bit, bit-first, bit-next}
use Rattle.bits.specs.Booleans.{clash}

-- the sum of f over the numbers below n
unfoldable pub total : ℕ → (ℕ → ℕ) → ℕ
total zero f = 0
total (suc n) f = total n f + f n

-- how many numbers below n pass
abbrev pub count : ℕ → (ℕ → Bool) → ℕ
count n test = total n (λ i. cond (test i) 1 0)

-- ---- one number more

pub total-none : (f : ℕ → ℕ) → total 0 f ≡ 0
unfolding total
total-none f = refl

pub total-next : (n : ℕ) (f : ℕ → ℕ) → total (n + 1) f ≡ total n f + f n
unfolding total
total-next n f = ap (λ (k : ℕ). total k f) (add-one n)

-- the first apart from the others
pub total-front : (n : ℕ) (f : ℕ → ℕ) → total (suc n) f ≡ f 0 + total n (λ i. f (suc i))
unfolding total
total-front zero f = omega arith
total-front (suc n) f = ap (λ (x : ℕ). x + f (suc n)) (total-front n f) ∙ add_assoc (f 0) (total n (λ i. f (suc i))) (f (suc n))

-- ---- two sums, number by number

pub total-same : (n : ℕ) (f g : ℕ → ℕ) → ((i : ℕ) → i < n → f i ≡ g i) → total n f ≡ total n g
unfolding total
total-same zero f g e = refl
total-same (suc n) f g e = ap₂ (λ (x y : ℕ). x + y) (total-same n f g (λ i h. e i (omega arith))) (e n (omega arith))

pub total-most : (n : ℕ) (f g : ℕ → ℕ) → ((i : ℕ) → i < n → f i ≤ g i) → total n f ≤ total n g
unfolding total
total-most zero f g e = omega arith
total-most (suc n) f g e =
    let rest = total-most n f g (λ i h. e i (omega arith)) in
    let last = e n (omega arith) in
    omega arith

pub total-both : (n : ℕ) (f g : ℕ → ℕ) → total n (λ i. f i + g i) ≡ total n f + total n g
unfolding total
total-both zero f g = refl
total-both (suc n) f g = let rest = total-both n f g in omega arith

-- one number, so many times
pub total-each : (n c : ℕ) → total n (λ i. c) ≡ n * c
unfolding total
total-each zero c = sym (zero-mul c)
total-each (suc n) c = ap (λ (x : ℕ). x + c) (total-each n c) ∙ sym (suc-mul n c)

pub total-zero : (n : ℕ) → total n (λ i. 0) ≡ 0
unfolding total
total-zero zero = refl
total-zero (suc n) = let rest = total-zero n in omega arith

-- a table summed by rows is summed by columns
pub total-swap : (m n : ℕ) (f : ℕ → ℕ → ℕ) → total m (λ r. total n (f r)) ≡ total n (λ a. total m (λ r. f r a))
unfolding total
total-swap zero n f = sym (total-zero n)
total-swap (suc m) n f =
    ap (λ (x : ℕ). x + total n (f m)) (total-swap m n f) ∙ sym (total-both n (λ a. total m (λ r. f r a)) (f m))

-- ---- another bound

-- numbers from n up that add nothing may be counted
pub total-more : (n more : ℕ) (f : ℕ → ℕ) → ((i : ℕ) → n ≤ i → f i ≡ 0) → total (n + more) f ≡ total n f
total-more n zero f none = ap (λ (k : ℕ). total k f) (add-zero n)
total-more n (suc more) f none =
    let rest = total-more n more f none in
    let here = none (n + more) (omega arith) in
    ap (λ (k : ℕ). total k f) (sym (add_assoc n more 1 ∙ ap (λ (k : ℕ). n + k) (add-one more))) ∙ total-next (n + more) f ∙ omega arith

-- the numbers below n add no more than those below another
pub total-part : (n more : ℕ) (f : ℕ → ℕ) → total n f ≤ total (n + more) f
total-part n zero f = rw (add-zero n) (omega arith)
total-part n (suc more) f =
    let rest = total-part n more f in
    let next = ap (λ (k : ℕ). total k f) (sym (add_assoc n more 1 ∙ ap (λ (k : ℕ). n + k) (add-one more))) ∙ total-next (n + more) f in
    omega arith

-- ---- counts

pub count_most : (n : ℕ) (test : ℕ → Bool) → count n test ≤ n
unfolding total
count_most zero test = omega arith
count_most (suc n) test = go (test n) (count_most n test)
  where
    go : (b : Bool) → count n test ≤ n → count n test + cond b 1 0 ≤ suc n
    go true rest = omega arith
    go false rest = omega arith

-- one number
pub count-one : (n x : ℕ) → x < n → count n (λ i. eqb i x) ≡ 1
unfolding total
count-one zero x h = absurd (omega arith)
count-one (suc n) x h = go (dec_lt x n) (count-one n x)
  where
    none : (k : ℕ) → k ≤ x → count k (λ i. eqb i x) ≡ 0
    none k most = total-same k (λ i. cond (eqb i x) 1 0) (λ i. 0) (λ i below. ap (λ (b : Bool). cond b 1 0) (ne_eqb i x (λ e. omega arith))) ∙ total-zero k

    go : Dec (x < n) → (x < n → count n (λ i. eqb i x) ≡ 1) → count n (λ i. eqb i x) + cond (eqb n x) 1 0 ≡ 1
    go (yes less) rest = rw (ne_eqb n x (λ e. omega arith), rest less)
    go (no past) rest =
        let last : n ≡ x = omega arith in
        rw (eq-eqb n x last, none n (omega arith))

-- tests that agree below n pass as often
pub count_same : (n : ℕ) (f g : ℕ → Bool) → ((i : ℕ) → i < n → f i ≡ g i) → count n f ≡ count n g
count_same n f g e = total-same n (λ i. cond (f i) 1 0) (λ i. cond (g i) 1 0) (λ i h. ap (λ (b : Bool). cond b 1 0) (e i h))

-- a test that passes only where another does passes less often, or is the same test
pub count-fewer : (n : ℕ) (f g : ℕ → Bool) → ((i : ℕ) → i < n → f i ≡ true → g i ≡ true) → (count n f < count n g) ⊎ ((i : ℕ) → i < n → f i ≡ g i)
unfolding total
count-fewer zero f g h = inr (λ i l. absurd (omega arith))
count-fewer (suc n) f g h = go (f n) (g n) refl refl (count-fewer n f g (λ i l. h i (omega arith)))
  where
    next : f n ≡ g n → ((i : ℕ) → i < n → f i ≡ g i) → (i : ℕ) → i < suc n → f i ≡ g i
    next e same i l = ⊎_elim (λ last. ap f last ∙ e ∙ ap g (sym last)) (λ below. same i below) (eq-or-lt_of_le (le_of_suc-le-suc l))

    most : (count n f < count n g) ⊎ ((i : ℕ) → i < n → f i ≡ g i) → count n f ≤ count n g
    most (inl less) = omega arith
    most (inr same) = let e = count_same n f g same in omega arith

    go : (a b : Bool) → f n ≡ a → g n ≡ b → (count n f < count n g) ⊎ ((i : ℕ) → i < n → f i ≡ g i) → (count n f + cond (f n) 1 0 < count n g + cond (g n) 1 0) ⊎ ((i : ℕ) → i < suc n → f i ≡ g i)
    go true false ea eb rest = absurd (clash (h n (omega arith) ea) eb)
    go false true ea eb rest = let up_to = most rest in inl (rw (ea, eb) (omega arith))
    go true true ea eb (inl less) = inl (rw (ea, eb) (omega arith))
    go true true ea eb (inr same) = inr (next (ea ∙ sym eb) same)
    go false false ea eb (inl less) = inl (rw (ea, eb) (omega arith))
    go false false ea eb (inr same) = inr (next (ea ∙ sym eb) same)

-- a number's digits that are 1, as the machine counts them
pub ones-count : (n x : ℕ) → x < 2 ^ n → ones x ≡ count n (bit x)
unfolding total
ones-count zero x h = ap ones (lt-one h) ∙ ones-ones 0
ones-count (suc n) x h =
    ones_step x
    ∙ ap₂ (λ (a b : ℕ). a + b) (digit (x % 2) (mod-lt x (lit< tt)) ∙ ap (λ (b : Bool). cond b 1 0) (sym (bit-first x)))
    (ones-count n (x / 2) (let less = rw pow-suc at h in omega arith) ∙ total-same n (λ i. cond (bit (x / 2) i) 1 0) (λ i. cond (bit x (suc i)) 1 0) (λ i below. ap (λ (b : Bool). cond b 1 0) (sym (bit-next x i))))
    ∙ sym (total-front n (λ i. cond (bit x i) 1 0))
  where
    digit : (d : ℕ) → d < 2 → d ≡ cond (eqb d 1) 1 0
    digit zero h = refl
    digit (suc zero) h = refl
    digit (suc (suc d)) h = absurd (omega arith)
