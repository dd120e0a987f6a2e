-- A list from a function, and the list with a run of elements replaced.
use Prim.Native.Nat.{ℕ, zero, suc, ◌+◌, ◌-◌, ◌≤◌, ◌<◌}
use Rattle.std.specs.Prelude.{◌≡◌, take, replicate}
use Rattle.std.proofs.Math.Path.{refl, sym, ap}
use Rattle.std.proofs.Common.{◌∙◌, add-zero, le_of_suc-le-suc, get_or-append-add, drop_at}
use mathlib.Core.List.{List, [], ◌∷◌, ◌++◌, map}
use native.Mathlib.Omega.{arith}
use Rattle.std.proofs.Math.Decide.{dec_le}
use Rattle.std.proofs.Math.ListN.{length, get_or, drop, length-append, length-drop, get_or-append}
use Rattle.std.proofs.Math.Seq.{ext_get_or, get_or-drop, drop-drop, drop-append-add, take-append_seam}

module _ {A : Type 0} where
  -- f 0, f 1, .., n elements
  unfoldable pub tab : ℕ → (ℕ → A) → List A
  tab zero f = []
  tab (suc n) f = f 0 ∷ tab n (λ i. f (suc i))

  pub tab-none : (f : ℕ → A) → tab 0 f ≡ []
  unfolding tab
  tab-none f = refl

  pub tab-next : (n : ℕ) (f : ℕ → A) → tab (suc n) f ≡ f 0 ∷ tab n (λ i. f (suc i))
  unfolding tab
  tab-next n f = refl

  -- the elements from number i on
  pub tab-from : (left i : ℕ) (f : ℕ → A) → tab (suc left) (λ j. f (i + j)) ≡ f i ∷ tab left (λ j. f (i + 1 + j))
  tab-from left i f = tab-next left (λ j. f (i + j)) ∙ simp (add-zero, shift)
    where
      shift : (j : ℕ) → i + suc j ≡ i + 1 + j
      shift j = omega arith

  -- one element, n times
  pub tab-same : (n : ℕ) (x : A) → tab n (λ i. x) ≡ replicate n x
  unfolding tab
  tab-same zero x = refl
  tab-same (suc n) x = ap (λ l. x ∷ l) (tab-same n x)

  pub length-tab : (n : ℕ) (f : ℕ → A) → length (tab n f) ≡ n
  unfolding tab
  length-tab zero f = refl
  length-tab (suc n) f = ap suc (length-tab n (λ i. f (suc i)))

  pub get_or-tab : (n : ℕ) (f : ℕ → A) (i : ℕ) (d : A) → i < n → get_or (tab n f) i d ≡ f i
  unfolding tab
  get_or-tab zero f i d h = absurd (omega arith)
  get_or-tab (suc n) f zero d h = refl
  get_or-tab (suc n) f (suc i) d h = get_or-tab n (λ i. f (suc i)) i d (le_of_suc-le-suc h)

  -- one element more
  pub tab-more : (n : ℕ) (f : ℕ → A) → tab (suc n) f ≡ tab n f ++ (f n ∷ [])
  unfolding tab
  tab-more zero f = refl
  tab-more (suc n) f = ap (λ l. f 0 ∷ l) (tab-more n (λ i. f (suc i)))

  -- a list with these elements
  pub tab-is : (n : ℕ) (f : ℕ → A) (d : A) (l : List A) → length l ≡ n → ((i : ℕ) → i < n → get_or l i d ≡ f i) → l ≡ tab n f
  tab-is n f d l size e =
      ext_get_or d l (tab n f) (size ∙ sym (length-tab n f))
      (λ i h. let below : i < n = omega arith in e i below ∙ sym (get_or-tab n f i d below))

  -- ---- element i of `a ++ b`, and of a list with a run replaced

  pub get_or-right : (a b : List A) (i : ℕ) (d : A) → length a ≤ i → get_or (a ++ b) i d ≡ get_or b (i - length a) d
  get_or-right a b i d h =
      let split : i ≡ length a + (i - length a) = omega arith in
      ap (λ (k : ℕ). get_or (a ++ b) k d) split ∙ get_or-append-add a b (i - length a) d

  -- what is written from the front, and the rest as it was
  unfoldable pub over : List A → List A → List A
  over a old = a ++ drop (length a) old

  pub over-with : (a old : List A) → over a old ≡ a ++ drop (length a) old
  unfolding over
  over-with a old = refl

  -- nothing written
  pub over_none : (old : List A) → over [] old ≡ old
  unfolding over
  over_none old = refl

  -- writing on after what is written
  pub over-again : (a b old : List A) → over (a ++ b) (over a old) ≡ over (a ++ b) old
  unfolding over
  over-again a b old =
      rw (length-append a b)
      (ap (λ (l : List A). (a ++ b) ++ l) (drop-append-add a (drop (length a) old) (length b) ∙ drop-drop (length b) (length a) old))

  pub over-is : (a old l : List A) (d : A) → length a ≤ length old → length l ≡ length old → ((i : ℕ) → i < length a → get_or l i d ≡ get_or a i d) → ((i : ℕ) → length a ≤ i → get_or l i d ≡ get_or old i d) → l ≡ over a old
  unfolding over
  over-is a old l d fits size front rest =
      let whole : length (a ++ drop (length a) old) ≡ length old =
      length-append a (drop (length a) old) ∙ (let h = length-drop (length a) old in omega arith)
      in
      ext_get_or d l (a ++ drop (length a) old) (size ∙ sym whole) (λ i h. go i (dec_le (length a) i))
    where
      go : (i : ℕ) → Dec (length a ≤ i) → get_or l i d ≡ get_or (a ++ drop (length a) old) i d
      go i (yes h) =
          let back : length a + (i - length a) ≡ i = omega arith in
          rest i h ∙ sym (get_or-right a (drop (length a) old) i d h ∙ get_or-drop (length a) old (i - length a) d ∙ ap (λ (k : ℕ). get_or old k d) back)
      go i (no h) = let below : i < length a = omega arith in front i below ∙ sym (get_or-append a (drop (length a) old) d i below)

  pub over-length : (a old : List A) → length a ≤ length old → length (over a old) ≡ length old
  unfolding over
  over-length a old h = length-append a (drop (length a) old) ∙ (let l = length-drop (length a) old in omega arith)

  -- as much written over what was written
  pub over-covered : (a b old : List A) → length b ≡ length a → over a (over b old) ≡ over a old
  unfolding over
  over-covered a b old same =
      ap (λ (l : List A). a ++ l) (drop_at b (drop (length b) old) (length a) same ∙ ap (λ (n : ℕ). drop n old) same)

  -- the same written twice
  pub over-twice : (a old : List A) → over a (over a old) ≡ over a old
  over-twice a old = over-covered a a old refl

  pub over-front : (a old : List A) (i : ℕ) (d : A) → i < length a → get_or (over a old) i d ≡ get_or a i d
  unfolding over
  over-front a old i d h = get_or-append a (drop (length a) old) d i h

  pub over-back : (a old : List A) (i : ℕ) (d : A) → length a ≤ i → get_or (over a old) i d ≡ get_or old i d
  unfolding over
  over-back a old i d h =
      let back : length a + (i - length a) ≡ i = omega arith in
      get_or-right a (drop (length a) old) i d h ∙ get_or-drop (length a) old (i - length a) d ∙ ap (λ (k : ℕ). get_or old k d) back

  pub take-over : (a old : List A) → take (length a) (over a old) ≡ a
  unfolding over
  take-over a old = take-append_seam a (drop (length a) old)

-- a function of each element
pub map-tab : {A B : Type 0} (g : A → B) (n : ℕ) (f : ℕ → A) → map g (tab n f) ≡ tab n (λ i. g (f i))
unfolding tab
map-tab g zero f = refl
map-tab g (suc n) f = ap (λ l. g (f 0) ∷ l) (map-tab g n (λ i. f (suc i)))
