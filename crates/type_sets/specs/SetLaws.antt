-- Laws of sets for the code: the loops that lay down a node's words.
use Rattle.std.specs.Prelude.{ℕ, ◌+◌, ◌*◌, ◌/◌, ◌≤◌, ◌<◌, ◌≡◌, refl, Bool, true, false, List, ◌⊎◌, length, get_or, set}
use Rattle.std.proofs.Common.{sym, ap₂, ◌∙◌, inl, inr, eq-or-lt_of_le, add-zero, add-mul, one-mul, mul-le-mul_right, arith, length-set, get_or-set_same, get_or-set_other}
use Rattle.std.specs.Int.Bits.{bit_or, or_add_and, or_zero_l}
use Rattle.std.proofs.lemmas.Nat.{and_le_l, and_le_r}
use Rattle.node.specs.declared.nodes.BinaryOp.{BinaryOp}
use Rattle.type_sets.specs.Sets.{words_at, breaking, coming_out, Laying, Laid, Combining, Combined}

-- a node's words end where a later node's begin
pub node-below : (l k width : ℕ) → l < k → l * width + width ≤ k * width
node-below l k width h =
    let most = mul-le-mul_right {m = l + 1} {n = k} width (omega arith) in
    let step = add-mul l 1 width in
    let one = one-mul width in
    omega arith

-- the words of the nodes up to k
pub node-room : (k width size : ℕ) → k * width + width ≤ size → (k + 1) * width ≤ size
node-room k width size h =
    let step = add-mul k 1 width in
    let one = one-mul width in
    omega arith

-- at most 64 nodes and 255 entries: six words a node
pub words-most : (k count : ℕ) → k < 64 → count ≤ 255 → (k + 1) * (2 + (count + 63) / 64) ≤ 384
words-most k count below few =
    let nodes = mul-le-mul_right {m = k + 1} {n = 64} (2 + (count + 63) / 64) (omega arith) in
    omega arith

pub node-words : (k width size : ℕ) → (k + 1) * width ≤ size → k * width + width ≤ size
node-words k width size h =
    let step = add-mul k 1 width in
    let one = one-mul width in
    omega arith

-- ---- two functions of two Booleans that have one table

pub one_table : (f g : Bool → Bool → Bool) → f true true ≡ g true true → f true false ≡ g true false → f false true ≡ g false true → f false false ≡ g false false → (a b : Bool) → f a b ≡ g a b
one_table f g tt tf ft ff true true = tt
one_table f g tt tf ft ff true false = tf
one_table f g tt tf ft ff false true = ft
one_table f g tt tf ft ff false false = ff

-- ---- words that are 0

pub or-clear : (a b : ℕ) → bit_or a b ≡ 0 → (a ≡ 0) × (b ≡ 0)
or-clear a b e =
    let sum = or_add_and a b in
    let left = and_le_l a b in
    let right = and_le_r a b in
    (omega arith, omega arith)

pub or-none : (a b : ℕ) → a ≡ 0 → b ≡ 0 → bit_or a b ≡ 0
or-none a b x y = ap₂ bit_or x y ∙ or_zero_l 0

-- ---- a word of a list in which one word is written

last-or-before : (v n : ℕ) → v < n + 1 → (v ≡ n) ⊎ (v < n)
last-or-before v n h = eq-or-lt_of_le (most v n h)
  where
    most : (v n : ℕ) → v < n + 1 → v ≤ n
    most v n h = omega arith

-- the words `from` to `to` of a function stand from place `at` on, and one more is written
next-words :
    (f : ℕ → ℕ) (at from to x : ℕ) (sets : List ℕ)
    → at + to < length sets
    → x ≡ f to
    → ((v : ℕ) → from ≤ v → v < to → get_or sets (at + v) 0 ≡ f v)
    → (v : ℕ)
    → from ≤ v
    → v < to + 1
    → get_or (set sets (at + to) x) (at + v) 0 ≡ f v
next-words f at from to x sets inside e words v some h = go (last-or-before v to h)
  where
    go : (v ≡ to) ⊎ (v < to) → get_or (set sets (at + to) x) (at + v) 0 ≡ f v
    go (inl same) = rw same (get_or-set_same sets (at + to) x 0 inside ∙ e)
    go (inr below) = get_or-set_other sets (at + to) (at + v) x 0 (λ same. omega arith) ∙ words v some below

-- ---- a node's words: from the third on, and then the first two

module _ {entry : ℕ → ℕ} {at : ℕ} {old : List ℕ} where
  pub laying-first : Laying entry at 2 old old
  laying-first = record { size = refl; before = λ p h. refl; entries = λ v some h. absurd (omega arith) }

  pub laying-next : (v : ℕ) (sets : List ℕ) (x : ℕ) → at + v < length sets → x ≡ entry v → Laying entry at v old sets → Laying entry at (v + 1) old (set sets (at + v) x)
  laying-next v sets x inside e so =
      record {
        size = length-set sets (at + v) x ∙ so.size;
        before = λ p h. get_or-set_other sets (at + v) p x 0 (λ same. omega arith) ∙ so.before p h;
        entries = next-words entry at 2 v x sets inside e so.entries;
      }

  pub laying-end : (width : ℕ) (sets out : List ℕ) (broken given : ℕ) → at + 1 < length sets → out ≡ set (set sets at broken) (at + 1) given → Laying entry at width old sets → Laid broken given entry at width old out
  laying-end width sets out broken given inside is so =
      let size = length-set sets at broken in
      rw is
      (record {
        rest = record {
          size = simp length-set so.size;
          before = λ p h. other p (λ same. omega arith) (λ same. omega arith) ∙ so.before p h;
          entries = λ v some h. other (at + v) (λ same. omega arith) (λ same. omega arith) ∙ so.entries v some h;
        };
        first = get_or-set_other (set sets at broken) (at + 1) at given 0 (λ same. omega arith) ∙ get_or-set_same sets at broken 0 (omega arith);
        second = get_or-set_same (set sets at broken) (at + 1) given 0 (omega arith);
      })
    where
      other : (p : ℕ) → (p ≡ at → ⊥) → (p ≡ at + 1 → ⊥) → get_or (set (set sets at broken) (at + 1) given) p 0 ≡ get_or sets p 0
      other p a b = get_or-set_other (set sets at broken) (at + 1) p given 0 b ∙ get_or-set_other sets at p broken 0 a

-- ---- a node of two operands

module _ {op : BinaryOp} {left right at : ℕ} {old : List ℕ} where
  pub combining-first : Combining op left right at 1 old old (bit_or (get_or old left 0) (get_or old right 0))
  combining-first =
      record {
        size = refl;
        before = λ p h. refl;
        words = λ v some h. absurd (omega arith);
        rule = record {
          clear = λ z. let both = or-clear (get_or old left 0) (get_or old right 0) z in (rw (add-zero left) both.0, rw (add-zero right) both.1, λ v some h. absurd (omega arith));
          kept = λ x y rest. or-none (get_or old left 0) (get_or old right 0) (rw (add-zero left) at x) (rw (add-zero right) at y);
        };
      }

  pub combining-next :
      (v : ℕ) (sets : List ℕ) (broken breaks given : ℕ)
      → 1 ≤ v
      → left + v < at
      → right + v < at
      → at + v < length sets
      → breaks ≡ breaking op (get_or sets (left + v) 0) (get_or sets (right + v) 0)
      → given ≡ coming_out op (get_or sets (left + v) 0) (get_or sets (right + v) 0)
      → Combining op left right at v old sets broken
      → Combining op left right at (v + 1) old (set sets (at + v) given) (bit_or broken breaks)
  combining-next v sets broken breaks given some l r inside breaks-is given_is so =
      record {
        size = length-set sets (at + v) given ∙ so.size;
        before = λ p h. get_or-set_other sets (at + v) p given 0 (λ same. omega arith) ∙ so.before p h;
        words = next-words (λ v. coming_out op (get_or old (left + v) 0) (get_or old (right + v) 0)) at 1 v given sets inside (given_is ∙ ap₂ (coming_out op) x-is y-is) so.words;
        rule = record {
          clear = λ z. let both = or-clear broken breaks z in let earlier = so.rule.clear both.0 in (earlier.0, earlier.1, λ u least most. step u (last-or-before u v most) both.1 (earlier.2 u least));
          kept = λ x y rest. or-none broken breaks (so.rule.kept x y (λ u least most. rest u least (omega arith))) (here-is ∙ rest v some (omega arith));
        };
      }
    where
      x-is : get_or sets (left + v) 0 ≡ get_or old (left + v) 0
      x-is = so.before (left + v) l

      y-is : get_or sets (right + v) 0 ≡ get_or old (right + v) 0
      y-is = so.before (right + v) r

      here-is : breaks ≡ breaking op (get_or old (left + v) 0) (get_or old (right + v) 0)
      here-is = breaks-is ∙ ap₂ (breaking op) x-is y-is

      step : (u : ℕ) → (u ≡ v) ⊎ (u < v) → breaks ≡ 0 → (u < v → breaking op (words_at old left u) (words_at old right u) ≡ 0) → breaking op (words_at old left u) (words_at old right u) ≡ 0
      step u (inl same) z earlier = rw same (sym here-is ∙ z)
      step u (inr below) z earlier = earlier below

  pub combining-end : (width : ℕ) (sets : List ℕ) (broken : ℕ) → at < length sets → Combining op left right at width old sets broken → Combined op left right at width old (set sets at broken)
  combining-end width sets broken inside so =
      record {
        size = length-set sets at broken ∙ so.size;
        before = λ p h. get_or-set_other sets at p broken 0 (λ same. omega arith) ∙ so.before p h;
        words = λ v some h. get_or-set_other sets at (at + v) broken 0 (λ same. omega arith) ∙ so.words v some h;
        rule = rw (get_or-set_same sets at broken 0 inside) so.rule;
      }
