-- The parts of a query's text (FORMAT 11.6): each relation, pair and prefixed operand with the place where its text
-- begins and the place after it, in the order in which they are numbered as nodes.
use Rattle.std.specs.Prelude.{ℕ, zero, suc, ◌+◌, ◌≤◌, ◌<◌, ◌≡◌, refl, List, ◌∷◌, ◌++◌, length, get_or, drop, []}
use Rattle.std.proofs.Common.{sym, arith, length-append}
use Rattle.node.specs.declared.nodes.BinaryOp.{BinaryOp}
use Rattle.query_language.specs.Query.{Prefix, Query, relation, pair, prefixed, query_before, node_count}
use Rattle.query_language.specs.Sizes.{query_size, prefix_size}

-- a query within a text: where its text begins, and the place after it
pub record Part : Type 0 where
  pub query : Query
  pub start : ℕ
  pub end : ℕ

-- the whole text of a query that begins at a place
abbrev pub whole_part : ℕ → Query → Part
whole_part at q = record { query = q; start = at; end = at + query_size q }

-- the parts of a query whose text begins at a place: those of its operands, the left one's first, and then the whole
unfoldable pub parts_from : ℕ → Query → List Part
parts_from at (relation r) = whole_part at (relation r) ∷ []
parts_from at (pair op l r) = parts_from (at + 1) l ++ (parts_from (at + 1 + query_size l + 1) r ++ (whole_part at (pair op l r) ∷ []))
parts_from at (prefixed p q) = parts_from (at + prefix_size p) q ++ (whole_part at (prefixed p q) ∷ [])

pub parts-relation : (at r : ℕ) → parts_from at (relation r) ≡ whole_part at (relation r) ∷ []
unfolding parts_from
parts-relation at r = refl

pub parts-pair :
    (at : ℕ) (op : BinaryOp) (l r : Query)
    → parts_from at (pair op l r) ≡ parts_from (at + 1) l ++ (parts_from (at + 1 + query_size l + 1) r ++ (whole_part at (pair op l r) ∷ []))
unfolding parts_from
parts-pair at op l r = refl

pub parts-prefixed : (at : ℕ) (p : Prefix) (q : Query) → parts_from at (prefixed p q) ≡ parts_from (at + prefix_size p) q ++ (whole_part at (prefixed p q) ∷ [])
unfolding parts_from
parts-prefixed at p q = refl

pub parts-count : (at : ℕ) (q : Query) → length (parts_from at q) ≡ node_count q
unfolding parts_from
parts-count at (relation r) = refl
parts-count at (pair op l r) =
    let a = parts-count (at + 1) l in
    let b = parts-count (at + 1 + query_size l + 1) r in
    simp length-append (omega arith)
parts-count at (prefixed p q) = let a = parts-count (at + prefix_size p) q in simp length-append (omega arith)

-- ---- what holds of each part

-- of each of these parts
unfoldable pub Each : (Part → Type 0) → List Part → Type 0
Each P [] = Unit {0}
Each P (x ∷ xs) = P x × Each P xs

pub each_append : (P : Part → Type 0) (xs ys : List Part) → Each P xs → Each P ys → Each P (xs ++ ys)
unfolding Each
each_append P [] ys a b = b
each_append P (x ∷ xs) ys a b = (a.0, each_append P xs ys a.1 b)

each-so : (P Q : Part → Type 0) (xs : List Part) → ((x : Part) → P x → Q x) → Each P xs → Each Q xs
unfolding Each
each-so P Q [] f a = tt
each-so P Q (x ∷ xs) f a = (f x a.0, each-so P Q xs f a.1)

pub each-one : (P : Part → Type 0) (x : Part) → P x → Each P (x ∷ [])
unfolding Each
each-one P x p = (p, tt)

pub each_at : (P : Part → Type 0) (xs : List Part) (d : Part) → Each P xs → (i : ℕ) → i < length xs → P (get_or xs i d)
unfolding Each
each_at P [] d a i h = absurd (omega arith)
each_at P (x ∷ xs) d a zero h = a.0
each_at P (x ∷ xs) d a (suc i) h = each_at P xs d a.1 i (omega arith)

-- ---- a part lies in the text of the whole

-- it has a byte, and lies between two places
pub record Within (low high : ℕ) (x : Part) : Type 0 where
  pub from : low ≤ x.start
  pub some : x.start < x.end
  pub upto : x.end ≤ high

pub wider : (low high low' high' : ℕ) (xs : List Part) → low' ≤ low → high ≤ high' → Each (Within low high) xs → Each (Within low' high') xs
wider low high low' high' xs l h = each-so (Within low high) (Within low' high') xs (λ x w. let a = w.from in let b = w.upto in record { from = omega arith; some = w.some; upto = omega arith })

-- ---- their order

-- FORMAT 11.6: the text of the one ends before that of the other, or both end together and it lies within the other
pub record Earlier (x y : Part) : Type 0 where
  pub ends : x.end ≤ y.end
  pub inner : x.end ≡ y.end → y.start < x.start

-- of two parts at most one is earlier, so that the numbers of nodes follow from the places
pub earlier-once : (x y : Part) → Earlier x y → Earlier y x → ⊥
earlier-once x y a b =
    let up = a.ends in
    let down = b.ends in
    let same : x.end ≡ y.end = omega arith in
    let first = a.inner same in
    let other = b.inner (sym same) in
    omega arith

-- each before all that follow it
unfoldable pub Ordered : List Part → Type 0
Ordered [] = Unit {0}
Ordered (x ∷ xs) = Each (Earlier x) xs × Ordered xs

pub ordered-append : (xs ys : List Part) → Ordered xs → Ordered ys → Each (λ x. Each (Earlier x) ys) xs → Ordered (xs ++ ys)
unfolding Ordered Each
ordered-append [] ys a b c = b
ordered-append (x ∷ xs) ys a b c = (each_append (Earlier x) xs ys a.0 c.0, ordered-append xs ys a.1 b c.1)

pub ordered-one : (x : Part) → Ordered (x ∷ [])
unfolding Ordered Each
ordered-one x = (tt, tt)

pub ordered_at : (xs : List Part) (d : Part) → Ordered xs → (i j : ℕ) → i < j → j < length xs → Earlier (get_or xs i d) (get_or xs j d)
unfolding Ordered
ordered_at [] d o i j h k = absurd (omega arith)
ordered_at (x ∷ xs) d o zero zero h k = absurd (omega arith)
ordered_at (x ∷ xs) d o zero (suc j) h k = each_at (Earlier x) xs d o.0 j (omega arith)
ordered_at (x ∷ xs) d o (suc i) zero h k = absurd (omega arith)
ordered_at (x ∷ xs) d o (suc i) (suc j) h k = ordered_at xs d o.1 i j (omega arith) (omega arith)

-- parts that end before others begin are earlier
pub all-earlier : (low middle high : ℕ) (xs ys : List Part) → Each (Within low middle) xs → Each (Within middle high) ys → Each (λ x. Each (Earlier x) ys) xs
all-earlier low middle high xs ys a b =
    each-so (Within low middle) (λ x. Each (Earlier x) ys) xs
    (λ x v. each-so (Within middle high) (Earlier x) ys
    (λ y w. let up = v.upto in let from = w.from in let some = w.some in record { ends = omega arith; inner = λ e. absurd (omega arith) }) b) a

-- the whole after parts that it has within
pub before-whole : (low at : ℕ) (q : Query) (xs : List Part) → at < low → Each (Within low (at + query_size q)) xs → Each (λ x. Each (Earlier x) (whole_part at q ∷ [])) xs
before-whole low at q xs h a =
    each-so (Within low (at + query_size q)) (λ x. Each (Earlier x) (whole_part at q ∷ [])) xs
    (λ x w. let up = w.upto in let from = w.from in each-one (Earlier x) (whole_part at q) (record { ends = up; inner = λ e. omega arith })) a

pub earlier-both : (xs ys zs : List Part) → Each (λ x. Each (Earlier x) ys) xs → Each (λ x. Each (Earlier x) zs) xs → Each (λ x. Each (Earlier x) (ys ++ zs)) xs
unfolding Each
earlier-both [] ys zs a b = tt
earlier-both (x ∷ xs) ys zs a b = (each_append (Earlier x) ys zs a.0 b.0, earlier-both xs ys zs a.1 b.1)

-- ---- their texts

-- the text of the part stands where the part says
unfoldable pub StandsIn : List ℕ → Part → Type 0
StandsIn text x = drop x.start text ≡ query_before x.query (drop x.end text)
