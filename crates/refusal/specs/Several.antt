-- Several things read one after the other: all of them, or the first refusal. The nodes of a file, the records of a
-- schema and the lists of an instantiation are read so.
use Rattle.std.specs.Prelude.{ℕ, ◌≡◌, refl, List, [], ◌∷◌, ◌++◌}
use Rattle.std.proofs.Common.{ap, arith}
use Rattle.refusal.specs.declared.Refusal.{Refusal}

-- the things that were read, or the first refusal
pub data Several (A : Type 0) : Type 0 where
  several_refused : Refusal → Several A
  several_read : List A → Several A

-- one more before the others
abbrev pub precede : {A : Type 0} → A → Several A → Several A
precede x (several_refused r) = several_refused r
precede x (several_read xs) = several_read (x ∷ xs)

-- after the last one: nothing more, or this refusal where bytes follow
abbrev pub at_end : {A : Type 0} → Refusal → List ℕ → Several A
at_end q [] = several_read []
at_end q (b ∷ bs) = several_refused q

-- these before the others
abbrev pub precede_all : {A : Type 0} → List A → Several A → Several A
precede_all [] rest = rest
precede_all (x ∷ xs) rest = precede x (precede_all xs rest)

-- ---- laws

pub precede-more : {A : Type 0} (xs : List A) (x : A) (rest : Several A) → precede_all xs (precede x rest) ≡ precede_all (xs ++ (x ∷ [])) rest
precede-more [] x rest = refl
precede-more (y ∷ xs) x rest = ap (precede y) (precede-more xs x rest)

pub precede-refused : {A : Type 0} (xs : List A) (r : Refusal) → precede_all xs (several_refused r) ≡ several_refused r
precede-refused [] r = refl
precede-refused (x ∷ xs) r = ap (precede x) (precede-refused xs r)

pub precede-none : {A : Type 0} (xs : List A) → precede_all xs (several_read []) ≡ several_read xs
precede-none [] = refl
precede-none (x ∷ xs) = ap (precede x) (precede-none xs)

-- where all are read, no bytes follow
pub at-end : {A : Type 0} (q : Refusal) (bytes : List ℕ) {xs : List A} → at_end q bytes ≡ several_read xs → (bytes ≡ []) × (xs ≡ [])
at-end q [] e = (refl, cc)
at-end q (b ∷ bs) e = absurd (let z : ◌≡◌ {A = ℕ} 0 1 = cc in omega arith)
