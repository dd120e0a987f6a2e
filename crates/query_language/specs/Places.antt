-- A byte at a place of a text, and the text from a place on. Past the end a byte is 0, which no text of a query has.
use Rattle.std.specs.Prelude.{ℕ, ◌+◌, ◌≤◌, ◌<◌, ◌≡◌, refl, List, ◌∷◌, Bool, true, false, ltb, length, get_or, drop}
use Rattle.std.proofs.Common.{sym, ap, ◌∙◌, add-zero, add-one, arith, ltb-true, ltb-false, length-drop, drop-cons, get_or-drop, drop-drop}
use Rattle.std.proofs.Math.ListN.{get_or-eq_default}

-- a byte above 0 stands within the text
pub byte-within : (text : List ℕ) (at : ℕ) → 1 ≤ get_or text at 0 → at < length text
byte-within text at h = go (ltb at (length text)) refl
  where
    go : (t : Bool) → ltb at (length text) ≡ t → at < length text
    go true e = ltb-true at (length text) e
    go false e = let z = get_or-eq_default text 0 (ltb-false at (length text) e) in absurd (omega arith)

pub byte_inside : (text : List ℕ) (at b : ℕ) → get_or text at 0 ≡ b → 1 ≤ b → at < length text
byte_inside text at b e h = byte-within text at (rw e h)

pub byte-there : (text : List ℕ) (at b : ℕ) → get_or text at 0 ≡ b → 1 ≤ b → drop at text ≡ b ∷ drop (at + 1) text
byte-there text at b e h = let inside : at < length text = byte-within text at (rw e h) in drop-cons text at 0 inside ∙ rw (e, add-one)

-- the first byte of what comes from a place on, and the rest
pub byte_of : (text : List ℕ) (at b : ℕ) (rest : List ℕ) → drop at text ≡ b ∷ rest → get_or text at 0 ≡ b
byte_of text at b rest e = sym (get_or-drop at text 0 0 ∙ ap (λ (n : ℕ). get_or text n 0) (add-zero at)) ∙ ap (λ (l : List ℕ). get_or l 0 0) e

pub rest_of : (text : List ℕ) (at b : ℕ) (rest : List ℕ) → drop at text ≡ b ∷ rest → drop (at + 1) text ≡ rest
rest_of text at b rest e = sym (drop-drop 1 at text) ∙ ap (λ (l : List ℕ). drop 1 l) e

-- a place is known by what comes from it on
pub place-once : (text : List ℕ) (a b : ℕ) → a ≤ length text → b ≤ length text → drop a text ≡ drop b text → a ≡ b
place-once text a b ha hb e = let la = length-drop a text in let lb = length-drop b text in let same : length (drop a text) ≡ length (drop b text) = ap length e in omega arith
