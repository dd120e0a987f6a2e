-- Laws of the text: of a file that is accepted or refused, the part of a file that it depends on, and the line of a
-- node.
use Rattle.std.specs.Prelude.{ℕ, ◌+◌, ◌-◌, ◌≤◌, ◌<◌, ◌≡◌, refl, ◌↔◌, Bool, true, false, List, [], ◌∷◌, ◌++◌, length, get_or, take, Result, Err, Ok}
use Rattle.std.proofs.Common.{sym, ap, ◌∙◌, append_assoc, arith, lt-ltb, ltb-true, ltb-false, get_or-append-add, take_all}
use Rattle.refusal.specs.Number.{number_of}
use Rattle.refusal.specs.declared.Refusal.{Refusal}
use Rattle.algebra.specs.Expression.{Expression}
use Rattle.expression_file.specs.ReadFile.{acceptance, Accepted}
use Rattle.expression_file.specs.Walk.{file-most}
use Rattle.expression_file.specs.Enough.{enough}
use Rattle.node_expression.specs.NodeExpression.{expression_at}
use Rattle.stored_formula.specs.FormulaBytes.{allowed_bit}
use Rattle.verdict_answer.specs.Verdict.{untypable_in}
use Rattle.text.specs.Characters.{decimal, newline}
use Rattle.listing_lines.specs.Text.{is_untypable, verdict_text, node_line, listing, text_after, text_of}
use Rattle.listing_lines.specs.Lines.{node_text}
use Rattle.expression_file.specs.declared.files.Header.{Header}

-- ---- the text of a file that is accepted, and of one that is refused

pub text-accepted : (file : List ℕ) (m n : ℕ) → acceptance file ≡ Accepted m n → text_of file ≡ listing file m n
unfolding text_of
text-accepted file m n e = ap (λ (a : Result Header Refusal). text_after a file) e

pub text-refused : (file : List ℕ) (r : Refusal) → acceptance file ≡ Err r → text_of file ≡ (114 ∷ 101 ∷ 102 ∷ 117 ∷ 115 ∷ 101 ∷ 100 ∷ 32 ∷ []) ++ decimal (number_of r) ++ newline
unfolding text_of
text-refused file r e = ap (λ (a : Result Header Refusal). text_after a file) e

-- the text depends on the first 323 bytes of a file
pub enough-text : (file : List ℕ) → text_of (take 323 file) ≡ text_of file
unfolding text_of
enough-text file = ap (λ (a : Result Header Refusal). text_after a (take 323 file)) (enough file) ∙ go (acceptance file) refl
  where
    go : (a : Result Header Refusal) → acceptance file ≡ a → text_after a (take 323 file) ≡ text_after a file
    go (Err r) e = refl
    go (Ok h) e = let most = file-most file h.relations h.nodes e in ap (text_after (Accepted h.relations h.nodes)) (take_all 323 file (omega arith))

-- ---- the line of a node

-- the first letter of a verdict, "u" or "t"
abbrev letter : Bool → ℕ
letter true = 117
letter false = 116

-- "node " and the number
abbrev front : ℕ → List ℕ
front k = (110 ∷ 111 ∷ 100 ∷ 101 ∷ 32 ∷ []) ++ decimal k

verdict-letter : (untypable : Bool) (rest : List ℕ) → get_or (verdict_text untypable ++ rest) 1 0 ≡ letter untypable
verdict-letter true rest = refl
verdict-letter false rest = refl

-- it stands after that and a space
said-letter : (untypable : Bool) (k : ℕ) (rest : List ℕ) → get_or (node_text untypable k ++ rest) (length (front k) + 1) 0 ≡ letter untypable
unfolding node_text
said-letter untypable k rest =
    ap (λ (l : List ℕ). get_or l (length (front k) + 1) 0) apart
    ∙ get_or-append-add (front k) (verdict_text untypable ++ (newline ++ rest)) 1 0
    ∙ verdict-letter untypable (newline ++ rest)
  where
    apart : (front k ++ verdict_text untypable ++ newline) ++ rest ≡ front k ++ (verdict_text untypable ++ (newline ++ rest))
    apart = simp append_assoc

-- a text that begins with the line of a node says one verdict
pub one-verdict : (a b : Bool) (k : ℕ) (rest others : List ℕ) → node_text a k ++ rest ≡ node_text b k ++ others → a ≡ b
one-verdict a b k rest others e = same a b (sym (said-letter a k rest) ∙ ap (λ (l : List ℕ). get_or l (length (front k) + 1) 0) e ∙ said-letter b k others)
  where
    same : (a b : Bool) → letter a ≡ letter b → a ≡ b
    same true true e = refl
    same true false e = absurd (omega arith)
    same false true e = absurd (omega arith)
    same false false e = refl

-- lines of which the first is that line
begins : (line first b c d : List ℕ) → first ≡ line → (rest : List ℕ) × (first ++ b ++ c ++ d ≡ line ++ rest)
begins line first b c d is = (b ++ (c ++ d), simp (append_assoc, is))

-- the two words for the line of a node
first-line : (m : ℕ) (e : Expression) (k : ℕ) → node_line m e k ≡ node_text (is_untypable m e) k
unfolding node_line node_text
first-line m e k = refl

-- the listing begins with the line of the last node
pub listing_begins : (file : List ℕ) (m n : ℕ) → (rest : List ℕ) × (listing file m n ≡ node_text (is_untypable m (expression_at file (n - 1))) (n - 1) ++ rest)
unfolding listing
listing_begins file m n = begins _ _ _ _ _ (first-line m (expression_at file (n - 1)) (n - 1))

-- ---- its verdict

pub untypable-says : (m : ℕ) (e : Expression) → (is_untypable m e ≡ true) ↔ (untypable_in m (allowed_bit m e) < 16)
unfolding is_untypable
untypable-says m e = ((λ is. ltb-true (untypable_in m (allowed_bit m e)) 16 is), (λ less. lt-ltb (untypable_in m (allowed_bit m e)) 16 less))

pub typable-says : (m : ℕ) (e : Expression) → is_untypable m e ≡ false → 16 ≤ untypable_in m (allowed_bit m e)
unfolding is_untypable
typable-says m e is = ltb-false (untypable_in m (allowed_bit m e)) 16 is
