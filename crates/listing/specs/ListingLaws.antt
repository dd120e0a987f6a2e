-- Laws of the listing: what was written is the text, and the answer in each case.
use Rattle.std.specs.Prelude.{ℕ, ◌-◌, ◌≤◌, ◌<◌, ◌≡◌, refl, false, List, [], ◌∷◌, ◌++◌, ltb, length, take, drop, Result, Ok, Err}
use Rattle.std.proofs.Math.Path.{sym, ap}
use Rattle.std.proofs.Common.{◌∙◌, arith, length-append}
use borrow.Author.Tests.{lt-ltb, le-ltb}
use Rattle.bits.specs.Tab.{over, over-with, take-over}
use Rattle.refusal.specs.Chain.{refuse, refuse-stops, refuse-passes, refuse-past}
use Rattle.refusal.specs.Number.{number_of}
use Rattle.refusal.specs.declared.Refusal.{Refusal}
use Rattle.refusal.specs.declared.Refusal.TheVariants.{WorkSpace, ResultSlice}
use Rattle.attribute_set.specs.declared.AttrSet.{AttrSet}
use Rattle.expression_file.specs.ReadFile.{acceptance, node_at, Accepted}
use Rattle.expression_file.specs.Accepted.{accepted-file}
use Rattle.node_expression.specs.NodeExpression.{expression_at, expression-legal}
use Rattle.stored_formula.specs.ColumnPlace.{column_at}
use Rattle.stored_formula.specs.FormulaBytes.{cell_column}
use Rattle.stored_formula.specs.Formula.{formula_answer, formula_space}
use Rattle.stored_formula.specs.FormulaLaws.{answer-refused, answer-filled, answer-file, space-filled}
use Rattle.stored_formula.specs.FormulaBytesLaws.{stored-column}
use Rattle.verdict_answer.specs.First.{allowed_at}
use Rattle.verdict_answer.specs.Formed.{Formed, stored-formed}
use Rattle.text.specs.Characters.{decimal, newline}
use Rattle.listing_lines.specs.Text.{text_of}
use Rattle.listing_lines.specs.TextLaws.{text-accepted, text-refused}
use Rattle.listing.specs.Listing.{checked, listed_answer, listed_text, listed_space}
use Rattle.text.specs.Put.{Wrote, wrote_as, wrote-front}
use Rattle.listing_lines.specs.Lines.{lines_text}
use Rattle.listing_entries.specs.Naming.{Named}
use Rattle.listing_lines.specs.LineLaws.{lines_are}
use Rattle.expression_file.specs.declared.files.Header.{Header}

-- ---- the file, from Formula's answer

-- the work space is never too short
pub refused-file : (file : List ℕ) (size : ℕ) (r : Refusal) → 65536 ≤ size → formula_answer file size ≡ Err r → acceptance file ≡ Err r
refused-file file size r enough e = go (acceptance file) refl
  where
    go : (a : Result Header Refusal) → acceptance file ≡ a → a ≡ Err r
    go (Err q) is = sym (answer-refused file size q is) ∙ e
    go (Ok h) is =
        let few = (accepted-file file h.relations h.nodes is).counts.nodes.1 in
        let filled = answer-filled file size h.relations h.nodes is (omega arith) in
        absurd (let z : ◌≡◌ {A = ℕ} 0 1 = cc in omega arith)

-- ---- what was written is the text

pub filled-counts : (file : List ℕ) (size m n : ℕ) → formula_answer file size ≡ Accepted m n → (m ≤ 8) × (1 ≤ n) × (n ≤ 64)
filled-counts file size m n e =
    let counts = (accepted-file file m n (answer-file file size m n e).0).counts in
    (counts.relations.1, counts.nodes.0, counts.nodes.1)

-- the columns of the last node, as Formula leaves them
last-columns :
    (file work work' : List ℕ) (m n : ℕ)
    → 65536 ≤ length work
    → formula_answer file (length work) ≡ Accepted m n
    → work' ≡ formula_space file work
    → (c : ℕ)
    → c < 16
    → column_at work' (n - 1) c ≡ cell_column m (expression_at file (n - 1)) c
last-columns file work work' m n enough e space c h =
    let counts = filled-counts file (length work) m n e in
    let least = counts.1 in
    let most = counts.2 in
    ap (λ (w : List ℕ). column_at w (n - 1) c) (space ∙ space-filled file work m n e)
    ∙ stored-column file work m n (omega arith) (n - 1) c (omega arith) h

pub last-formed :
    (file work work' : List ℕ) (m n : ℕ)
    → 65536 ≤ length work
    → formula_answer file (length work) ≡ Accepted m n
    → work' ≡ formula_space file work
    → Formed m (allowed_at work' (n - 1))
last-formed file work work' m n enough e space =
    let least = (filled-counts file (length work) m n e).1 in
    stored-formed work' (n - 1) m (expression_at file (n - 1))
    (expression-legal file m n (answer-file file (length work) m n e).0 (n - 1) (omega arith))
    (last-columns file work work' m n enough e space)

pub wrote-listing :
    (file work work' : List ℕ) (m n : ℕ) (named : AttrSet) (text text' : List ℕ) (end : ℕ)
    → 65536 ≤ length work
    → formula_answer file (length work) ≡ Accepted m n
    → work' ≡ formula_space file work
    → Named (node_at file) n named
    → Wrote 0 (lines_text work' m (n - 1) named) text text' end
    → Wrote 0 (text_of file) text text' end
wrote-listing file work work' m n named text text' end enough e space named_in wrote =
    let accepted = (answer-file file (length work) m n e).0 in
    wrote_as
    (lines_are file work' m n named (filled-counts file (length work) m n e).0 (last-columns file work work' m n enough e space) named_in
    ∙ sym (text-accepted file m n accepted))
    wrote

pub wrote-refusal :
    (file : List ℕ) (size : ℕ) (r : Refusal) (text text' : List ℕ) (end : ℕ)
    → 65536 ≤ size
    → formula_answer file size ≡ Err r
    → Wrote 0 ((114 ∷ 101 ∷ 102 ∷ 117 ∷ 115 ∷ 101 ∷ 100 ∷ 32 ∷ []) ++ decimal (number_of r) ++ newline) text text' end
    → Wrote 0 (text_of file) text text' end
wrote-refusal file size r text text' end enough e wrote = wrote_as (sym (text-refused file r (refused-file file size r enough e))) wrote

-- ---- the answer and the slices, in each case

-- answer and slices are as the listing's definitions say
abbrev pub Outcome : List ℕ → List ℕ → List ℕ → Result ℕ Refusal → List ℕ → List ℕ → Type 0
Outcome file work text r work' text' =
    (r ≡ listed_answer file (length work) (length text))
    × ((text' ≡ listed_text file (length work) text) × (work' ≡ listed_space file work (length text)))

-- after each outcome of the two tests
module _ {A : Type 0} (space size : ℕ) (stop : Refusal → A) (go : A) where
  pub checked-work : space < 65536 → checked space size stop go ≡ stop WorkSpace
  checked-work h = refuse-stops stop (ltb space 65536) WorkSpace (refuse stop (ltb size 32768) ResultSlice go) (lt-ltb space 65536 h)

  pub checked-text : 65536 ≤ space → size < 32768 → checked space size stop go ≡ stop ResultSlice
  checked-text h k =
      refuse-passes stop (ltb space 65536) WorkSpace (refuse stop (ltb size 32768) ResultSlice go) (le-ltb space 65536 h)
      ∙ refuse-stops stop (ltb size 32768) ResultSlice go (lt-ltb size 32768 k)

  pub checked-goes : ltb space 65536 ≡ false → ltb size 32768 ≡ false → checked space size stop go ≡ go
  checked-goes h k =
      refuse-passes stop (ltb space 65536) WorkSpace (refuse stop (ltb size 32768) ResultSlice go) h
      ∙ refuse-passes stop (ltb size 32768) ResultSlice go k

  pub checked-both : 65536 ≤ space → 32768 ≤ size → checked space size stop go ≡ go
  checked-both h k = checked-goes (le-ltb space 65536 h) (le-ltb size 32768 k)

-- where both slices are long enough: the text, and the work space as Formula leaves it
pub listed-goes :
    (file work text : List ℕ)
    → 65536 ≤ length work
    → 32768 ≤ length text
    → (listed_answer file (length work) (length text) ≡ Ok (length (text_of file)))
    × (listed_text file (length work) text ≡ over (text_of file) text)
    × (listed_space file work (length text) ≡ formula_space file work)
unfolding listed_answer listed_text listed_space
listed-goes file work text h k =
    (checked-both (length work) (length text) Err _ h k, checked-both (length work) (length text) (λ r. text) _ h k, checked-both (length work) (length text) (λ r. work) _ h k)

module _ (file work text : List ℕ) where
  pub listed-work : length work < 65536 → Outcome file work text (Err WorkSpace) work text
  unfolding listed_answer listed_text listed_space
  listed-work h =
      (sym (checked-work (length work) (length text) Err _ h), (sym (checked-work (length work) (length text) (λ r. text) _ h), sym (checked-work (length work) (length text) (λ r. work) _ h)))

  pub listed-text : 65536 ≤ length work → length text < 32768 → Outcome file work text (Err ResultSlice) work text
  unfolding listed_answer listed_text listed_space
  listed-text h k =
      (sym (checked-text (length work) (length text) Err _ h k), (sym (checked-text (length work) (length text) (λ r. text) _ h k), sym (checked-text (length work) (length text) (λ r. work) _ h k)))

  pub listed-done : (work' text' : List ℕ) (end : ℕ) → 65536 ≤ length work → 32768 ≤ length text → work' ≡ formula_space file work → Wrote 0 (text_of file) text text' end → Outcome file work text (Ok end) work' text'
  unfolding listed_answer listed_text listed_space
  listed-done work' text' end h k space wrote =
      let front = wrote-front wrote in
      let enough = le-ltb (length work) 65536 h in
      let room = le-ltb (length text) 32768 k in (
        ap Ok front.1 ∙ sym (checked-goes (length work) (length text) Err _ enough room),
        (front.0 ∙ sym (checked-goes (length work) (length text) (λ r. text) _ enough room), space ∙ sym (checked-goes (length work) (length text) (λ r. work) _ enough room)),
      )

-- ---- slices in which a file is listed

-- both tests are passed, and n is the text's length
pub record ListedIn (bytes : List ℕ) (space size n : ℕ) : Type 0 where
  pub enough : ltb space 65536 ≡ false
  pub room : ltb size 32768 ≡ false
  pub size_is : length bytes ≡ n

-- the same of any text
checked-in : (bytes : List ℕ) (space size n : ℕ) → checked space size Err (Ok (length bytes)) ≡ Ok n → ListedIn bytes space size n
checked-in bytes space size n e =
    let work = refuse-past Err (ltb space 65536) WorkSpace (refuse Err (ltb size 32768) ResultSlice (Ok (length bytes))) (never WorkSpace) e in
    let text = refuse-past Err (ltb size 32768) ResultSlice (Ok (length bytes)) (never ResultSlice) work.1 in
    record { enough = work.0; room = text.0; size_is = sized text.1 }
  where
    never : (r : Refusal) → Err r ≡ Ok n → ⊥
    never r q = let z : ◌≡◌ {A = ℕ} 0 1 = cc in omega arith

    sized : {a b : ℕ} → ◌≡◌ {A = Result ℕ Refusal} (Ok a) (Ok b) → a ≡ b
    sized q = cc

-- it fits its slice
pub checked-fits :
    (bytes : List ℕ) (space : ℕ) (text text' : List ℕ) (n : ℕ)
    → text' ≡ checked space (length text) (λ r. text) (over bytes text)
    → checked space (length text) Err (Ok (length bytes)) ≡ Ok n
    → n ≤ length text'
checked-fits bytes space text text' n t e =
    let listed = checked-in bytes space (length text) n e in
    let goes = checked-goes space (length text) (λ r. text) (over bytes text) listed.enough listed.room in
    let is = listed.size_is in
    let whole = ap length (t ∙ goes ∙ over-with bytes text) ∙ length-append bytes (drop (length bytes) text) in
    omega arith

-- of the text of a file
pub listed_in : (file : List ℕ) (space size n : ℕ) → listed_answer file space size ≡ Ok n → ListedIn (text_of file) space size n
unfolding listed_answer
listed_in file space size n e = checked-in (text_of file) space size n e

-- its first n bytes are the text
pub listed-whole : (file : List ℕ) (space : ℕ) (text : List ℕ) (n : ℕ) → listed_answer file space (length text) ≡ Ok n → take n (listed_text file space text) ≡ text_of file
unfolding listed_text
listed-whole file space text n e =
    let listed = listed_in file space (length text) n e in
    ap (take n) (checked-goes space (length text) (λ r. text) (over (text_of file) text) listed.enough listed.room)
    ∙ ap (λ (k : ℕ). take k (over (text_of file) text)) (sym listed.size_is)
    ∙ take-over (text_of file) text

-- the text fits its slice
pub listed-fits : (file : List ℕ) (space : ℕ) (text text' : List ℕ) (n : ℕ) → text' ≡ listed_text file space text → listed_answer file space (length text) ≡ Ok n → n ≤ length text'
unfolding listed_answer listed_text
listed-fits file space text text' n t e = checked-fits (text_of file) space text text' n t e
