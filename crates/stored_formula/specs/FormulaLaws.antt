-- Laws of Formula: the answer and the work space in each case.
use Rattle.std.specs.Prelude.{ℕ, ◌*◌, ◌≤◌, ◌≡◌, refl, List, length, Result, Err, Ok}
use Rattle.std.proofs.Common.{sym, ap, ◌∙◌, arith}
use Rattle.bits.specs.Tab.{length-tab, over, over-length, over-twice}
use Rattle.refusal.specs.declared.Refusal.{Refusal}
use Rattle.expression_file.specs.ReadFile.{acceptance, Accepted}
use Rattle.admission.specs.AdmissionLaws.{spaced-refused, spaced-passes, spaced-passed, admitted-passed}
use Rattle.stored_formula.specs.FormulaBytes.{stored_byte, formulas_of}
use Rattle.admission.specs.Admission.{spaced, admitted, formula_size}
use Rattle.stored_formula.specs.Formula.{formula_answer, formula_space}
use Rattle.expression_file.specs.declared.files.Header.{Header}

-- by the two tests in turn
pub answer-tested : (file : List ℕ) (space : ℕ) {a b : Result Header Refusal} → a ≡ acceptance file → b ≡ spaced a space → b ≡ formula_answer file space
unfolding formula_answer
answer-tested file space accepted tested = tested ∙ ap (λ (a : Result Header Refusal). spaced a space) accepted

pub answer-filled : (file : List ℕ) (space m n : ℕ) → acceptance file ≡ Accepted m n → n * formula_size ≤ space → formula_answer file space ≡ Accepted m n
unfolding formula_answer
answer-filled file space m n e h = spaced-passes (acceptance file) space e h

pub answer-file : (file : List ℕ) (space m n : ℕ) → formula_answer file space ≡ Accepted m n → (acceptance file ≡ Accepted m n) × (n * formula_size ≤ space)
unfolding formula_answer
answer-file file space m n e = spaced-passed (acceptance file) space e

pub space-refused : (file work : List ℕ) (r : Refusal) → formula_answer file (length work) ≡ Err r → formula_space file work ≡ work
unfolding formula_space
space-refused file work r e = rw e

formulas-length : (file : List ℕ) (m n : ℕ) → length (formulas_of file m n) ≡ n * formula_size
unfolding formulas_of
formulas-length file m n = length-tab (n * formula_size) (stored_byte file m)

pub space-filled : (file work : List ℕ) (m n : ℕ) → formula_answer file (length work) ≡ Accepted m n → formula_space file work ≡ over (formulas_of file m n) work
unfolding formula_space
space-filled file work m n e = rw e

-- filling it again changes nothing
pub space-again : (file work : List ℕ) → formula_space file (formula_space file work) ≡ formula_space file work
space-again file work = go (formula_answer file (length work)) refl
  where
    go : (a : Result Header Refusal) → formula_answer file (length work) ≡ a → formula_space file (formula_space file work) ≡ formula_space file work
    go (Err r) e = rw (space-refused file work r e) (space-refused file work r e)
    go (Ok h) e =
        let enough = answer-file file (length work) h.relations h.nodes e in
        let size = formulas-length file h.relations h.nodes in
        let space = enough.1 in
        let same = over-length (formulas_of file h.relations h.nodes) work (omega arith) in
        rw (space-filled file work h.relations h.nodes e)
        (space-filled file (over (formulas_of file h.relations h.nodes) work) h.relations h.nodes (rw same e) ∙ over-twice (formulas_of file h.relations h.nodes) work)

-- an operation that fills the work space, 1 to 12 being passed, leaves it as Formula does
pub admitted-space : (file : List ℕ) (k : ℕ) (work : List ℕ) (m n : ℕ) → admitted file k (length work) ≡ Accepted m n → over (formulas_of file m n) work ≡ formula_space file work
admitted-space file k work m n e =
    let admits = admitted-passed file k (length work) e in
    sym (space-filled file work m n (answer-filled file (length work) m n admits.accepted admits.work_space))

-- a file that is refused is refused whatever the work space
pub answer-refused : (file : List ℕ) (space : ℕ) (r : Refusal) → acceptance file ≡ Err r → formula_answer file space ≡ Err r
unfolding formula_answer
answer-refused file space r e = spaced-refused (acceptance file) space e
