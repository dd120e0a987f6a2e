-- The library function of the listing program (FORMAT 7.13): the text of a file's last node, in a lent slice.
use Rattle.std.specs.Prelude.{ℕ, List, ltb, length, Result, Ok, Err}
use Rattle.bits.specs.Tab.{over}
use Rattle.refusal.specs.declared.Refusal.{Refusal}
use Rattle.refusal.specs.declared.Refusal.TheVariants.{WorkSpace, ResultSlice}
use Rattle.refusal.specs.Chain.{refuse}
use Rattle.stored_formula.specs.Formula.{formula_space}
use Rattle.listing_lines.specs.Text.{text_of}

-- FORMAT 7.13: 12 below 65,536 bytes of work space, then 13 below 32,768 bytes for the text, which
-- are enough for every file
abbrev pub checked : {A : Type 0} → ℕ → ℕ → (Refusal → A) → A → A
checked space size stop go = refuse stop (ltb space 65536) WorkSpace (refuse stop (ltb size 32768) ResultSlice go)

-- FORMAT 7.13: the answer, for a work space and a text slice of so many bytes: the text's length
unfoldable pub listed_answer : List ℕ → ℕ → ℕ → Result ℕ Refusal
listed_answer file space size = checked space size Err (Ok (length (text_of file)))

-- FORMAT 7.13: the text slice afterwards
unfoldable pub listed_text : List ℕ → ℕ → List ℕ → List ℕ
listed_text file space text = checked space (length text) (λ r. text) (over (text_of file) text)

-- FORMAT 7.13: the work space afterwards, as Formula leaves it
unfoldable pub listed_space : List ℕ → List ℕ → ℕ → List ℕ
listed_space file work size = checked (length work) size (λ r. work) (formula_space file work)
