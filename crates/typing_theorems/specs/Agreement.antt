-- Typing agrees with the node's stored formula: a schema types the node exactly when each attribute's subset is allowed
-- in its column, and the output record has the attributes whose output bit stands.
use Rattle.std.specs.Prelude.{ℕ, ◌*◌, ◌≤◌, ◌≡◌, ◌↔◌, List, length, take}
use Rattle.types.specs.Types.{Attrs}
use Rattle.principal.specs.Formula.{Fits}
use Rattle.stored_formula.specs.Formula.{formula_space}
use Rattle.stored_formula.specs.FormulaLaws.{answer-filled, space-filled}
use Rattle.stored_formula.specs.StoredFormula.{formula_in, typed-fits}
use Rattle.type_record.specs.Record.{TypeRecord}
use Rattle.schema.specs.Schema.{assignment_of}
use Rattle.typing_answer.specs.Typing.{typing_answer, typing_out, Typed as TypedAnswer}
use Rattle.typing_theorems.specs.Theorems.{RecordOf, Unrefused, typing-typed}
use Rattle.admission.specs.Admission.{formula_size}

-- Typing, where nothing is refused, and a work space that Formula has filled from the file
module _ (file : List ℕ) (k : ℕ) (schema out : List ℕ) (m n : ℕ) (ts : List TypeRecord) (un : Unrefused file k schema (length out) m n ts) (work : List ℕ) (enough : n * formula_size ≤ length work) where
  -- it answers typed with the record of t exactly when the stored formula allows each attribute as the schema
  -- has it, with the output t
  pub typing-formula :
      (t : Attrs)
      → ((size : ℕ) × ((typing_answer file k schema (length out) ≡ TypedAnswer size) × RecordOf t (take size (typing_out file k schema out))))
      ↔ ((a : ℕ) → Fits (formula_in (formula_space file work) m k) (assignment_of ts) t a)
  typing-formula t =
      let rules = typing-typed file k schema out m n ts un t in
      let filled = space-filled file work m n (answer-filled file (length work) m n un.accepted enough) in
      let formula = typed-fits file m n un.accepted work enough k un.node (assignment_of ts) t in
      rw filled (λ said. formula.0 (rules.1 said), λ fits. rules.0 (formula.1 fits))
