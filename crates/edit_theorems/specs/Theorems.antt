-- What Edit and Preview promise (FORMAT 7.27, 7.28), on the operations' own equations: what Edit writes, that Preview is
-- Verdict after Edit, and demand 3 for Preview's verdicts, over the typing rules (FORMAT 2.6 to 2.14). A reader needs,
-- besides this page:
--   exchanged        the edited file: a file with one record exchanged      (crate expression_file, Exchanged)
--   acceptance, node_at   whether a file is accepted; its nodes              (crate expression_file, ReadFile)
--   record_of         what Record returns, by its contract                   (crate record, Record)
--   edit_answer, edit_result   what Edit leaves, by its contract              (crate edit_answer, Edit)
--   preview_answer, preview_space   what Preview leaves, by its contract      (crate preview_answer, Preview)
--   verdict_answer, verdict_space   what Verdict leaves, by its contract      (crate verdict_answer, Verdict)
--   without_witness   what is left of Verdict's answer without the witness   (crate verdict_answer, Typability)
--   formula_space     what Formula leaves, by its contract                   (crate stored_formula, Formula)
--   FilledTyping     a filled assignment, and a type that the rules derive under it   (crate principal, Principal)
--   expression_at     the expression of a node                               (crate node_expression, NodeExpression)
use Rattle.std.specs.Prelude.{ℕ, ◌-◌, ◌*◌, ◌≤◌, ◌≡◌, List, length, get_or, take, Result, Ok, Err}
use Rattle.refusal.specs.declared.Refusal.{Refusal}
use Rattle.expression_file.specs.ReadFile.{acceptance, Accepted}
use Rattle.expression_file.specs.Walk.{longest_file}
use Rattle.admission.specs.Admission.{formula_size}
use Rattle.schema.specs.Schema.{schema_size}
use Rattle.edit_answer.specs.Edit.{edit_result}

-- ---- Edit

-- what Edit wrote: the first bytes of its result slice
abbrev pub written_part : List ℕ → ℕ → List ℕ → List ℕ → ℕ → List ℕ
written_part file k replacement result size = take size (edit_result file k replacement result)

-- ---- Preview is Verdict after Edit

-- the last node of a file: byte 1 is the node count
abbrev pub last_node : List ℕ → ℕ
last_node file = get_or file 1 0 - 1

-- what comes after Edit: the refusal, or what comes with the file that it wrote
abbrev pub after_edit : {A : Type 0} → Result ℕ Refusal → (Refusal → A) → (ℕ → A) → A
after_edit (Err r) stop go = stop r
after_edit (Ok size) stop go = go size

-- no lent slice is too short: the work space (12), Edit's result slice (27), Verdict's schema slice (13)
pub record LongEnough (file work result schema : List ℕ) : Type 0 where
  pub work_space : (m n : ℕ) → acceptance file ≡ Accepted m n → n * formula_size ≤ length work
  pub result_slice : longest_file ≤ length result
  pub schema_slice : schema_size ≤ length schema
