-- Edits (FORMAT 10.16): each of a table gives the edited file and the verdict of its last node, or the refusal of its
-- record: one computed test, and one theorem over Edit and Preview.
use Rattle.std.specs.Prelude.{ℕ, zero, suc, ◌-◌, ◌*◌, ◌≤◌, ◌<◌, ◌≡◌, refl, Bool, true, false, ◌&&◌, T, eqb, ltb, length, get_or, Result, Ok, Err}
use Rattle.std.proofs.Math.Path.{sym, ap}
use Rattle.std.proofs.Common.{◌∙◌, arith, eqb→eq, ltb→lt}
use mathlib.Core.List.{List, [], ◌∷◌}
use Rattle.bits.specs.Bit.{bit}
use Rattle.bits.specs.Lowest.{lowest_from}
use Rattle.bits.specs.Range.{in_range}
use Rattle.bits.specs.Tab.{tab, over}
use Rattle.bits.specs.Total.{total}
use Rattle.bits.specs.Truth.{left, right}
use Rattle.attribute_set.specs.AttrSet.{special, has_attribute, set_of}
use Rattle.types.specs.Memberships.{members}
use Rattle.refusal.specs.Chain.{refuse}
use Rattle.refusal.specs.Number.{number_of, number-once}
use Rattle.refusal.specs.declared.Refusal.{Refusal}
use Rattle.refusal.specs.declared.Refusal.TheVariants.{NodeTruncated, NodeMap, OperatorCode, RelationNumber, Operand, Attribute, NodesFollowed}
use Rattle.node.specs.Operators.{binary_of, set_op_of}
use Rattle.node.specs.ReadNode.{size_of, check_fields, check_node, node_of, read_node}
use Rattle.expression_file.specs.ReadFile.{acceptance, parse, header, read_nodes, placed_at, placed_nodes, start_at, Accepted}
use Rattle.expression_file.specs.Walk.{longest_file}
use Rattle.expression_file.specs.Exchanged.{exchanged}
use Rattle.admission.specs.Admission.{asked, admitted, formula_size}
use Rattle.admission.specs.AdmissionLaws.{asked-passes, admitted-passes}
use Rattle.node_expression.specs.NodeExpression.{expression_at, earlier}
use Rattle.stored_formula.specs.FormulaBytes.{allowed_bit, formulas_of}
use Rattle.set_cover.specs.Remainder.{rest as rest_of}
use Rattle.set_cover.specs.Least.{least}
use Rattle.set_cover.specs.Cost.{cover_table, cost_table, cost}
use Rattle.verdict_answer.specs.First.{lowest_with, fewest_in, blocked_by}
use Rattle.verdict_answer.specs.Verdict.{untypable_in, outcome_in}
use Rattle.verdict_answer.specs.Typability.{without_witness}
use Rattle.verdict_answer.specs.declared.Typability.{Typability}
use Rattle.verdict_answer.specs.declared.Typability.TheVariants.{Typable, Untypable}
use Rattle.edit_answer.specs.Edit.{check_record, edit_sliced, edit_answer, edit_result}
use Rattle.edit_answer.specs.EditLaws.{slice_passes, record-refuses, record-accepted, edit-passes}
use Rattle.preview_answer.specs.Preview.{preview_answer, preview_space}
use Rattle.preview_answer.specs.PreviewLaws.{record-refuses as preview-refuses, record-accepted as preview-accepted, preview-passes}
use Rattle.examples.specs.Cases.{Case, e5, e6, e7, e8}
use Rattle.examples.specs.Holds.{same, same-is, accepts, accepts-is}

-- what comes of an edit: the edited file and the verdict of its last node, or the refusal of the record
pub data EditOutcome : Type 0 where
  edited_to : List ℕ → Typability → EditOutcome
  record_refused : Refusal → EditOutcome

-- a case's file, a node of it, a record, and what comes of exchanging them
pub record EditCase : Type 0 where
  pub of : Case
  pub node : ℕ
  pub replacement : List ℕ
  pub result : EditOutcome

abbrev edit : Case → ℕ → List ℕ → EditOutcome → EditCase
edit x k replacement result = record { of = x; node = k; replacement = replacement; result = result }

-- FORMAT 10.16
unfoldable pub edits : List EditCase
edits =
    -- a wider projection, {1,2,3}, in the query of 10.5: it becomes typable
    edit e5 1 (26 ∷ 0 ∷ 6 ∷ 14 ∷ 0 ∷ []) (edited_to (1 ∷ 3 ∷ 1 ∷ 0 ∷ 26 ∷ 0 ∷ 6 ∷ 14 ∷ 0 ∷ 26 ∷ 1 ∷ 5 ∷ 6 ∷ 0 ∷ []) (Typable 3))
    -- the last node of 10.8 by that of 10.6, and by that of 10.7; and the other way
    ∷ edit e8 1 (98 ∷ 0 ∷ 1 ∷ 1 ∷ []) (edited_to e6.file (Untypable 1))
    ∷ edit e8 1 (14 ∷ 0 ∷ 0 ∷ 4 ∷ []) (edited_to e7.file (Untypable 0))
    ∷ edit e7 1 (26 ∷ 0 ∷ 6 ∷ 0 ∷ 0 ∷ []) (edited_to e8.file (Typable 1))
    -- records that are refused, as node 1 of 10.5
    ∷ edit e5 1 [] (record_refused NodeTruncated)
    ∷ edit e5 1 (26 ∷ 0 ∷ 6 ∷ 14 ∷ []) (record_refused NodeTruncated)
    ∷ edit e5 1 (2 ∷ []) (record_refused NodeMap)
    ∷ edit e5 1 (26 ∷ 0 ∷ 7 ∷ 14 ∷ 0 ∷ []) (record_refused OperatorCode)
    ∷ edit e5 1 (1 ∷ 1 ∷ []) (record_refused RelationNumber)
    ∷ edit e5 1 (26 ∷ 1 ∷ 6 ∷ 14 ∷ 0 ∷ []) (record_refused Operand)
    ∷ edit e5 1 (26 ∷ 0 ∷ 6 ∷ 15 ∷ 0 ∷ []) (record_refused Attribute)
    ∷ edit e5 1 (26 ∷ 0 ∷ 6 ∷ 14 ∷ 0 ∷ 0 ∷ []) (record_refused NodesFollowed)
    ∷ []

-- ---- what holds of one

abbrev pub edit_said : EditOutcome → Result ℕ Refusal
edit_said (edited_to edited t) = Ok (length edited)
edit_said (record_refused r) = Err r

abbrev pub edit_wrote : EditOutcome → List ℕ → List ℕ
edit_wrote (edited_to edited t) result = over edited result
edit_wrote (record_refused r) result = result

abbrev pub preview_said : EditOutcome → Result Typability Refusal
preview_said (edited_to edited t) = Ok t
preview_said (record_refused r) = Err r

abbrev pub preview_filled : EditOutcome → ℕ → ℕ → List ℕ → List ℕ
preview_filled (edited_to edited t) m n work = over (formulas_of edited m n) work
preview_filled (record_refused r) m n work = work

-- Edit and Preview, in slices that are long enough
pub record EditHolds (x : EditCase) (result work : List ℕ) : Type 0 where
  pub answer : edit_answer x.of.file x.node x.replacement (length result) ≡ edit_said x.result
  pub slice : edit_result x.of.file x.node x.replacement result ≡ edit_wrote x.result result
  pub previewed : preview_answer x.of.file x.node x.replacement (length work) ≡ preview_said x.result
  pub space : preview_space x.of.file x.node x.replacement work ≡ preview_filled x.result x.of.relations x.of.nodes work

-- ---- the test

same_verdict : Typability → Typability → Bool
same_verdict (Typable c) (Typable d) = eqb c d
same_verdict (Untypable a) (Untypable b) = eqb a b
same_verdict (Typable c) (Untypable b) = false
same_verdict (Untypable a) (Typable d) = false

-- the verdict of the last node of a case's edited file
abbrev last_verdict : EditCase → Typability
last_verdict x = without_witness (outcome_in x.of.relations (allowed_bit x.of.relations (expression_at (exchanged x.of.file x.node x.replacement) (x.of.nodes - 1))))

record_passes : EditCase → Result ℕ Refusal → EditOutcome → Bool
record_passes x (Ok size) (edited_to edited t) = same (exchanged x.of.file x.node x.replacement) edited && same_verdict (last_verdict x) t
record_passes x (Ok size) (record_refused r) = false
record_passes x (Err q) (edited_to edited t) = false
record_passes x (Err q) (record_refused r) = eqb (number_of q) (number_of r)

passes : EditCase → Bool
passes x =
    accepts (acceptance x.of.file) x.of.relations x.of.nodes
    && ltb x.node x.of.nodes
    && record_passes x (check_record x.of.relations x.node x.replacement) x.result

every : List EditCase → Bool
every [] = true
every (x ∷ xs) = passes x && every xs

-- ---- from the test to the facts

verdict-is : (t u : Typability) → T (same_verdict t u) → t ≡ u
unfolding same_verdict
verdict-is (Typable c) (Typable d) t = ap Typable (eqb→eq c d t)
verdict-is (Untypable a) (Untypable b) t = ap Untypable (eqb→eq a b t)
verdict-is (Typable c) (Untypable b) t = absurd t
verdict-is (Untypable a) (Typable d) t = absurd t

module _
    (x : EditCase) (result work : List ℕ) (room : longest_file ≤ length result)
    (space : x.of.nodes * formula_size ≤ length work)
    (accepted : acceptance x.of.file ≡ Accepted x.of.relations x.of.nodes)
    (below : x.node < x.of.nodes)
  where
    sliced : edit_sliced (asked x.of.file x.node) (length result) ≡ Accepted x.of.relations x.of.nodes
    sliced = slice_passes (asked x.of.file x.node) (length result) (asked-passes x.of.file x.node accepted below) room

    admits : admitted x.of.file x.node (length work) ≡ Accepted x.of.relations x.of.nodes
    admits = admitted-passes x.of.file x.node (length work) (record { accepted = accepted; node = below; work_space = space })

    by-record :
        (y : EditOutcome)
        → x.result ≡ y
        → (c : Result ℕ Refusal)
        → check_record x.of.relations x.node x.replacement ≡ c
        → T (record_passes x c y)
        → EditHolds x result work
    unfolding record_passes
    by-record (edited_to edited t) is (Ok size) check pass =
        let whole = exchanged x.of.file x.node x.replacement in
        let file-is = same-is whole edited (left (same whole edited) (same_verdict (last_verdict x) t) pass) in
        let verdict = verdict-is (last_verdict x) t (right (same whole edited) (same_verdict (last_verdict x) t) pass) in
        let edits = edit-passes x.of.file x.node x.replacement result (record-accepted x.of.file x.node x.replacement result sliced check) in
        let previews = preview-passes x.of.file x.node x.replacement work (preview-accepted x.of.file x.node x.replacement work admits check) in
        record {
          answer = sym edits.0 ∙ ap (λ (l : List ℕ). Ok (length l)) file-is ∙ ap edit_said (sym is);
          slice = sym edits.1 ∙ ap (λ (l : List ℕ). over l result) file-is ∙ ap (λ (y : EditOutcome). edit_wrote y result) (sym is);
          previewed = sym previews.0 ∙ ap Ok verdict ∙ ap preview_said (sym is);
          space =
              sym previews.1
              ∙ ap (λ (l : List ℕ). over (formulas_of l x.of.relations x.of.nodes) work) file-is
              ∙ ap (λ (y : EditOutcome). preview_filled y x.of.relations x.of.nodes work) (sym is);
        }
    by-record (edited_to edited t) is (Err q) check pass = absurd pass
    by-record (record_refused r) is (Ok size) check pass = absurd pass
    by-record (record_refused r) is (Err q) check pass =
        let named = number-once q r (eqb→eq (number_of q) (number_of r) pass) in
        let edits = record-refuses x.of.file x.node x.replacement result sliced q check in
        let previews = preview-refuses x.of.file x.node x.replacement work admits q check in
        record {
          answer = sym edits.0 ∙ ap Err named ∙ ap edit_said (sym is);
          slice = sym edits.1 ∙ ap (λ (y : EditOutcome). edit_wrote y result) (sym is);
          previewed = sym previews.0 ∙ ap Err named ∙ ap preview_said (sym is);
          space = sym previews.1 ∙ ap (λ (y : EditOutcome). preview_filled y x.of.relations x.of.nodes work) (sym is);
        }

edit-holds : (x : EditCase) → T (passes x) → (result work : List ℕ) → longest_file ≤ length result → x.of.nodes * formula_size ≤ length work → EditHolds x result work
unfolding passes
edit-holds x t result work room space =
    let a = accepts (acceptance x.of.file) x.of.relations x.of.nodes in
    let b = ltb x.node x.of.nodes in
    let c = record_passes x (check_record x.of.relations x.node x.replacement) x.result in
    let front = left (a && b) c t in
    by-record x result work room space (accepts-is (acceptance x.of.file) x.of.relations x.of.nodes (left a b front)) (ltb→lt x.node x.of.nodes (right a b front))
    x.result refl (check_record x.of.relations x.node x.replacement) refl (right (a && b) c t)

-- one that is none, for a place past the table
abbrev pub no_edit : EditCase
no_edit = edit e5 0 [] (record_refused NodeTruncated)

each : (xs : List EditCase) → T (every xs) → (i : ℕ) → i < length xs → (result work : List ℕ) → longest_file ≤ length result → (get_or xs i no_edit).of.nodes * formula_size ≤ length work → EditHolds (get_or xs i no_edit) result work
unfolding every
each [] t i h result work room space = absurd (omega arith)
each (x ∷ xs) t zero h result work room space = edit-holds x (left (passes x) (every xs) t) result work room space
each (x ∷ xs) t (suc i) h result work room space = each xs (right (passes x) (every xs) t) i (omega arith) result work room space

-- the theorem: every edit of the table does what it says; antt computes the test
pub edits-hold : (i : ℕ) → i < length edits → (result work : List ℕ) → longest_file ≤ length result → (get_or edits i no_edit).of.nodes * formula_size ≤ length work → EditHolds (get_or edits i no_edit) result work
unfolding every passes record_passes same_verdict same accepts edits check_record exchanged start_at outcome_in
    untypable_in blocked_by fewest_in lowest_with members total cost cost_table cover_table least rest_of tab bit lowest_from allowed_bit expression_at earlier
    acceptance parse header read_nodes read_node check_node check_fields size_of node_of refuse in_range special has_attribute set_of binary_of set_op_of placed_at placed_nodes
edits-hold = each edits tt
