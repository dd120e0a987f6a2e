-- What Edit and Preview promise (FORMAT 7.27, 7.28), on the operations' own equations: what Edit writes, that Preview is
-- Verdict after Edit, and demand 3 for Preview's verdicts, over the typing rules (FORMAT 2.6 to 2.14). A reader needs,
-- besides this page:
--   exchanged        the edited file: a file with one record exchanged      (crate expression_file, Exchanged)
--   acceptance, node_at   whether a file is accepted; its nodes              (crate expression_file, ReadFile)
--   record_of         what Record returns, by its contract                   (crate record, Record)
--   edit_answer, edit_result   what Edit leaves, by its contract              (crate edit_answer, Edit)
--   preview_answer, preview_space   what Preview leaves, by its contract      (crate preview_answer, Preview)
--   verdict_answer, verdict_space   what Verdict leaves, by its contract      (crate verdict_answer, Verdict)
--   answer_without_witness   what is left of Verdict's answer without the witness   (crate verdict_answer, Typability)
--   formula_space     what Formula leaves, by its contract                   (crate stored_formula, Formula)
--   FilledTyping     a filled assignment, and a type that the rules derive under it   (crate principal, Principal)
--   expression_at     the expression of a node                               (crate node_expression, NodeExpression)
use Rattle.std.specs.Prelude.{ℕ, ◌-◌, ◌≤◌, ◌<◌, ◌≡◌, refl, ◌↔◌, List, length, drop, replicate, Result, Err, Ok}
use Rattle.std.proofs.Common.{sym, ap, ap₂, ◌∙◌, arith, drop_at}
use Rattle.std.proofs.Math.Decide.{dec_lt}
use Rattle.std.proofs.lemmas.List.{length-replicate}
use Rattle.bits.specs.Tab.{over, over-with, take-over}
use Rattle.types.specs.Memberships.{memberships, Within}
use Rattle.principal.specs.Principal.{FilledTyping}
use Rattle.refusal.specs.declared.Refusal.{Refusal}
use Rattle.refusal.specs.declared.Refusal.TheVariants.{NodeNumber}
use Rattle.node.specs.ReadNode.{node_of, read_node, Read}
use Rattle.expression_file.specs.ReadFile.{PlacedNode, acceptance, node_at, Accepted}
use Rattle.expression_file.specs.Accepted.{accepted-file, accepted-parts}
use Rattle.expression_file.specs.Exchanged.{exchanged}
use Rattle.expression_file.proofs.Exchanged.{exchanged-here, exchanged-other}
use Rattle.admission.specs.Admission.{asked, admitted}
use Rattle.admission.specs.AdmissionLaws.{asked-passes, asked-passed, asked-stops, admitted-passes, admitted-refused, sliced-passes}
use Rattle.record.specs.Record.{record_of}
use Rattle.record.specs.RecordLaws.{record-found, record-refused}
use Rattle.node_expression.specs.NodeExpression.{expression_at}
use Rattle.stored_formula.specs.FormulaBytes.{allowed_bit, formulas_of}
use Rattle.stored_formula.specs.Formula.{formula_space}
use Rattle.stored_formula.specs.FormulaLaws.{admitted-space}
use Rattle.schema.specs.Schema.{schema_size, assignment_of}
use Rattle.edit_answer.specs.Edit.{recorded, edit_sliced, edit_tests, edit_answer, edit_result}
use Rattle.edit_answer.specs.EditLaws.{slice-refused, slice_passes, Exchanges, edit-passed, edit-stops, edit-passes, tests-are as edit-tests}
use Rattle.preview_answer.specs.Preview.{preview_tests, preview_answer, preview_space}
use Rattle.preview_answer.specs.PreviewLaws.{edited-accepted, edited-admits, preview-passed, preview-stops, preview-passes, tests-are as preview-tests}
use Rattle.verdict_answer.specs.Verdict.{outcome_in, verdict_answer, verdict_space}
use Rattle.verdict_answer.proofs.VerdictLaws.{verdict-passes}
use Rattle.verdict_answer.specs.Typability.{without_witness, answer_without_witness}
use Rattle.verdict_answer.proofs.WithoutWitness.{typability-given}
use Rattle.verdict_answer.specs.declared.Outcome.{Outcome}
use Rattle.verdict_answer.specs.declared.Outcome.TheVariants.{Typable as TypableBy, Untypable as UntypableBy}
use Rattle.verdict_answer.specs.declared.Typability.TheVariants.{Typable, Untypable}
use Rattle.verdict_theorems.specs.WitnessLaws.{Witness}
use Rattle.verdict_theorems.specs.Theorems.{verdict-untypable, verdict-witness, verdict-memberships, verdict-fewest}
use Rattle.edit_theorems.specs.Theorems.{LongEnough, after_edit, last_node, written_part}
use Rattle.expression_file.specs.declared.files.Header.{Header}

-- ---- Edit

-- Edit does not refuse
module _ (file : List ℕ) (k : ℕ) (replacement result : List ℕ) (size : ℕ) (written : edit_answer file k replacement (length result) ≡ Ok size) where
  -- what holds then: the old file and the record
  record Edited : Type 0 where
    m : ℕ
    n : ℕ
    exchanges : Exchanges file k replacement m n
    part : written_part file k replacement result size ≡ exchanged file k replacement
    rest : drop size (edit_result file k replacement result) ≡ drop size result

  wrote : Edited
  wrote = go (edit_tests file k replacement (length result)) refl
    where
      go : (a : Result Header Refusal) → edit_tests file k replacement (length result) ≡ a → Edited
      go (Err r) is = absurd (let both = (edit-stops file k replacement result r is).0 ∙ written in let z : ◌≡◌ {A = ℕ} 0 1 = cc in omega arith)
      go (Ok h) is =
          let passes = edit-passes file k replacement result is in
          let whole = passes.0 ∙ written in
          let size_is : length (exchanged file k replacement) ≡ size = cc in
          record {
            m = h.relations;
            n = h.nodes;
            exchanges = (edit-passed file k replacement result is).0;
            part = rw (← size_is, ← passes.1) (take-over (exchanged file k replacement) result);
            rest = rw (← size_is, ← passes.1, over-with (exchanged file k replacement) result) (drop_at (exchanged file k replacement) (drop (length (exchanged file k replacement)) result) (length (exchanged file k replacement)) refl);
          }

  -- it is the edited file
  pub edit-writes : written_part file k replacement result size ≡ exchanged file k replacement
  edit-writes = wrote.part

  -- the rest of the slice stays
  pub edit-rest : drop size (edit_result file k replacement result) ≡ drop size result
  edit-rest = wrote.rest

  -- it is an accepted file with the m and n of the old one
  pub edit-accepted : (m : ℕ) × ((n : ℕ) × ((acceptance file ≡ Accepted m n) × (acceptance (written_part file k replacement result size) ≡ Accepted m n)))
  edit-accepted = let w = wrote in (w.m, (w.n, (w.exchanges.accepted, ap acceptance w.part ∙ edited-accepted w.exchanges)))

  -- Record gives the record back at node k
  pub edit-record : record_of (written_part file k replacement result size) k ≡ replacement
  edit-record =
      let w = wrote in
      let e = w.exchanges in
      rw w.part
      ((record-found (exchanged file k replacement) k w.m w.n (asked-passes (exchanged file k replacement) k (edited-accepted e) e.node)).0
      ∙ ap (λ (p : PlacedNode). p.bytes) (exchanged-here file w.m w.n e.accepted k e.node replacement (node_of replacement) e.reads))

  -- and the old record of every other node, byte by byte; past the last node both are empty
  pub edit-others : (j : ℕ) → (j ≡ k → ⊥) → record_of (written_part file k replacement result size) j ≡ record_of file j
  edit-others j other = let w = wrote in rw w.part (go w (dec_lt j w.n))
    where
      go : (w : Edited) → Dec (j < w.n) → record_of (exchanged file k replacement) j ≡ record_of file j
      go w (yes below) =
          let e = w.exchanges in
          (record-found (exchanged file k replacement) j w.m w.n (asked-passes (exchanged file k replacement) j (edited-accepted e) below)).0
          ∙ ap (λ (p : PlacedNode). p.bytes) (exchanged-other file w.m w.n e.accepted k e.node replacement (node_of replacement) e.reads j other)
          ∙ sym (record-found file j w.m w.n (asked-passes file j e.accepted below)).0
      go w (no past) =
          let e = w.exchanges in
          (record-refused (exchanged file k replacement) j NodeNumber (asked-stops (exchanged file k replacement) j (edited-accepted e) (omega arith))).0
          ∙ sym (record-refused file j NodeNumber (asked-stops file j e.accepted (omega arith))).0

  -- node k is the record's node: what reading the record as node k of a file with m relations gives
  pub edit-node : (m n : ℕ) → acceptance file ≡ Accepted m n → read_node m k replacement ≡ Read (node_at (written_part file k replacement result size) k) (length replacement)
  edit-node m n accepted =
      let w = wrote in
      let e = w.exchanges in
      let counts = sym e.accepted ∙ accepted in
      let relations : w.m ≡ m = (accepted-parts counts).0 in
      let here = exchanged-here file w.m w.n e.accepted k e.node replacement (node_of replacement) e.reads in
      rw (← relations) (e.reads ∙ sym (ap (λ (f : List ℕ). Read (node_at f k) (length replacement)) w.part ∙ ap (λ (p : PlacedNode). Read p.node (length replacement)) here))

  -- every other node is as it was
  pub edit-nodes : (j : ℕ) → (j ≡ k → ⊥) → node_at (written_part file k replacement result size) j ≡ node_at file j
  edit-nodes j other =
      let w = wrote in
      let e = w.exchanges in
      rw w.part (ap (λ (p : PlacedNode). p.node) (exchanged-other file w.m w.n e.accepted k e.node replacement (node_of replacement) e.reads j other))

-- a refusal changes nothing
pub edit-refused : (file : List ℕ) (k : ℕ) (replacement result : List ℕ) (r : Refusal) → edit_answer file k replacement (length result) ≡ Err r → edit_result file k replacement result ≡ result
edit-refused file k replacement result r said = go (edit_tests file k replacement (length result)) refl
  where
    go : (a : Result Header Refusal) → edit_tests file k replacement (length result) ≡ a → edit_result file k replacement result ≡ result
    go (Err q) is = sym (edit-stops file k replacement result q is).1
    go (Ok h) is = absurd (let both = (edit-passes file k replacement result is).0 ∙ said in let z : ◌≡◌ {A = ℕ} 0 1 = cc in omega arith)

pub preview-refused : (file : List ℕ) (k : ℕ) (replacement work : List ℕ) (r : Refusal) → preview_answer file k replacement (length work) ≡ Err r → preview_space file k replacement work ≡ work
preview-refused file k replacement work r said = go (preview_tests file k replacement (length work)) refl
  where
    go : (a : Result Header Refusal) → preview_tests file k replacement (length work) ≡ a → preview_space file k replacement work ≡ work
    go (Err q) is = sym (preview-stops file k replacement work q is).1
    go (Ok h) is = absurd (typability-given h.relations (allowed_bit h.relations (expression_at (exchanged file k replacement) (h.nodes - 1))) r ((preview-passes file k replacement work is).0 ∙ said))

-- ---- Preview is Verdict after Edit

module _ (file : List ℕ) (k : ℕ) (replacement work result schema : List ℕ) (long : LongEnough file work result schema) where
  -- the file that Edit writes
  abbrev pub edited : ℕ → List ℕ
  edited size = written_part file k replacement result size

  -- the tests of both are then those of the file, the node and the record
  same_tests : preview_tests file k replacement (length work) ≡ edit_tests file k replacement (length result)
  same_tests =
      sym (preview-tests file k replacement work (admitted file k (length work)) _ refl refl)
      ∙ ap (λ (a : Result Header Refusal). recorded a k replacement) (go (asked file k) refl)
      ∙ edit-tests file k replacement result (asked file k) (edit_sliced (asked file k) (length result)) _ refl refl refl
    where
      go : (a : Result Header Refusal) → asked file k ≡ a → admitted file k (length work) ≡ edit_sliced (asked file k) (length result)
      go (Err r) is = admitted-refused file k (length work) is ∙ sym (slice-refused (asked file k) (length result) is)
      go (Ok h) is =
          let found = asked-passed file k is in
          admitted-passes file k (length work) (record { accepted = found.0; node = found.1; work_space = long.work_space h.relations h.nodes found.0 })
          ∙ sym (slice_passes (asked file k) (length result) is long.result_slice)

  -- none of them refuses: the last node of what Edit wrote is node n - 1 of the edited file, which Verdict admits
  module _ {m n : ℕ} (passes : edit_tests file k replacement (length result) ≡ Accepted m n) where
    exchanges : Exchanges file k replacement m n
    exchanges = (edit-passed file k replacement result passes).0

    last-is : last_node (exchanged file k replacement) ≡ n - 1
    last-is = ap (λ (i : ℕ). i - 1) (accepted-file (exchanged file k replacement) m n (edited-accepted exchanges)).counts.second

    last-admitted : admitted (exchanged file k replacement) (n - 1) (length work) ≡ Accepted m n
    last-admitted = admitted-passes (exchanged file k replacement) (n - 1) (length work) (edited-admits work exchanges (long.work_space m n exchanges.accepted))

    last-verdict :
        (verdict_answer (exchanged file k replacement) (last_node (exchanged file k replacement)) (length work) (length schema) ≡ Ok (outcome_in m (allowed_bit m (expression_at (exchanged file k replacement) (n - 1)))))
        × (verdict_space (exchanged file k replacement) (last_node (exchanged file k replacement)) work (length schema) ≡ over (formulas_of (exchanged file k replacement) m n) work)
    last-verdict =
        let gives = verdict-passes (exchanged file k replacement) (n - 1) work schema m n (sliced-passes (admitted (exchanged file k replacement) (n - 1) (length work)) (length schema) schema_size last-admitted long.schema_slice) in
        rw last-is (sym gives.0, sym gives.1.0)

  -- the answer, and the work space, are those of Verdict on the file that Edit writes, at its last node; the refusals
  -- are Edit's
  pub preview-verdict : preview_answer file k replacement (length work) ≡ after_edit (edit_answer file k replacement (length result)) Err (λ size. answer_without_witness (verdict_answer (edited size) (last_node (edited size)) (length work) (length schema)))
  preview-verdict = go (edit_tests file k replacement (length result)) refl
    where
      go :
          (a : Result Header Refusal)
          → edit_tests file k replacement (length result) ≡ a
          → preview_answer file k replacement (length work)
          ≡ after_edit (edit_answer file k replacement (length result)) Err (λ size. answer_without_witness (verdict_answer (edited size) (last_node (edited size)) (length work) (length schema)))
      go (Err r) is =
          rw (← (edit-stops file k replacement result r is).0) (sym (preview-stops file k replacement work r (same_tests ∙ is)).0)
      go (Ok h) is =
          let said = (edit-passes file k replacement result is).0 in
          let part = edit-writes file k replacement result (length (exchanged file k replacement)) (sym said) in
          rw (← said, part) (sym (preview-passes file k replacement work (same_tests ∙ is)).0 ∙ sym (ap answer_without_witness (last-verdict is).0))

  pub preview-space : preview_space file k replacement work ≡ after_edit (edit_answer file k replacement (length result)) (λ r. work) (λ size. verdict_space (edited size) (last_node (edited size)) work (length schema))
  preview-space = go (edit_tests file k replacement (length result)) refl
    where
      go :
          (a : Result Header Refusal)
          → edit_tests file k replacement (length result) ≡ a
          → preview_space file k replacement work
          ≡ after_edit (edit_answer file k replacement (length result)) (λ r. work) (λ size. verdict_space (edited size) (last_node (edited size)) work (length schema))
      go (Err r) is =
          rw (← (edit-stops file k replacement result r is).0) (sym (preview-stops file k replacement work r (same_tests ∙ is)).1)
      go (Ok h) is =
          let said = (edit-passes file k replacement result is).0 in
          let part = edit-writes file k replacement result (length (exchanged file k replacement)) (sym said) in
          rw (← said, part) (sym (preview-passes file k replacement work (same_tests ∙ is)).1 ∙ sym (last-verdict is).1)

  -- the same work space is what Formula leaves of that file
  pub preview-formulas : preview_space file k replacement work ≡ after_edit (edit_answer file k replacement (length result)) (λ r. work) (λ size. formula_space (edited size) work)
  preview-formulas = go (edit_tests file k replacement (length result)) refl
    where
      go :
          (a : Result Header Refusal)
          → edit_tests file k replacement (length result) ≡ a
          → preview_space file k replacement work ≡ after_edit (edit_answer file k replacement (length result)) (λ r. work) (λ size. formula_space (edited size) work)
      go (Err r) is =
          rw (← (edit-stops file k replacement result r is).0) (sym (preview-stops file k replacement work r (same_tests ∙ is)).1)
      go (Ok h) is =
          let said = (edit-passes file k replacement result is).0 in
          let part = edit-writes file k replacement result (length (exchanged file k replacement)) (sym said) in
          rw (← said, part) (sym (preview-passes file k replacement work (same_tests ∙ is)).1 ∙ admitted-space (exchanged file k replacement) (h.nodes - 1) work h.relations h.nodes (last-admitted is))

  -- Preview refuses exactly what Edit refuses, with the same number
  pub preview-refuses : (r : Refusal) → (preview_answer file k replacement (length work) ≡ Err r) ↔ (edit_answer file k replacement (length result) ≡ Err r)
  preview-refuses r = go (edit_tests file k replacement (length result)) refl
    where
      go : (a : Result Header Refusal) → edit_tests file k replacement (length result) ≡ a → (preview_answer file k replacement (length work) ≡ Err r) ↔ (edit_answer file k replacement (length result) ≡ Err r)
      go (Err q) is =
          let previewed = (preview-stops file k replacement work q (same_tests ∙ is)).0 in
          let edited = (edit-stops file k replacement result q is).0 in (
            (λ said. let same : q ≡ r = cc in sym edited ∙ ap Err same),
            (λ said. let same : q ≡ r = cc in sym previewed ∙ ap Err same),
          )
      go (Ok h) is = (
        (λ said. absurd (typability-given h.relations (allowed_bit h.relations (expression_at (exchanged file k replacement) (h.nodes - 1))) r ((preview-passes file k replacement work (same_tests ∙ is)).0 ∙ said))),
        (λ said. absurd (let both = (edit-passes file k replacement result is).0 ∙ said in let z : ◌≡◌ {A = ℕ} 0 1 = cc in omega arith)),
      )

-- ---- demand 3: a verdict that Preview gives, of the last node of the edited file of an accepted file

module _ (file : List ℕ) (m n : ℕ) (accepted : acceptance file ≡ Accepted m n) (k : ℕ) (replacement work : List ℕ) where
  -- what Preview says where it does not refuse, as Verdict says it with some schema slice
  record Said : Type 0 where
    edited : acceptance (exchanged file k replacement) ≡ Accepted m n
    last : n - 1 < n
    schema : List ℕ
    answer : preview_answer file k replacement (length work) ≡ answer_without_witness (verdict_answer (exchanged file k replacement) (n - 1) (length work) (length schema))
    given : (r : Refusal) → verdict_answer (exchanged file k replacement) (n - 1) (length work) (length schema) ≡ Err r → ⊥

  said : ((r : Refusal) → preview_answer file k replacement (length work) ≡ Err r → ⊥) → Said
  said other = go (preview_tests file k replacement (length work)) refl
    where
      go : (a : Result Header Refusal) → preview_tests file k replacement (length work) ≡ a → Said
      go (Err r) is = absurd (other r (sym (preview-stops file k replacement work r is).0))
      go (Ok h) is =
          let passed = preview-passed file k replacement work is in
          let counts = sym passed.0.accepted ∙ accepted in
          let parts = accepted-parts counts in
          let relations : h.relations ≡ m = parts.0 in
          let nodes : h.nodes ≡ n = parts.1 in
          let here : preview_tests file k replacement (length work) ≡ Accepted m n = is ∙ ap₂ Accepted relations nodes in
          let own = preview-passed file k replacement work here in
          let admits = edited-admits work own.0 own.1 in
          let schema : List ℕ = replicate schema_size 0 in
          let size = length-replicate {A = ℕ} schema_size 0 in
          let slice = sliced-passes (admitted (exchanged file k replacement) (n - 1) (length work)) (length schema) schema_size (admitted-passes (exchanged file k replacement) (n - 1) (length work) admits) (omega arith) in
          let outcome = (verdict-passes (exchanged file k replacement) (n - 1) work schema m n slice).0 in
          let answer = sym (preview-passes file k replacement work here).0 ∙ ap answer_without_witness outcome in
          record {
            edited = admits.accepted;
            last = admits.node;
            schema = schema;
            answer = answer;
            given = λ r refused. other r (answer ∙ ap answer_without_witness refused);
          }

  -- untypable is said exactly where no filled assignment types the edited file's last node
  pub preview-untypable :
      ((r : Refusal) → preview_answer file k replacement (length work) ≡ Err r → ⊥)
      → ((a : ℕ) × (preview_answer file k replacement (length work) ≡ Ok (Untypable a))) ↔ (FilledTyping m (expression_at (exchanged file k replacement) (n - 1)) → ⊥)
  preview-untypable other = let s = said other in go s (verdict-untypable (exchanged file k replacement) m n s.edited (n - 1) s.last work s.schema s.given)
    where
      untypable-by : (o : Result Outcome Refusal) (a : ℕ) → answer_without_witness o ≡ Ok (Untypable a) → o ≡ Ok (UntypableBy a)
      untypable-by (Ok (TypableBy size count)) a e = absurd (let z : ◌≡◌ {A = ℕ} 0 1 = cc in omega arith)
      untypable-by (Ok (UntypableBy b)) a e = let same : b ≡ a = cc in ap (λ (x : ℕ). Ok (UntypableBy x)) same
      untypable-by (Err r) a e = absurd (let z : ◌≡◌ {A = ℕ} 0 1 = cc in omega arith)

      go :
          (s : Said)
          → (((a : ℕ) × (verdict_answer (exchanged file k replacement) (n - 1) (length work) (length s.schema) ≡ Ok (UntypableBy a))) ↔ (FilledTyping m (expression_at (exchanged file k replacement) (n - 1)) → ⊥))
          → ((a : ℕ) × (preview_answer file k replacement (length work) ≡ Ok (Untypable a))) ↔ (FilledTyping m (expression_at (exchanged file k replacement) (n - 1)) → ⊥)
      go s right = (
        (λ u. right.0 (u.0, untypable-by _ u.0 (sym s.answer ∙ u.1))),
        (λ none. let u = right.1 none in (u.0, s.answer ∙ ap answer_without_witness u.1)),
      )

  -- ---- typable: the number of memberships

  module _ (count : ℕ) (typable : preview_answer file k replacement (length work) ≡ Ok (Typable count)) where
    not-refused : (r : Refusal) → preview_answer file k replacement (length work) ≡ Err r → ⊥
    not-refused r refused = let both = sym typable ∙ refused in let z : ◌≡◌ {A = ℕ} 0 1 = cc in omega arith

    -- Verdict gives a witness, and the same number
    record Witnessed : Type 0 where
      own : Said
      size : ℕ
      answered : verdict_answer (exchanged file k replacement) (n - 1) (length work) (length own.schema) ≡ Ok (TypableBy size count)

    witnessed : Witnessed
    witnessed = go (said not-refused)
      where
        typable-by : (o : Result Outcome Refusal) → answer_without_witness o ≡ Ok (Typable count) → (size : ℕ) × (o ≡ Ok (TypableBy size count))
        typable-by (Ok (TypableBy size c)) e = let same : c ≡ count = cc in (size, ap (λ (x : ℕ). Ok (TypableBy size x)) same)
        typable-by (Ok (UntypableBy a)) e = absurd (let z : ◌≡◌ {A = ℕ} 0 1 = cc in omega arith)
        typable-by (Err r) e = absurd (let z : ◌≡◌ {A = ℕ} 0 1 = cc in omega arith)

        go : Said → Witnessed
        go s = let by = typable-by _ (sym s.answer ∙ typable) in record { own = s; size = by.0; answered = by.1 }

    -- a schema of so many memberships, in which every relation has an attribute, types the edited file's last node
    pub preview-attained :
        (bytes : List ℕ)
        × ((w : Witness m (expression_at (exchanged file k replacement) (n - 1)) bytes)
        × ((bound : ℕ) → Within m (assignment_of w.records) bound → memberships m (assignment_of w.records) bound ≡ count))
    preview-attained =
        let v = witnessed in
        let s = v.own in
        let w = verdict-witness (exchanged file k replacement) m n s.edited (n - 1) s.last work s.schema v.size count v.answered in
        (_, (w, verdict-memberships (exchanged file k replacement) m n s.edited (n - 1) s.last work s.schema v.size count v.answered w))

    -- no filled assignment that types it has fewer
    pub preview-fewest :
        (t : FilledTyping m (expression_at (exchanged file k replacement) (n - 1))) (bound : ℕ)
        → Within m t.typing.assignment bound
        → count ≤ memberships m t.typing.assignment bound
    preview-fewest =
        let v = witnessed in
        let s = v.own in
        verdict-fewest (exchanged file k replacement) m n s.edited (n - 1) s.last work s.schema v.size count v.answered
