-- Each case of the table holds: one computed test, and one theorem that turns it into the facts of a case.
use Rattle.std.specs.Prelude.{ℕ, zero, suc, ◌+◌, ◌-◌, ◌*◌, ◌^◌, ◌≤◌, ◌<◌, ◌≡◌, refl, Bool, true, false, cond, ◌&&◌, List, [], ◌∷◌, T, eqb, ltb, length, get_or, Result, Err, Option, Ok}
use Rattle.std.proofs.Common.{sym, ap, ap₂, ◌∙◌, le_refl, arith, eqb→eq, ltb→lt}
use Rattle.bits.specs.Bit.{bit}
use Rattle.bits.specs.Lowest.{lowest_from}
use Rattle.bits.specs.Pack.{pack}
use Rattle.bits.specs.Range.{in_range}
use Rattle.bits.specs.Tab.{tab, over}
use Rattle.bits.specs.Total.{total}
use Rattle.bits.specs.Word.{word}
use Rattle.attribute_set.specs.AttrSet.{special, has_attribute, set_of}
use Rattle.types.specs.Memberships.{members}
use Rattle.refusal.specs.Chain.{refuse}
use Rattle.refusal.specs.Number.{number_of, number-once}
use Rattle.refusal.specs.declared.Refusal.{Refusal}
use Rattle.refusal.specs.declared.Refusal.TheVariants.{EmptyImage}
use Rattle.node.specs.Operators.{binary_of, set_op_of}
use Rattle.node.specs.ReadNode.{size_of, check_fields, check_node, node_of, read_node}
use Rattle.expression_file.specs.ReadFile.{acceptance, parse, header, read_nodes, placed_at, placed_nodes as node_entries, Accepted}
use Rattle.admission.specs.Admission.{asked, sliced, admitted, formula_size}
use Rattle.admission.specs.AdmissionLaws.{sliced-passes, asked-passes, admitted-passes}
use Rattle.algebra.specs.Expression.{Expression}
use Rattle.bits.specs.Truth.{is_true, left, right}
use Rattle.node_expression.specs.NodeExpression.{expression_at, earlier}
use Rattle.stored_formula.specs.FormulaBytes.{allowed_bit, output_bit, formulas_of}
use Rattle.set_cover.specs.Remainder.{rest as rest_of}
use Rattle.set_cover.specs.Least.{least}
use Rattle.set_cover.specs.Cost.{cover_table, cost_table, cost}
use Rattle.set_cover.specs.Choice.{picked, best_variables, best}
use Rattle.verdict_answer.specs.First.{lowest_with, fewest_in, blocked_by}
use Rattle.verdict_answer.specs.Witness.{cost_in, choice_in, specials_of, ordinaries_of, witness_bytes}
use Rattle.verdict_answer.specs.Verdict.{untypable_in, outcome, outcome_in, schema_in, verdict_answer, verdict_schema}
use Rattle.verdict_answer.proofs.VerdictLaws.{verdict-passes}
use Rattle.type_record.specs.Lists.{read_from, read_list, listed}
use Rattle.type_record.specs.Record.{read_record, record_size, record_at, record_bytes, output_size}
use Rattle.type_record.specs.RecordBytes.{record-length}
use Rattle.membership.specs.Entries.{enter}
use Rattle.special_maps.specs.Special.{map_of, maps_from}
use Rattle.schema.specs.Schema.{read_records, schema_bytes, entries_of, maps_of, records_of, refused_schema, schema_reading, schema_size}
use Rattle.filled_schema.specs.FilledSchema.{table_filled, filled_reading}
use Rattle.table_types.specs.Output.{typed_in, output_map, output_list}
use Rattle.typing_answer.specs.Typing.{typed_answer, table_answer, typed_out, table_out, typing_answer, typing_out, Typed, Untyped}
use Rattle.typing_answer.proofs.TypingLaws.{schema-stops, schema-goes, typing-goes}
use Rattle.instantiation.specs.Instantiation.{read_lists, entries_in, subsets_of, refused_instantiation, instantiation_reading}
use Rattle.fitting.specs.Fit.{entries_fit, specials_fit}
use Rattle.apply_answer.specs.Apply.{table_applied, table_image, table_output, image_bytes, output_bytes, apply_answer, apply_space, apply_schema, apply_out, Applied}
use Rattle.apply_answer.specs.ApplyLaws.{table_fits, image-refused, read_goes, apply-goes}
use Rattle.attribute_set.specs.AttrSet.{with_attribute}
use Rattle.attribute_set.specs.Listed.{with_attributes}
use Rattle.expression_file.specs.Walk.{longest_file}
use Rattle.expression_file.specs.WrittenFile.{nodes_bytes, file_of}
use Rattle.query_language.specs.Parsed.{and_then, provided}
use Rattle.query_language.specs.Parse.{is_digit, number_of as number_value, number_at, ended_number, items_with, items_within, items_at, list_at, set_at, renaming_at, projecting_out_at, prefix_at}
use Rattle.query_language.specs.Parse.{sign_of, sign_at, relation_at, pair_with, prefixed_with, operand_with, operand_within, operand_at, parse_query}
use Rattle.query_answer.specs.QueryNodes.{nodes_from, query_file}
use Rattle.query_answer.specs.Faults.{attribute_faults, faults_of}
use Rattle.query_answer.specs.ParseQuery.{Judgement as QueryJudgement, refused as query_refused, accepted as query_accepted, judged, judgement, parse_answer, parse_file}
use Rattle.query_answer.specs.ParseLaws.{answer-accepted, judge-any}
use Rattle.examples.specs.Cases.{Column, TypingResult, typed_as, untyped, refused_with, Typing, ApplyResult, applied_as, left_empty, Application, Case, table}
use Rattle.expression_file.specs.declared.files.Header.{Header}
use Rattle.schema.specs.Judgement.{Judgement, Read, Refused as SchemaRefused}
use Rattle.apply_answer.specs.declared.Application.{Application as Lengths}

-- ---- what is compared

-- the numbers below n that pass a test, rising
unfoldable pub passing : ℕ → (ℕ → Bool) → List ℕ
passing n test = from n 0
  where
    from : ℕ → ℕ → List ℕ
    from zero s = []
    from (suc n) s = elim (test s) [ true ↦ s ∷ from n (s + 1) | false ↦ from n (s + 1) ]

-- the expression of a case's last node
abbrev pub last_of : Case → Expression
last_of x = expression_at x.file (x.nodes - 1)

-- a column of the last node has the allowed and the output subsets of the case
pub record ColumnHolds (m : ℕ) (e : Expression) (c : Column) : Type 0 where
  pub allowed : passing (2 ^ m) (allowed_bit m e c.number) ≡ c.allowed
  pub output : passing (2 ^ m) (output_bit m e c.number) ≡ c.output

-- all these columns have theirs
abbrev pub AllHold : ℕ → Expression → List Column → Type 0
AllHold m e [] = Unit
AllHold m e (c ∷ cs) = ColumnHolds m e c × AllHold m e cs

-- what Verdict does on the last node, in slices that are long enough: the answer, with the length of the witness and
-- its memberships or with the attribute, and the schema slice with the witness or as it was
pub record VerdictHolds (x : Case) (work schema : List ℕ) : Type 0 where
  pub answer : verdict_answer x.file (x.nodes - 1) (length work) (length schema) ≡ Ok (outcome (ltb x.untypable 16) x.untypable x.witness x.memberships)
  pub slice : verdict_schema x.file (x.nodes - 1) (length work) schema ≡ cond (ltb x.untypable 16) schema (over x.witness schema)

-- Typing's answer, and its slice with the output record or as it was
abbrev pub typing_said : TypingResult → Result (Option ℕ) Refusal
typing_said (typed_as output) = Typed (length output)
typing_said untyped = Untyped
typing_said (refused_with r) = Err r

abbrev pub typing_wrote : TypingResult → List ℕ → List ℕ
typing_wrote (typed_as output) out = over output out
typing_wrote untyped out = out
typing_wrote (refused_with r) out = out

-- what Typing does on the last node under a schema, in a slice that is long enough
pub record TypingHolds (x : Case) (y : Typing) (out : List ℕ) : Type 0 where
  pub answer : typing_answer x.file (x.nodes - 1) y.schema (length out) ≡ typing_said y.result
  pub slice : typing_out x.file (x.nodes - 1) y.schema out ≡ typing_wrote y.result out

-- Typing does what the case says, under each of its schemas
abbrev pub TypingsHold : Case → List Typing → List ℕ → Type 0
TypingsHold x [] out = Unit
TypingsHold x (y ∷ ys) out = TypingHolds x y out × TypingsHold x ys out

-- Apply's answer, and its two slices
abbrev pub apply_said : ApplyResult → Result Lengths Refusal
apply_said (applied_as schema output) = Applied (length schema) (length output)
apply_said left_empty = Err EmptyImage

abbrev pub image_written : ApplyResult → List ℕ → List ℕ
image_written (applied_as schema output) slice = over schema slice
image_written left_empty slice = slice

abbrev pub output_written : ApplyResult → List ℕ → List ℕ
output_written (applied_as schema output) slice = over output slice
output_written left_empty slice = slice

-- what Apply does with an instantiation on the last node, in slices that are long enough
pub record ApplyHolds (x : Case) (y : Application) (work schema out : List ℕ) : Type 0 where
  pub answer : apply_answer x.file (x.nodes - 1) y.instantiation (length work) (length schema) (length out) ≡ apply_said y.result
  pub space : apply_space x.file (x.nodes - 1) y.instantiation work (length schema) (length out) ≡ over (formulas_of x.file x.relations x.nodes) work
  pub image : apply_schema x.file (x.nodes - 1) y.instantiation (length work) schema (length out) ≡ image_written y.result schema
  pub output : apply_out x.file (x.nodes - 1) y.instantiation (length work) (length schema) out ≡ output_written y.result out

-- the same with each instantiation of the case
abbrev pub AppliesHold : Case → List Application → List ℕ → List ℕ → List ℕ → Type 0
AppliesHold x [] work schema out = Unit
AppliesHold x (y ∷ ys) work schema out = ApplyHolds x y work schema out × AppliesHold x ys work schema out

-- what parsing does with a text over the relations of the case, in a slice that is long enough: the answer, and the
-- slice with the case's file
pub record TextHolds (x : Case) (text : List ℕ) (slice : List ℕ) : Type 0 where
  pub answer : parse_answer x.relations text (length slice) ≡ Ok (length x.file)
  pub file : parse_file x.relations text slice ≡ over x.file slice

-- each of the texts is parsed to the file
abbrev pub TextsHold : Case → List (List ℕ) → List ℕ → Type 0
TextsHold x [] slice = Unit
TextsHold x (t ∷ ts) slice = TextHolds x t slice × TextsHold x ts slice

-- what holds of a case: its counts, its texts, its columns, its verdict, its typings and its instantiations
pub record Holds (x : Case) : Type 0 where
  pub accepted : acceptance x.file ≡ Accepted x.relations x.nodes
  pub texts : (slice : List ℕ) → longest_file ≤ length slice → TextsHold x x.texts slice
  pub columns : AllHold x.relations (last_of x) x.columns
  pub verdict : (work schema : List ℕ) → x.nodes * formula_size ≤ length work → schema_size ≤ length schema → VerdictHolds x work schema
  pub typings : (out : List ℕ) → output_size ≤ length out → TypingsHold x x.typings out
  pub applications :
      (work schema out : List ℕ)
      → x.nodes * formula_size ≤ length work
      → schema_size ≤ length schema
      → output_size ≤ length out
      → AppliesHold x x.applications work schema out

-- ---- the test

-- two lists are the same
unfoldable pub same : List ℕ → List ℕ → Bool
same [] [] = true
same [] (y ∷ ys) = false
same (x ∷ xs) [] = false
same (x ∷ xs) (y ∷ ys) = eqb x y && same xs ys

-- the file is accepted with these counts
unfoldable pub accepts : Result Header Refusal → ℕ → ℕ → Bool
accepts (Ok h) m' n' = eqb h.relations m' && eqb h.nodes n'
accepts (Err r) m' n' = false

-- a query is parsed to this file
judged_passes : ℕ → List ℕ → QueryJudgement → Bool
judged_passes m file (query_refused r) = false
judged_passes m file (query_accepted q) = same (query_file m q) file

-- the same of each text
texts_pass : ℕ → List ℕ → List (List ℕ) → Bool
texts_pass m file [] = true
texts_pass m file (t ∷ ts) = judged_passes m file (judgement m t longest_file) && texts_pass m file ts

-- each column of the case has its subsets
columns_pass : ℕ → Expression → List Column → Bool
columns_pass m e [] = true
columns_pass m e (c ∷ cs) =
    same (passing (2 ^ m) (allowed_bit m e c.number)) c.allowed
    && same (passing (2 ^ m) (output_bit m e c.number)) c.output
    && columns_pass m e cs

-- the witness of an untypable node and its memberships are not asked for
witness_passes : Bool → List ℕ → List ℕ → ℕ → ℕ → Bool
witness_passes true w w' c c' = true
witness_passes false w w' c c' = same w w' && eqb c c'

-- what the columns of the last node allow
abbrev allowed_of : Case → ℕ → ℕ → Bool
allowed_of x = allowed_bit x.relations (last_of x)

-- the witness and its memberships
verdict_passes : Case → Bool
verdict_passes x = witness_passes (ltb x.untypable 16) (witness_bytes x.relations (choice_in x.relations (allowed_of x))) x.witness (cost_in x.relations (allowed_of x)) x.memberships

-- a table gives this result
output_passes : Bool → TypingResult → List ℕ → Bool
output_passes true (typed_as output) o = same o output
output_passes true untyped o = false
output_passes false (typed_as output) o = false
output_passes false untyped o = true
output_passes t (refused_with r) o = false

-- this is the refusal
refusal_passes : TypingResult → Refusal → Bool
refusal_passes (typed_as output) r' = false
refusal_passes untyped r' = false
refusal_passes (refused_with r) r' = eqb (number_of r') (number_of r)

-- the schema is refused, or read with this table: Typing gives what the case says
schema_passes : Judgement → List ℕ → List ℕ → Expression → TypingResult → Bool
schema_passes (SchemaRefused r) special entries e y = refusal_passes y r
schema_passes Read special entries e y = output_passes (typed_in e special entries) y (record_bytes (output_map e special) (output_list e entries))

-- the same for each schema of the case
typings_pass : ℕ → Expression → List Typing → Bool
typings_pass m e [] = true
typings_pass m e (y ∷ ys) = schema_passes (filled_reading m y.schema).judgement (filled_reading m y.schema).special (filled_reading m y.schema).entries e y.result && typings_pass m e ys

-- the instantiation fits: by whether its image leaves no relation empty, schema and output are as the case says, or it
-- has 26
image_passes : Bool → ApplyResult → List ℕ → List ℕ → Bool
image_passes true (applied_as schema output) s o = same s schema && same o output
image_passes true left_empty s o = false
image_passes false (applied_as schema output) s o = false
image_passes false left_empty s o = true

-- the instantiation is read with this table, and Apply gives what the case says
instantiation_passes : Judgement → ℕ → Expression → List ℕ → List ℕ → ApplyResult → Bool
instantiation_passes (SchemaRefused r) m e subsets entries y = false
instantiation_passes Read m e subsets entries y =
    entries_fit m e entries
    && specials_fit m e subsets
    && image_passes (table_filled m (maps_from subsets) entries) y (image_bytes m subsets entries) (output_bytes e subsets entries)

-- the same for each instantiation of the case
applications_pass : ℕ → Expression → List Application → Bool
applications_pass m e [] = true
applications_pass m e (y ∷ ys) =
    instantiation_passes (instantiation_reading y.instantiation).judgement m e (instantiation_reading y.instantiation).subsets
    (instantiation_reading y.instantiation).entries y.result
    && applications_pass m e ys

-- everything that the case says
passes : Case → Bool
passes x =
    texts_pass x.relations x.file x.texts
    && accepts (acceptance x.file) x.relations x.nodes
    && columns_pass x.relations (last_of x) x.columns
    && eqb (untypable_in x.relations (allowed_of x)) x.untypable
    && verdict_passes x
    && ltb 0 x.nodes
    && typings_pass x.relations (last_of x) x.typings
    && applications_pass x.relations (last_of x) x.applications

-- every case passes
every : List Case → Bool
every [] = true
every (x ∷ xs) = passes x && every xs

-- ---- from the test to the facts

pub same-is : (xs ys : List ℕ) → T (same xs ys) → xs ≡ ys
unfolding same
same-is [] [] t = refl
same-is [] (y ∷ ys) t = absurd t
same-is (x ∷ xs) [] t = absurd t
same-is (x ∷ xs) (y ∷ ys) t = ap₂ ◌∷◌ (eqb→eq x y (left (eqb x y) (same xs ys) t)) (same-is xs ys (right (eqb x y) (same xs ys) t))

pub accepts-is : (a : Result Header Refusal) (m n : ℕ) → T (accepts a m n) → a ≡ Accepted m n
unfolding accepts
accepts-is (Ok h) m n t = ap₂ Accepted (eqb→eq h.relations m (left (eqb h.relations m) (eqb h.nodes n) t)) (eqb→eq h.nodes n (right (eqb h.relations m) (eqb h.nodes n) t))
accepts-is (Err r) m n t = absurd t

text-holds : (x : Case) (text slice : List ℕ) → longest_file ≤ length slice → (j : QueryJudgement) → judgement x.relations text longest_file ≡ j → T (judged_passes x.relations x.file j) → TextHolds x text slice
unfolding judged_passes
text-holds x text slice room (query_refused r) e t = absurd t
text-holds x text slice room (query_accepted q) e t =
    let is = same-is (query_file x.relations q) x.file t in
    let given = answer-accepted x.relations text slice q (judge-any x.relations text (length slice) longest_file room (le_refl longest_file) ∙ e) in
    record { answer = sym given.answer ∙ ap (λ (file : List ℕ). Ok (length file)) is; file = sym given.slice ∙ ap (λ (file : List ℕ). over file slice) is }

texts-hold : (x : Case) (ts : List (List ℕ)) (slice : List ℕ) → longest_file ≤ length slice → T (texts_pass x.relations x.file ts) → TextsHold x ts slice
unfolding texts_pass
texts-hold x [] slice room t = tt
texts-hold x (text ∷ ts) slice room t =
    let here = judged_passes x.relations x.file (judgement x.relations text longest_file) in
    let rest = texts_pass x.relations x.file ts in
    (text-holds x text slice room (judgement x.relations text longest_file) refl (left here rest t), texts-hold x ts slice room (right here rest t))

columns-hold : (m : ℕ) (e : Expression) (cs : List Column) → T (columns_pass m e cs) → AllHold m e cs
unfolding columns_pass
columns-hold m e [] t = tt
columns-hold m e (c ∷ cs) t =
    let head = left (same (passing (2 ^ m) (allowed_bit m e c.number)) c.allowed && same (passing (2 ^ m) (output_bit m e c.number)) c.output) (columns_pass m e cs) t in (
      record {
        allowed =
            same-is (passing (2 ^ m) (allowed_bit m e c.number)) c.allowed
            (left (same (passing (2 ^ m) (allowed_bit m e c.number)) c.allowed)
            (same (passing (2 ^ m) (output_bit m e c.number)) c.output) head);
        output =
            same-is (passing (2 ^ m) (output_bit m e c.number)) c.output
            (right (same (passing (2 ^ m) (allowed_bit m e c.number)) c.allowed)
            (same (passing (2 ^ m) (output_bit m e c.number)) c.output) head);
      },
      columns-hold m e cs (right (same (passing (2 ^ m) (allowed_bit m e c.number)) c.allowed && same (passing (2 ^ m) (output_bit m e c.number)) c.output) (columns_pass m e cs) t),
    )

witness-is :
    (untypable : Bool) (blocked : ℕ) (w w' : List ℕ) (c c' : ℕ) (schema : List ℕ)
    → T (witness_passes untypable w w' c c')
    → (outcome untypable blocked w c ≡ outcome untypable blocked w' c')
    × (cond untypable schema (over w schema) ≡ cond untypable schema (over w' schema))
unfolding witness_passes
witness-is true blocked w w' c c' schema t = (refl, refl)
witness-is false blocked w w' c c' schema t =
    let is = same-is w w' (left (same w w') (eqb c c') t) in
    (ap₂ (outcome false blocked) is (eqb→eq c c' (right (same w w') (eqb c c') t)), ap (λ (l : List ℕ). over l schema) is)

-- Verdict, on the last node of an accepted case
verdict-holds :
    (x : Case)
    → acceptance x.file ≡ Accepted x.relations x.nodes
    → untypable_in x.relations (allowed_of x) ≡ x.untypable
    → T (verdict_passes x)
    → 0 < x.nodes
    → (work schema : List ℕ)
    → x.nodes * formula_size ≤ length work
    → schema_size ≤ length schema
    → VerdictHolds x work schema
unfolding verdict_passes outcome_in schema_in
verdict-holds x accepted untypable t some work schema space slice =
    let admits = admitted-passes x.file (x.nodes - 1) (length work) (record { accepted = accepted; node = omega arith; work_space = space }) in
    let goes = sliced-passes (admitted x.file (x.nodes - 1) (length work)) (length schema) schema_size admits slice in
    let results = verdict-passes x.file (x.nodes - 1) work schema x.relations x.nodes goes in
    let own = witness_bytes x.relations (choice_in x.relations (allowed_of x)) in
    let number = cost_in x.relations (allowed_of x) in
    let is = witness-is (ltb x.untypable 16) x.untypable own x.witness number x.memberships schema t in
    record {
      answer = sym results.0 ∙ ap Ok (ap (λ (a : ℕ). outcome (ltb a 16) a own number) untypable ∙ is.0);
      slice = sym results.1.1 ∙ ap (λ (a : ℕ). cond (ltb a 16) schema (over own schema)) untypable ∙ is.1;
    }

output-is :
    (t : Bool) (y : TypingResult) (e : Expression) (special entries out : List ℕ)
    → T (output_passes t y (record_bytes (output_map e special) (output_list e entries)))
    → (Ok (typed_answer t e entries) ≡ typing_said y)
    × (typed_out t e special entries out ≡ typing_wrote y out)
unfolding output_passes
output-is true (typed_as o) e special entries out t =
    let is = same-is (record_bytes (output_map e special) (output_list e entries)) o t in
    (ap Typed (sym (record-length (output_map e special) (output_list e entries)) ∙ ap length is), ap (λ (l : List ℕ). over l out) is)
output-is true untyped e special entries out t = absurd t
output-is true (refused_with r) e special entries out t = absurd t
output-is false (typed_as o) e special entries out t = absurd t
output-is false untyped e special entries out t = (refl, refl)
output-is false (refused_with r) e special entries out t = absurd t

refusal_is : (y : TypingResult) (r : Refusal) (out : List ℕ) → T (refusal_passes y r) → (Err r ≡ typing_said y) × (out ≡ typing_wrote y out)
unfolding refusal_passes
refusal_is (typed_as o) r out t = absurd t
refusal_is untyped r out t = absurd t
refusal_is (refused_with r') r out t = (ap Err (number-once r r' (eqb→eq (number_of r) (number_of r') t)), refl)

typing-holds :
    (x : Case) (y : Typing) (out : List ℕ)
    → sliced (asked x.file (x.nodes - 1)) (length out) output_size ≡ Accepted x.relations x.nodes
    → (j : Judgement)
    → (filled_reading x.relations y.schema).judgement ≡ j
    → T (schema_passes j (filled_reading x.relations y.schema).special (filled_reading x.relations y.schema).entries (last_of x) y.result)
    → TypingHolds x y out
unfolding schema_passes table_answer table_out
typing-holds x y out goes (SchemaRefused r) read t =
    let results = typing-goes x.file (x.nodes - 1) y.schema out x.relations x.nodes _ _ goes refl refl in
    let stops = schema-stops (last_of x) (filled_reading x.relations y.schema) out r read in
    let is = refusal_is y.result r out t in
    record { answer = sym results.0 ∙ sym stops.0 ∙ is.0; slice = sym results.1 ∙ sym stops.1 ∙ is.1 }
typing-holds x y out goes Read read t =
    let s = filled_reading x.relations y.schema in
    let results = typing-goes x.file (x.nodes - 1) y.schema out x.relations x.nodes _ _ goes refl refl in
    let given = schema-goes (last_of x) s out read _ _ refl refl in
    let is = output-is (typed_in (last_of x) s.special s.entries) y.result (last_of x) s.special s.entries out t in
    record { answer = sym results.0 ∙ sym given.0 ∙ is.0; slice = sym results.1 ∙ sym given.1 ∙ is.1 }

typings-hold :
    (x : Case) (ys : List Typing) (out : List ℕ)
    → sliced (asked x.file (x.nodes - 1)) (length out) output_size ≡ Accepted x.relations x.nodes
    → T (typings_pass x.relations (last_of x) ys)
    → TypingsHold x ys out
unfolding typings_pass
typings-hold x [] out goes t = tt
typings-hold x (y ∷ ys) out goes t =
    let s = filled_reading x.relations y.schema in
    let here = schema_passes s.judgement s.special s.entries (last_of x) y.result in
    let rest = typings_pass x.relations (last_of x) ys in
    (typing-holds x y out goes s.judgement refl (left here rest t), typings-hold x ys out goes (right here rest t))

-- what an instantiation's table gives, once it fits
image_holds :
    (m : ℕ) (e : Expression) (subsets entries schema out : List ℕ) (y : ApplyResult)
    → entries_fit m e entries ≡ true
    → specials_fit m e subsets ≡ true
    → (filled : Bool)
    → table_filled m (maps_from subsets) entries ≡ filled
    → T (image_passes filled y (image_bytes m subsets entries) (output_bytes e subsets entries))
    → (table_applied m e subsets entries ≡ apply_said y)
    × ((table_image m e subsets entries schema ≡ image_written y schema) × (table_output m e subsets entries out ≡ output_written y out))
unfolding image_passes
image_holds m e subsets entries schema out (applied_as s o) fit special true filled t =
    let gives = table_fits m e subsets entries schema out fit special filled in
    let image = image_bytes m subsets entries in
    let written = output_bytes e subsets entries in
    let image-is = same-is image s (left (same image s) (same written o) t) in
    let output-is = same-is written o (right (same image s) (same written o) t) in
    let width = record-length (output_map e (maps_from subsets)) (output_list e entries) in (
      gives.0 ∙ ap₂ Applied (ap length image-is) (sym width ∙ ap length output-is),
      (gives.1.0 ∙ ap (λ (l : List ℕ). over l schema) image-is, gives.1.1 ∙ ap (λ (l : List ℕ). over l out) output-is),
    )
image_holds m e subsets entries schema out left_empty fit special true filled t = absurd t
image_holds m e subsets entries schema out (applied_as s o) fit special false filled t = absurd t
image_holds m e subsets entries schema out left_empty fit special false filled t = image-refused m e subsets entries schema out fit special filled

-- Apply, on the last node of an accepted case
apply-holds :
    (x : Case) (y : Application) (work schema out : List ℕ)
    → sliced (sliced (admitted x.file (x.nodes - 1) (length work)) (length schema) schema_size) (length out) output_size ≡ Accepted x.relations x.nodes
    → (j : Judgement)
    → (instantiation_reading y.instantiation).judgement ≡ j
    → T (instantiation_passes j x.relations (last_of x) (instantiation_reading y.instantiation).subsets (instantiation_reading y.instantiation).entries y.result)
    → ApplyHolds x y work schema out
unfolding instantiation_passes
apply-holds x y work schema out goes (SchemaRefused r) read t = absurd t
apply-holds x y work schema out goes Read read t =
    let i = instantiation_reading y.instantiation in
    let m = x.relations in
    let e = last_of x in
    let f = entries_fit m e i.entries in
    let s = specials_fit m e i.subsets in
    let p = image_passes (table_filled m (maps_from i.subsets) i.entries) y.result (image_bytes m i.subsets i.entries) (output_bytes e i.subsets i.entries) in
    let gives =
    image_holds m e i.subsets i.entries schema out y.result (is_true f (left f s (left (f && s) p t))) (is_true s (right f s (left (f && s) p t)))
    (table_filled m (maps_from i.subsets) i.entries) refl (right (f && s) p t) in
    let given = read_goes x.file m x.nodes e i work schema out read _ _ _ _ refl (sym gives.0) (sym gives.1.0) (sym gives.1.1) in
    let results = apply-goes x.file (x.nodes - 1) y.instantiation work schema out m x.nodes goes _ _ _ _ given.0 given.1.0 given.1.1.0 given.1.1.1 in
    record { answer = sym results.0; space = sym results.1.0; image = sym results.1.1.0; output = sym results.1.1.1 }

applies-hold :
    (x : Case) (ys : List Application) (work schema out : List ℕ)
    → sliced (sliced (admitted x.file (x.nodes - 1) (length work)) (length schema) schema_size) (length out) output_size ≡ Accepted x.relations x.nodes
    → T (applications_pass x.relations (last_of x) ys)
    → AppliesHold x ys work schema out
unfolding applications_pass
applies-hold x [] work schema out goes t = tt
applies-hold x (y ∷ ys) work schema out goes t =
    let i = instantiation_reading y.instantiation in
    let here = instantiation_passes i.judgement x.relations (last_of x) i.subsets i.entries y.result in
    let rest = applications_pass x.relations (last_of x) ys in
    (apply-holds x y work schema out goes i.judgement refl (left here rest t), applies-hold x ys work schema out goes (right here rest t))

case-holds : (x : Case) → T (passes x) → Holds x
unfolding passes
case-holds x t =
    let w = texts_pass x.relations x.file x.texts in
    let a = accepts (acceptance x.file) x.relations x.nodes in
    let c = columns_pass x.relations (last_of x) x.columns in
    let u = eqb (untypable_in x.relations (allowed_of x)) x.untypable in
    let v = verdict_passes x in
    let n = ltb 0 x.nodes in
    let y = typings_pass x.relations (last_of x) x.typings in
    let p = applications_pass x.relations (last_of x) x.applications in
    let up_to_y = left (w && a && c && u && v && n && y) p t in
    let up_to_n = left (w && a && c && u && v && n) y up_to_y in
    let up_to_v = left (w && a && c && u && v) n up_to_n in
    let up_to_u = left (w && a && c && u) v up_to_v in
    let up_to_c = left (w && a && c) u up_to_u in
    let up_to_a = left (w && a) c up_to_c in
    let accepted = accepts-is (acceptance x.file) x.relations x.nodes (right w a up_to_a) in
    let untypable = eqb→eq (untypable_in x.relations (allowed_of x)) x.untypable (right (w && a && c) u up_to_u) in
    let some = ltb→lt 0 x.nodes (right (w && a && c && u && v) n up_to_n) in
    record {
      accepted = accepted;
      texts = λ slice room. texts-hold x x.texts slice room (left w a up_to_a);
      columns = columns-hold x.relations (last_of x) x.columns (right (w && a) c up_to_c);
      verdict = λ work schema space slice. verdict-holds x accepted untypable (right (w && a && c && u) v up_to_v) some work schema space slice;
      typings =
          λ out slice. typings-hold x x.typings out
          (sliced-passes (asked x.file (x.nodes - 1)) (length out) output_size
          (asked-passes x.file (x.nodes - 1) accepted (omega arith)) slice)
          (right (w && a && c && u && v && n) y up_to_y);
      applications =
          λ work schema out space slice room. applies-hold x x.applications work schema out
          (sliced-passes (sliced (admitted x.file (x.nodes - 1) (length work)) (length schema) schema_size) (length out) output_size
          (sliced-passes (admitted x.file (x.nodes - 1) (length work)) (length schema) schema_size
          (admitted-passes x.file (x.nodes - 1) (length work) (record { accepted = accepted; node = omega arith; work_space = space })) slice) room)
          (right (w && a && c && u && v && n && y) p t);
    }

-- a case that is none, for a place past the table
abbrev pub none : Case
none = record { file = []; texts = []; relations = 0; nodes = 0; columns = []; untypable = 0; witness = []; memberships = 0; typings = []; applications = [] }

each_holds : (xs : List Case) → T (every xs) → (i : ℕ) → i < length xs → Holds (get_or xs i none)
unfolding every
each_holds [] t i h = absurd (omega arith)
each_holds (x ∷ xs) t zero h = case-holds x (left (passes x) (every xs) t)
each_holds (x ∷ xs) t (suc i) h = each_holds xs (right (passes x) (every xs) t) i (omega arith)

-- the theorem: every case of the table holds; antt computes the test
pub examples-hold : (i : ℕ) → i < length table → Holds (get_or table i none)
unfolding every passes same accepts texts_pass judged_passes columns_pass witness_passes verdict_passes output_passes refusal_passes schema_passes typings_pass image_passes instantiation_passes applications_pass
    filled_reading schema_reading refused_schema table_filled read_records read_record read_list read_from record_size record_at listed word entries_of maps_of enter typed_in output_map record_bytes
    instantiation_reading refused_instantiation read_lists entries_in subsets_of entries_fit specials_fit
    untypable_in blocked_by fewest_in lowest_with members total cost cost_table cover_table least rest_of best best_variables picked witness_bytes specials_of ordinaries_of
    schema_bytes records_of maps_from map_of passing pack tab bit lowest_from allowed_bit output_bit expression_at earlier
    acceptance parse header read_nodes read_node check_node check_fields size_of node_of refuse in_range special has_attribute set_of binary_of
    set_op_of placed_at node_entries table
    judgement judged parse_query operand_at operand_within operand_with relation_at pair_with prefixed_with sign_at sign_of prefix_at set_at
    renaming_at projecting_out_at list_at items_at items_within items_with ended_number number_at number_value is_digit and_then provided
    faults_of attribute_faults nodes_from file_of nodes_bytes with_attributes with_attribute
examples-hold = each_holds table tt
