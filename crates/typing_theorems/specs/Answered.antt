-- Where Typing answers typed or untyped, nothing was refused: what there was to read, from the answer itself.
use Rattle.std.specs.Prelude.{ℕ, ◌≡◌, refl, List, length, Result, Err, Ok}
use Rattle.std.proofs.Common.{sym, ◌∙◌, arith}
use Rattle.bits.specs.Word.{Bytes}
use Rattle.refusal.specs.declared.Refusal.{Refusal}
use Rattle.expression_file.specs.Accepted.{accepted-file}
use Rattle.admission.specs.Admission.{asked, sliced}
use Rattle.admission.specs.AdmissionLaws.{sliced-passed, asked-passed}
use Rattle.node_expression.specs.NodeExpression.{expression_at}
use Rattle.type_record.specs.Record.{TypeRecord, output_size}
use Rattle.schema.specs.RecordsLaws.{records-read}
use Rattle.filled_schema.specs.FilledSchema.{filled_reading}
use Rattle.filled_schema.specs.FilledRecords.{table_filled_lem}
use Rattle.filled_schema.specs.FilledLaws.{filled-schema}
use Rattle.typing_answer.specs.Typing.{typing_answer, Typed, Untyped}
use Rattle.typing_answer.proofs.TypingLaws.{schema-stops, typing-stops, typing-goes}
use Rattle.typing_theorems.specs.Theorems.{Unrefused}
use Rattle.expression_file.specs.declared.files.Header.{Header}
use Rattle.expression_file.specs.ReadFile.{Accepted}
use Rattle.schema.specs.Judgement.{Judgement, Read, Refused as SchemaRefused}

module _ (file : List ℕ) (k : ℕ) (schema out : List ℕ) (below : Bytes schema) where
  -- what there was to read
  abbrev pub Found : Type 0
  Found = (m : ℕ) × ((n : ℕ) × ((ts : List TypeRecord) × Unrefused file k schema (length out) m n ts))

  pub answered-unrefused : ((r : Refusal) → typing_answer file k schema (length out) ≡ Err r → ⊥) → Found
  answered-unrefused other = admission (sliced (asked file k) (length out) output_size) refl
    where
      read : (m n : ℕ) → sliced (asked file k) (length out) output_size ≡ Accepted m n → (j : Judgement) → (filled_reading m schema).judgement ≡ j → Found
      read m n goes (SchemaRefused r) is = absurd (other r (sym (typing-goes file k schema out m n _ _ goes refl refl).0 ∙ sym (schema-stops (expression_at file k) (filled_reading m schema) out r is).0))
      read m n goes Read is =
          let slice = sliced-passed (asked file k) (length out) output_size goes in
          let node = asked-passed file k slice.0 in
          let found = filled-schema m schema is in
          let records = records-read m schema found.0 below found.1.0.read in
          let few = (accepted-file file m n node.0).counts.relations.1 in (
            m,
            (
              n,
              (
                found.0,
                record {
                  accepted = node.0;
                  node = node.1;
                  slice = slice.1;
                  bytes = below;
                  read = found.1.0.read;
                  few = found.1.0.few;
                  filled = (table_filled_lem m few found.0 records.0 records.1).0 found.1.1;
                },
              ),
            ),
          )

      admission : (a : Result Header Refusal) → sliced (asked file k) (length out) output_size ≡ a → Found
      admission (Err r) is = absurd (other r (sym (typing-stops file k schema out r is).0))
      admission (Ok h) is = read h.relations h.nodes is (filled_reading h.relations schema).judgement refl

  -- typed was answered
  pub typed-unrefused : (size : ℕ) → typing_answer file k schema (length out) ≡ Typed size → Found
  typed-unrefused size said = answered-unrefused (λ r refused. let both = sym said ∙ refused in let z : ◌≡◌ {A = ℕ} 0 1 = cc in omega arith)

  -- untyped was answered
  pub untyped-unrefused : typing_answer file k schema (length out) ≡ Untyped → Found
  untyped-unrefused said = answered-unrefused (λ r refused. let both = sym said ∙ refused in let z : ◌≡◌ {A = ℕ} 0 1 = cc in omega arith)
