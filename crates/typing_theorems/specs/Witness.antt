-- Typing answers typed for the witness that Verdict writes, with the record of a type that the rules derive.
use Rattle.std.specs.Prelude.{ℕ, ◌≤◌, ◌≡◌, List, length, take, Ok}
use Rattle.std.proofs.Common.{sym, ◌∙◌, arith}
use Rattle.types.specs.Types.{Attrs}
use Rattle.admission.specs.AdmissionLaws.{sliced-passed, admitted-passed}
use Rattle.admission.specs.Admission.{admitted}
use Rattle.verdict_theorems.specs.Theorems.{verdict-witness}
use Rattle.verdict_answer.specs.Verdict.{verdict_answer, verdict_schema}
use Rattle.verdict_answer.proofs.VerdictLaws.{verdict-unrefused}
use Rattle.verdict_answer.specs.declared.Outcome.TheVariants.{Typable}
use Rattle.typing_answer.specs.Typing.{typing_answer, typing_out, Typed as TypedAnswer}
use Rattle.typing_theorems.specs.Theorems.{RecordOf, typing-typed}
use Rattle.type_record.specs.Record.{output_size}
use Rattle.schema.specs.Schema.{schema_size}

-- Typing answers typed for this schema, with the record of a type
abbrev pub TypesAs : List ℕ → ℕ → List ℕ → List ℕ → Type 0
TypesAs file k bytes out = (t : Attrs) × ((width : ℕ) × ((typing_answer file k bytes (length out) ≡ TypedAnswer width) × RecordOf t (take width (typing_out file k bytes out))))

module _ (file : List ℕ) (k : ℕ) (work schema : List ℕ) (out : List ℕ) (slice : output_size ≤ length out) where
  -- Verdict said typable, and wrote a schema of so many bytes
  pub verdict-typing : (size count : ℕ) → verdict_answer file k (length work) (length schema) ≡ Ok (Typable size count) → TypesAs file k (take size (verdict_schema file k (length work) schema)) out
  verdict-typing size count said =
      let found = verdict-unrefused file k work schema (λ r refused. let both = sym said ∙ refused in let z : ◌≡◌ {A = ℕ} 0 1 = cc in omega arith) in
      let admits = admitted-passed file k (length work) (sliced-passed (admitted file k (length work)) (length schema) schema_size found.1.1).0 in
      let witness = verdict-witness file found.0 found.1.0 admits.accepted k admits.node work schema size count said in
      let rules = typing-typed file k (take size (verdict_schema file k (length work) schema)) out found.0 found.1.0 witness.records
      (record {
        accepted = admits.accepted;
        node = admits.node;
        slice = slice;
        bytes = witness.below;
        read = witness.reading.read;
        few = witness.reading.few;
        filled = witness.filled;
      })
      witness.type in
      (witness.type, rules.0 witness.typed)
