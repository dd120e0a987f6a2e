-- Where Apply answers that it applied, and where Recover answers at all, nothing was refused: what there was to read,
-- and for Apply that it fits, from the answer itself.
use Rattle.std.specs.Prelude.{ℕ, ◌≡◌, refl, List, length, Result, Err, Ok}
use Rattle.std.proofs.Common.{sym, ap, ap₂, ◌∙◌, arith}
use Rattle.bits.specs.Word.{Bytes}
use Rattle.refusal.specs.declared.Refusal.{Refusal}
use Rattle.expression_file.specs.Accepted.{accepted-file}
use Rattle.admission.specs.Admission.{sliced, admitted}
use Rattle.admission.specs.AdmissionLaws.{sliced-passed, admitted-passed}
use Rattle.node_expression.specs.NodeExpression.{expression_at}
use Rattle.type_record.specs.Record.{TypeRecord, output_size}
use Rattle.schema.specs.Schema.{schema_size}
use Rattle.schema.specs.RecordsLaws.{records-read}
use Rattle.filled_schema.specs.FilledSchema.{table_filled, filled_reading}
use Rattle.filled_schema.specs.FilledRecords.{table_filled_lem}
use Rattle.filled_schema.specs.FilledLaws.{filled-schema}
use Rattle.special_maps.specs.Special.{maps_from}
use Rattle.instantiation.specs.Instantiation.{Instantiation, instantiation_reading, instantiation_size}
use Rattle.instantiation.specs.TableLaws.{instantiation-read, read-entries}
use Rattle.fitting.specs.Fit.{entries_fit, specials_fit}
use Rattle.apply_answer.specs.ApplyLaws.{applied-fits, read-applied, apply-applied}
use Rattle.apply_answer.specs.Apply.{read_applied, apply_answer, Applied}
use Rattle.recover_answer.specs.Recover.{recover_answer, Recovered, Untyped}
use Rattle.recover_answer.specs.RecoverLaws as Recovering
use Rattle.round_trip.specs.Undoing.{Applies, Recovers}
use Rattle.expression_file.specs.declared.files.Header.{Header}
use Rattle.expression_file.specs.ReadFile.{Accepted}
use Rattle.schema.specs.Judgement.{Judgement, Read as SchemaRead, Refused as SchemaRefused}

module _ (file : List ℕ) (k : ℕ) (bytes : List ℕ) (space size out_size : ℕ) where
  made :
      (m n s w : ℕ)
      → sliced (sliced (admitted file k space) size schema_size) out_size output_size ≡ Accepted m n
      → read_applied m (expression_at file k) (instantiation_reading bytes) ≡ Applied s w
      → (ls : List (List ℕ)) × Applies file k bytes space size out_size m n ls
  made m n s w goes said =
      let read = read-applied m (expression_at file k) (instantiation_reading bytes) s w said in
      let lists = instantiation-read bytes read.0 in
      let fit = applied-fits m (expression_at file k) (instantiation_reading bytes).subsets (instantiation_reading bytes).entries s w read.1 in
      let subsets = ap (λ (i : Instantiation). i.subsets) lists.1.is in
      let entries = read-entries bytes (instantiation_reading bytes) lists.0 lists.1 in (
        lists.0,
        record {
          goes = goes;
          read = lists.1;
          entries = sym (ap (entries_fit m (expression_at file k)) entries) ∙ fit.0;
          special = sym (ap (specials_fit m (expression_at file k)) subsets) ∙ fit.1;
          filled = sym (ap₂ (λ (x y : List ℕ). table_filled m (maps_from x) y) subsets entries) ∙ fit.2;
        },
      )

  -- Apply applied: nothing was refused
  pub applied-applies : (s w : ℕ) → apply_answer file k bytes space size out_size ≡ Applied s w → (m : ℕ) × ((n : ℕ) × ((ls : List (List ℕ)) × Applies file k bytes space size out_size m n ls))
  applied-applies s w said =
      let passed = apply-applied file k bytes space size out_size s w said in
      (passed.0, (passed.1.0, made passed.0 passed.1.0 s w passed.1.1.0 passed.1.1.1))

-- Recover recovered, or said untyped: nothing was refused
module _ (file : List ℕ) (k : ℕ) (schema work out : List ℕ) (below : Bytes schema) where
  -- what there was to read: m, n and the records
  abbrev pub Read : Type 0
  Read = (m : ℕ) × ((n : ℕ) × ((ts : List TypeRecord) × Recovers file k schema (length work) (length out) m n ts))

  pub answered-recovers : ((r : Refusal) → recover_answer file k schema (length work) (length out) ≡ Err r → ⊥) → Read
  answered-recovers other = admission (sliced (admitted file k (length work)) (length out) instantiation_size) refl
    where
      read : (m n : ℕ) → sliced (admitted file k (length work)) (length out) instantiation_size ≡ Accepted m n → (j : Judgement) → (filled_reading m schema).judgement ≡ j → Read
      read m n goes (SchemaRefused r) is =
          let stops = Recovering.read-stops file m n (expression_at file k) (filled_reading m schema) work out r is in
          absurd (other r (sym (Recovering.recover-goes file k schema work out m n goes _ _ _ refl refl refl).0 ∙ sym stops.0))
      read m n goes SchemaRead is =
          let slice = sliced-passed (admitted file k (length work)) (length out) instantiation_size goes in
          let admits = admitted-passed file k (length work) slice.0 in
          let found = filled-schema m schema is in
          let records = records-read m schema found.0 below found.1.0.read in
          let few = (accepted-file file m n admits.accepted).counts.relations.1 in (
            m,
            (
              n,
              (
                found.0,
                record {
                  accepted = admits.accepted;
                  node = admits.node;
                  work_space = admits.work_space;
                  slice = slice.1;
                  read = found.1.0.read;
                  few = found.1.0.few;
                  filled = (table_filled_lem m few found.0 records.0 records.1).0 found.1.1;
                },
              ),
            ),
          )

      admission : (a : Result Header Refusal) → sliced (admitted file k (length work)) (length out) instantiation_size ≡ a → Read
      admission (Err r) is = absurd (other r (sym (Recovering.recover-stops file k schema work out r is).0))
      admission (Ok h) is = read h.relations h.nodes is (filled_reading h.relations schema).judgement refl

  pub recovered-recovers : (size : ℕ) → recover_answer file k schema (length work) (length out) ≡ Recovered size → Read
  recovered-recovers size said = answered-recovers (λ r refused. let both = sym said ∙ refused in let z : ◌≡◌ {A = ℕ} 0 1 = cc in omega arith)

  pub untyped-recovers : recover_answer file k schema (length work) (length out) ≡ Untyped → Read
  untyped-recovers said = answered-recovers (λ r refused. let both = sym said ∙ refused in let z : ◌≡◌ {A = ℕ} 0 1 = cc in omega arith)
