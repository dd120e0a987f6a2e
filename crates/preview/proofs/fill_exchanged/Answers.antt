use Prim.Native.Nat.{ℕ}
use mathlib.Core.Path.{sym, ap, ap₂, ◌∙◌}
use mathlib.Core.List.{List}
use native.Mathlib.Omega.{arith}
use lib.ListN.{take}
use lib.Seq.{length-take-le}
use Rattle.bits.specs.Tab.{over, take-over}
use Rattle.text.specs.Put.{wrote-front}
use Rattle.expression_file.specs.Exchanged.{exchanged}
use Rattle.admission.specs.AdmissionLaws.{asked-passes}
use Rattle.record.specs.RecordLaws.{seek-first}
use Rattle.edit_answer.specs.EditLaws.{exchanges-most}
use Rattle.stored_formula.specs.FormulaBytes.{formulas_of}
use Rattle.preview_answer.specs.PreviewLaws.{edited-accepted}
use Rattle.preview.proofs.fill_exchanged.Goals as goal

pub write_exchanged-size-requires : goal.write_exchanged-size-requires
write_exchanged-size-requires c =
    let exchanges = c.requires.exchanges in
    let most = exchanges-most exchanges in
    record {
      seeking = seek-first _ _ _ _ (asked-passes _ _ exchanges.accepted exchanges.node);
      replacement_in_bounds = omega arith;
    }

pub slice_bounds-accepted-end : goal.slice_bounds-accepted-end
slice_bounds-accepted-end c =
    let wrote = c.write_exchanged-size.ensures in
    let fits = wrote.fits in
    let same = wrote.size in
    sym (length-take-le _ _ (omega arith))

pub invariant_of-accepted : goal.invariant_of-accepted
invariant_of-accepted c =
    let wrote = wrote-front c.write_exchanged-size.ensures in
    let bytes = exchanged c.args.file.now c.args.node c.args.replacement.now in
    let part = ap₂ (λ (n : ℕ) (l : List ℕ). take n l) wrote.1 wrote.0 ∙ take-over bytes _ in
    record {
      accepted = rw part (edited-accepted c.requires.exchanges);
    }

pub returns : goal.returns
returns c =
    let wrote = wrote-front c.write_exchanged-size.ensures in
    let bytes = exchanged c.args.file.now c.args.node c.args.replacement.now in
    let part = ap₂ (λ (n : ℕ) (l : List ℕ). take n l) wrote.1 wrote.0 ∙ take-over bytes _ in
    c.fill.ensures ∙ ap (λ (l : List ℕ). over (formulas_of l c.args.header.relations c.args.header.nodes) c.args.work.now) part
