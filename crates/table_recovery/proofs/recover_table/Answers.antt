use Rattle.std.proofs.Math.Seq.{take-length}
use Rattle.std.proofs.Common.{◌∙◌}
use Rattle.fitting.proofs.AloneLaws.{entries-alone, specials-alone}
use Rattle.recover_answer.specs.RecoverLaws.{entry-untyped, special-untyped, table-recovered}
use Rattle.table_recovery.proofs.recover_table.Goals as goal

pub returns-then-not-entries_allowed : goal.returns-then-not-entries_allowed
returns-then-not-entries_allowed c =
    let pre = c.requires in
    let tested = c.entries_allowed.ensures ∙ entries-alone _ _ _ c.formula_of-formula.ensures c.args.entries.now in
    let both = rw take-length at (entry-untyped _ _ _ _ _ _ _ pre.filled pre.writes_from c.args.out.now _ c.if-not-entries_allowed.true tested) in
    record {
      value = both.0;
      out_after = both.1;
    }

pub returns-then-not-specials_allowed : goal.returns-then-not-specials_allowed
returns-then-not-specials_allowed c =
    let pre = c.requires in
    let allowed = c.specials_allowed.ensures ∙ specials-alone _ _ _ c.formula_of-formula.ensures _ in
    let both = rw take-length at (special-untyped _ _ _ _ _ _ _ pre.filled pre.writes_from c.args.out.now _ _ c.if-not-specials_allowed.true c.subsets_from-subsets.ensures allowed) in
    record {
      value = both.0;
      out_after = both.1;
    }

pub returns : goal.returns
returns c =
    let pre = c.requires in
    let tested = c.entries_allowed.ensures ∙ entries-alone _ _ _ c.formula_of-formula.ensures c.args.entries.now in
    let allowed = c.specials_allowed.ensures ∙ specials-alone _ _ _ c.formula_of-formula.ensures _ in
    let both = rw take-length at (table-recovered _ _ _ _ _ _ _ pre.filled pre.writes_from c.args.out.now _ _ c.subsets_from-subsets.result c.write_instantiation.result c.write_instantiation.new.out c.if-not-entries_allowed.false tested
    c.subsets_from-subsets.ensures c.if-not-specials_allowed.false allowed
    (rw take-length c.write_instantiation.ensures.value) (rw take-length c.write_instantiation.ensures.out_after)) in
    record {
      value = both.0;
      out_after = both.1;
    }
