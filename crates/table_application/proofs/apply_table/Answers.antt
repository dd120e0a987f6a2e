use Rattle.apply_answer.specs.ApplyLaws.{variable-refused, special-refused, output-even, empty-refused, table-applied, maps-table}
use Rattle.fitting.proofs.AloneLaws.{entries-alone, specials-alone, map-alone, list-alone}
use Rattle.membership.specs.HolderLaws.{listed-fits}
use Rattle.membership.specs.Entries.{subset_of}
use Rattle.stored_formula.specs.ColumnPlace.{column_at}
use Rattle.column.specs.Column.{output_in}
use Rattle.node_expression.specs.NodeExpression.{expression-legal}
use Rattle.expression_file.specs.Accepted.{accepted-file}
use Rattle.std.specs.Prelude.{length}
use Rattle.std.proofs.Math.Seq.{take-length}
use Rattle.std.proofs.Common.{◌∙◌}
use native.Mathlib.Omega.{arith}
use Rattle.table_application.proofs.apply_table.Goals as goal

pub returns-then-not-entries_allowed : goal.returns-then-not-entries_allowed
returns-then-not-entries_allowed c =
    let pre = c.requires in
    let tested = c.entries_allowed.ensures ∙ entries-alone _ _ _ c.formula_of-formula.ensures c.args.entries.now in
    let both = rw take-length at (variable-refused _ _ _ (accepted-file _ _ _ c.args.file.now.accepted).counts.relations.1 (expression-legal _ _ _ c.args.file.now.accepted _ pre.node_lt_n) _ _ _ _ pre.filled
    pre.read_subsets c.args.schema.now c.args.out.now _ c.if-not-entries_allowed.true tested) in
    record {
      value = both.0;
      schema_after = both.1.0;
      out_after = both.1.1;
    }

pub is_filled-filled-requires : goal.is_filled-filled-requires
is_filled-filled-requires c =
    let pre = c.requires in
    let few = (accepted-file _ _ _ c.args.file.now.accepted).counts.relations.1 in
    let table = maps-table _ _ _ pre.read_subsets in
    (omega arith, rw c.maps_from-special.ensures table.maps)

pub returns-then-not-allowed : goal.returns-then-not-allowed
returns-then-not-allowed c =
    let pre = c.requires in
    let tested = c.entries_allowed.ensures ∙ entries-alone _ _ _ c.formula_of-formula.ensures c.args.entries.now in
    let allowed = c.specials_allowed-allowed.ensures ∙ specials-alone _ _ _ c.formula_of-formula.ensures _ in
    let both = rw take-length at (special-refused _ _ _ (accepted-file _ _ _ c.args.file.now.accepted).counts.relations.1 (expression-legal _ _ _ c.args.file.now.accepted _ pre.node_lt_n) _ _ _ _ pre.filled
    pre.read_subsets c.args.schema.now c.args.out.now _ _ c.if-not-entries_allowed.false tested c.if-not-allowed.true
    allowed) in
    record {
      value = both.0;
      schema_after = both.1.0;
      out_after = both.1.1;
    }

pub returns-then-not-filled : goal.returns-then-not-filled
returns-then-not-filled c =
    let pre = c.requires in
    let tested = c.entries_allowed.ensures ∙ entries-alone _ _ _ c.formula_of-formula.ensures c.args.entries.now in
    let allowed = c.specials_allowed-allowed.ensures ∙ specials-alone _ _ _ c.formula_of-formula.ensures _ in
    let both = rw take-length at (empty-refused _ _ _ (accepted-file _ _ _ c.args.file.now.accepted).counts.relations.1 (expression-legal _ _ _ c.args.file.now.accepted _ pre.node_lt_n) _ _ _ _ pre.filled
    pre.read_subsets c.args.schema.now c.args.out.now _ _ c.if-not-entries_allowed.false tested (cc) allowed _
    c.maps_from-special.ensures _ c.if-not-filled.true (rw take-length c.is_filled-filled.ensures)) in
    record {
      value = both.0;
      schema_after = both.1.0;
      out_after = both.1.1;
    }

pub write_schema-size-requires : goal.write_schema-size-requires
write_schema-size-requires c =
    let pre = c.requires in
    record {
      m_bound = (accepted-file _ _ _ c.args.file.now.accepted).counts.relations.1;
      writes_from = rw c.maps_from-special.ensures (maps-table _ _ _ pre.read_subsets);
      schema_size_in_bounds = (pre.schema_size_in_bounds.0, pre.schema_size_in_bounds.2);
    }

pub write_record-requires : goal.write_record-requires
write_record-requires c =
    let listed = c.list_output-listed.ensures in
    let args = c.args in
    let pre = c.requires in
    let tested = c.entries_allowed.ensures ∙ entries-alone _ _ _ c.formula_of-formula.ensures c.args.entries.now in
    let allowed = c.specials_allowed-allowed.ensures ∙ specials-alone _ _ _ c.formula_of-formula.ensures _ in
    let map = c.output_map-map.ensures ∙ map-alone _ _ _ c.formula_of-formula.ensures _ in
    record {
      special_value = output-even _ _ _ (accepted-file _ _ _ c.args.file.now.accepted).counts.relations.1 (expression-legal _ _ _ c.args.file.now.accepted _ pre.node_lt_n) _ _ _ _ pre.filled
          pre.read_subsets args.schema.now args.out.now _ _ c.if-not-entries_allowed.false tested
          c.if-not-allowed.false allowed _ c.maps_from-special.ensures _ map;
      listed_len_bound = listed-fits args.entries.now (length args.entries.now) (λ e. output_in (column_at c.formula_of-formula.result.now 0 0) (subset_of e)) _ (rw take-length listed.value) (rw take-length listed.list_after) pre.read_subsets.fit pre.read_subsets.few;
      output_size_in_bounds = pre.schema_size_in_bounds.1;
    }

pub returns : goal.returns
returns c =
    let schema = c.write_schema-size.ensures in
    let record_is = c.write_record.ensures in
    let pre = c.requires in
    let tested = c.entries_allowed.ensures ∙ entries-alone _ _ _ c.formula_of-formula.ensures c.args.entries.now in
    let allowed = c.specials_allowed-allowed.ensures ∙ specials-alone _ _ _ c.formula_of-formula.ensures _ in
    let map = c.output_map-map.ensures ∙ map-alone _ _ _ c.formula_of-formula.ensures _ in
    let both = rw take-length at (table-applied _ _ _ (accepted-file _ _ _ c.args.file.now.accepted).counts.relations.1 (expression-legal _ _ _ c.args.file.now.accepted _ pre.node_lt_n) _ _ _ _ pre.filled
    pre.read_subsets c.args.schema.now c.args.out.now _ _ c.if-not-entries_allowed.false tested c.if-not-allowed.false allowed _
    c.maps_from-special.ensures _ c.if-not-filled.false (rw take-length c.is_filled-filled.ensures) c.write_schema-size.result _ _ _ c.write_schema-size.new.out _ (rw take-length schema.value) (rw take-length schema.out_after) map
    (rw take-length (c.list_output-listed.ensures.list_after ∙ list-alone _ _ _ c.formula_of-formula.ensures _)) record_is.value record_is.out_after) in
    record {
      value = both.0;
      schema_after = both.1.0;
      out_after = both.1.1;
    }
